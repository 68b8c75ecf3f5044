-- `c_api::xaropinto_report` meets its contract: the reply in fields, and the buffer as the call left it.
-- Assumes nothing.
use mathlib.Core.Path.{ap, ◌∙◌}
use Rattle.c_api_fields.specs.Fields.{text_fields}
use Rattle.c_api.proofs.xaropinto_report.Goals as goal

pub returns : goal.returns
returns c =
    let w = c.write_report.ensures in
    record { fields_are = c.from.ensures ∙ ap text_fields w.reply_is; promised = rw w.reply_is at w }
