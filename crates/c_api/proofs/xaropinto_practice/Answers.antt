-- `c_api::xaropinto_practice` meets its contract: the reply in fields, and the bytes as the call left them.
-- Assumes nothing.
use mathlib.Core.Path.{ap, ◌∙◌}
use Rattle.c_api_fields.specs.Fields.{write_fields}
use Rattle.c_api.proofs.xaropinto_practice.Goals as goal

pub returns : goal.returns
returns c =
    let w = c.practice.ensures in
    record { fields_are = c.from.ensures ∙ ap write_fields w.reply_is; promised = rw w.reply_is at w }
