-- `c_api::xaropinto_write` meets its contract: the fields are those of Write's reply, and the bytes are as Write
-- left them.
-- Assumes nothing.
use mathlib.Core.Path.{ap, ◌∙◌}
use Rattle.c_api_fields.specs.Fields.{write_fields}
use Rattle.c_api.proofs.xaropinto_write.Goals as goal

pub returns : goal.returns
returns c =
    let w = c.write.ensures in
    record { fields_are = c.from.ensures ∙ ap write_fields w.reply_is; promised = rw w.reply_is at w }
