-- `c_api::xaropinto_group` meets its contract: the fields are those of the reply, and the table is as Group left it.
-- Assumes nothing.
use Rattle.c_api.proofs.xaropinto_group.Goals as goal

pub returns : goal.returns
returns c =
    let promised = c.group.ensures in
    record {
      fields_are = rw (c.from.ensures, promised.reply_is);
      promised = rw promised.reply_is at promised;
    }
