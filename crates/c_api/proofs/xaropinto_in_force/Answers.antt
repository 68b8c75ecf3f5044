-- `c_api::xaropinto_in_force` meets its contract: the fields are those of the reply, and the numbers are as the call
-- left them. Assumes nothing.
use Rattle.c_api.proofs.xaropinto_in_force.Goals as goal

pub returns : goal.returns
returns c =
    let promised = c.in_force.ensures in
    record {
      fields_are = rw (c.from.ensures, promised.reply_is);
      promised = rw promised.reply_is at promised;
    }
