-- `c_api::xaropinto_spread` meets its contract: the fields are those of the reply. Assumes nothing.
use Rattle.c_api.proofs.xaropinto_spread.Goals as goal

pub returns : goal.returns
returns c =
    let promised = c.spread.ensures in
    record {
      fields_are = rw (c.from.ensures, promised.reply_is);
      promised = rw promised.reply_is at promised;
    }
