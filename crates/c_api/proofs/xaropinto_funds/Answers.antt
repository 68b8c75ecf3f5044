-- `c_api::xaropinto_funds` meets its contract: the fields are those of both verdicts, and the numbers are as the call
-- left them. Assumes nothing.
use Rattle.c_api.proofs.xaropinto_funds.Goals as goal

pub returns : goal.returns
returns c =
    let promised = c.funds.ensures in
    record {
      fields_are = rw (c.from.ensures, promised.reply_is);
      promised = rw promised.reply_is at promised;
    }
