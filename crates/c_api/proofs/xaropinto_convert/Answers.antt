-- `c_api::xaropinto_convert` meets its contract: the fields are those of the verdict, and the buffer is as the
-- converter left it. Assumes nothing.
use Rattle.c_api.proofs.xaropinto_convert.Goals as goal

pub returns : goal.returns
returns c =
    let promised = c.convert.ensures in
    record {
      fields_are = rw (c.from.ensures, promised.reply_is);
      promised = rw promised.reply_is at promised;
    }
