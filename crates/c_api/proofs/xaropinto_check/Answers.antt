-- `c_api::xaropinto_check` meets its contract: the fields are those of the verdict, and all holds that Check
-- promises. Assumes nothing.
use mathlib.Core.Path.{refl}
use Rattle.book.proofs.CheckContract.{check_promised}
use Rattle.c_api.proofs.xaropinto_check.Goals as goal

pub returns : goal.returns
returns c =
    record {
      fields_are = rw (c.from.ensures, c.check.ensures);
      promised = check_promised _ _ refl;
    }
