-- `c_api::xaropinto_totals` meets its contract: Totals' answer of this same book, passed on. Assumes nothing.
-- Written out, so that the answer of other bytes is refused here and not after a long search.
use Rattle.c_api.proofs.xaropinto_totals.Goals as goal

pub returns : goal.returns
returns c = c.totals.ensures
