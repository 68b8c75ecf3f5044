-- `c_api::xaropinto_deviation` meets its contract: the deviation of this same book and model. Assumes nothing.
-- Written out, so that the answer of other bytes is refused here and not after a long search.
use Rattle.c_api.proofs.xaropinto_deviation.Goals as goal

pub returns : goal.returns
returns c = c.deviation.ensures
