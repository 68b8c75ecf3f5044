-- `c_api::xaropinto_record` meets its contract: the record view's answer, passed on. Assumes nothing.
use Rattle.c_api.proofs.xaropinto_record.Goals as goal

pub returns : goal.returns
returns c = c.locate.ensures
