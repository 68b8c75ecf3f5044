-- `verdict::need` meets its contract, by the test. Assumes nothing.
use Rattle.verdict.specs.Verdicts.{need}
use Rattle.verdict.proofs.need.Goals as goal

pub returns-then-holds : goal.returns-then-holds
unfolding need
returns-then-holds c = rw c.if-holds.true

pub returns-else-holds : goal.returns-else-holds
unfolding need
returns-else-holds c = rw c.if-holds.false
