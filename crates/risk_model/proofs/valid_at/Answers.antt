-- `risk_model::valid_at` meets its contract: the tests of one place. Assumes nothing.
use Rattle.std.proofs.Common.{rules}
use Rattle.signed.specs.Signs.{number_at}
use Rattle.risk_model.specs.Model.{right_at}
use Rattle.risk_model.proofs.valid_at.Goals as goal

pub returns : goal.returns
unfolding right_at number_at
returns c = search rules
