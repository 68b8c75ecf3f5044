-- `risk_model::model_valid` meets its contract: both tests of a model. Assumes nothing.
use Rattle.risk_model.specs.Model.{model_valid}
use Rattle.risk_model.proofs.model_valid.Goals as goal

pub returns : goal.returns
unfolding model_valid
returns c = rw (c.correlation_valid.ensures, c.coefficients_valid.ensures)
