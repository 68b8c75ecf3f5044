-- `claims_variation::bad_factor` meets its contract: a double differs from itself just where it is not a number.
-- Assumes nothing.
use mathlib.Core.Path.{ap}
use mathlib.Core.Bool.{Bool, ◌||◌}
use lib.Ieee.{lt, of_bits}
use Rattle.claims_variation.specs.Refusals.{least_factor, highest_factor, bad_factor}
use Rattle.claims_variation.proofs.Passed.{differs}
use Rattle.claims_variation.proofs.bad_factor.Goals as goal

pub returns : goal.returns
unfolding bad_factor of_bits
returns c =
    ap (λ (b : Bool). lt c.args.x least_factor || lt highest_factor c.args.x || b) (differs c.args.x)
