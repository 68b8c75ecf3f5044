-- `practice_draws::drawn_number` meets its contract: a remainder is below what it is by. Assumes nothing.
use mathlib.Core.Path.{refl}
use Prim.Native.Nat.{◌+◌}
use native.Mathlib.Omega.{arith}
use native.Mathlib.Nat.{mod-lt}
use Rattle.practice_contents.specs.Drawn.{drawn_number}
use Rattle.practice_draws.proofs.drawn_number.Goals as goal

pub returns : goal.returns
unfolding drawn_number
returns c =
    (refl, omega (arith, mod-lt c.args.draw {m = c.args.span + 1} (omega arith)))
