-- `practice_draws::drawn_rate` meets its contract: the number, less the lift. Assumes nothing.
use mathlib.Core.Path.{ap, ◌∙◌}
use Prim.Native.Nat.{ℕ}
use native.Mathlib.Omega.{arith}
use lib.IntN.{pos, ◌-ℤ◌}
use mir.Syntax.{w64}
use mir.ValLaws.{to_z-of_z}
use Rattle.book.specs.Layout.{curve_lift}
use Rattle.practice_contents.specs.Drawn.{drawn_rate}
use Rattle.practice_draws.proofs.drawn_rate.Goals as goal

pub less-requires : goal.less-requires
less-requires c = (omega (arith, c.drawn_number.ensures.1), omega arith)

pub returns : goal.returns
unfolding drawn_rate
returns c =
    to_z-of_z w64 c.less.result (record { sfits = c.less.type_inv }) ∙ c.less.ensures
    ∙ ap (λ (x : ℕ). pos x -ℤ pos curve_lift) c.drawn_number.ensures.0
