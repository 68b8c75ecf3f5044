-- `signed::minus` meets its contract: the sizes leave space for the difference. Assumes nothing.
use mathlib.Core.Path.{◌≡◌}
use native.Mathlib.Omega.{arith}
use lib.IntN.{◌-ℤ◌}
use mir.Syntax.{w64}
use mir.Val.{SFits, to_z, of_z}
use mir.ValLaws.{to_z-of_z}
use Rattle.signed.proofs.Sizes.{minus_mag}
use Rattle.signed.proofs.minus.Goals as goal
use Rattle.signed.proofs.minus.Goals.{Start}

-- the signed reading gives both numbers back
back : (c : Start) → (to_z w64 (of_z w64 c.args.a) ≡ c.args.a) × (to_z w64 (of_z w64 c.args.b) ≡ c.args.b)
back c = (to_z-of_z w64 c.args.a c.ranges.a, to_z-of_z w64 c.args.b c.ranges.b)

fits : (c : Start) → SFits w64 (c.args.a -ℤ c.args.b)
fits c = record { sfits = omega (arith, minus_mag c.args.a c.args.b) }

pub overflow_sub-result : goal.overflow_sub-result
overflow_sub-result c = rw ((back c).0, (back c).1) (fits c)

pub returns : goal.returns
returns c =
    rw ((back c).0, (back c).1) (to_z-of_z w64 (c.args.a -ℤ c.args.b) (fits c))
