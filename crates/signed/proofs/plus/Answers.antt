-- `signed::plus` meets its contract: the sizes leave space for the sum. Assumes nothing.
use mathlib.Core.Path.{◌≡◌, sym, subst}
use Prim.Native.Nat.{◌≤◌, ◌+◌}
use native.Mathlib.Omega.{arith}
use lib.IntN.{ℤ, ◌+ℤ◌}
use lib.Signed.{mag}
use mir.Syntax.{w64}
use mir.Val.{SFits, to_z, of_z}
use mir.ValLaws.{to_z-of_z}
use Rattle.signed.proofs.Sizes.{plus_mag}
use Rattle.signed.proofs.plus.Goals as goal
use Rattle.signed.proofs.plus.Goals.{Start}

-- the signed reading gives both numbers back
back : (c : Start) → (to_z w64 (of_z w64 c.args.a) ≡ c.args.a) × (to_z w64 (of_z w64 c.args.b) ≡ c.args.b)
back c = (to_z-of_z w64 c.args.a c.ranges.a, to_z-of_z w64 c.args.b c.ranges.b)

fits : (c : Start) → SFits w64 (c.args.a +ℤ c.args.b)
fits c = record { sfits = omega (arith, plus_mag c.args.a c.args.b) }

pub overflow_add-result : goal.overflow_add-result
overflow_add-result c = rw ((back c).0, (back c).1) (fits c)

pub returns : goal.returns
returns c =
    let e : to_z w64 (of_z w64 (to_z w64 (of_z w64 c.args.a) +ℤ to_z w64 (of_z w64 c.args.b))) ≡ c.args.a +ℤ c.args.b =
    rw ((back c).0, (back c).1) (to_z-of_z w64 (c.args.a +ℤ c.args.b) (fits c)) in
    (e, subst (λ (z : ℤ). mag z ≤ mag c.args.a + mag c.args.b + 1) (sym e) (plus_mag c.args.a c.args.b))
