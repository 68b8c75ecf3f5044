-- `Signed::with_size` meets its contract, by the sign. Assumes nothing.
use mathlib.Core.Path.{◌≡◌}
use mathlib.Core.Bool.{true, false}
use native.Mathlib.Omega.{arith}
use lib.IntN.{pos}
use lib.Signed.{lt_z}
use mir.Syntax.{w64}
use mir.Val.{SFits}
use mir.ValLaws.{to_z-of_z, to_z_pos}
use Rattle.signed.specs.Signs.{with_sign}
use Rattle.signed.proofs.Sizes.{fits_abs, signed_roundtrip, sign_below, sign_not, abs_sign}
use Rattle.signed.proofs.Signed.with_size.Goals as goal

pub overflow_sub-result : goal.overflow_sub-result
overflow_sub-result c =
    let x = c.args.self.number in
    let m = c.args.m in
    let t : lt_z x (pos 0) ≡ true = rw (signed_roundtrip x (omega arith)) at c.if-x-lt0.true in
    rw (to_z_pos w64 m (omega arith), sign_below x m t) (fits_abs (with_sign x m) (omega (arith, abs_sign x m)))

pub returns-then-x-lt0 : goal.returns-then-x-lt0
returns-then-x-lt0 c =
    let x = c.args.self.number in
    let m = c.args.m in
    let t : lt_z x (pos 0) ≡ true = rw (signed_roundtrip x (omega arith)) at c.if-x-lt0.true in
    let f : SFits w64 (with_sign x m) = fits_abs (with_sign x m) (omega (arith, abs_sign x m)) in
    rw (to_z_pos w64 m (omega arith), sign_below x m t, to_z-of_z w64 (with_sign x m) f)

pub returns-else-x-lt0 : goal.returns-else-x-lt0
returns-else-x-lt0 c =
    let x = c.args.self.number in
    let m = c.args.m in
    let t : lt_z x (pos 0) ≡ false = rw (signed_roundtrip x (omega arith)) at c.if-x-lt0.false in
    rw (to_z_pos w64 m (omega arith)) (sign_not x m t)
