-- `Signed::plus` meets its contract: the sizes leave space for the sum. Assumes nothing.
use mathlib.Core.Path.{refl}
use native.Mathlib.Omega.{arith}
use lib.IntN.{◌+ℤ◌}
use mir.Syntax.{w64}
use mir.Val.{SFits}
use mir.ValLaws.{to_z-of_z}
use Rattle.signed.proofs.Sizes.{fits_abs, read_two, abs_plus}
use Rattle.signed.proofs.Signed.plus.Goals as goal

pub overflow_add-result : goal.overflow_add-result
overflow_add-result c =
    let a = c.args in
    let x = a.self.number in
    let y = a.y.number in
    rw (read_two ◌+ℤ◌ x y (omega arith) (omega arith)) (fits_abs (x +ℤ y) (omega (arith, abs_plus x y)))

pub returns : goal.returns
returns c =
    let a = c.args in
    let x = a.self.number in
    let y = a.y.number in
    let f : SFits w64 (x +ℤ y) = fits_abs (x +ℤ y) (omega (arith, abs_plus x y)) in
    rw (read_two ◌+ℤ◌ x y (omega arith) (omega arith), to_z-of_z w64 (x +ℤ y) f) refl
