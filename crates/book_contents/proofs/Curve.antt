-- The two tests of a curve rate are its range. Assumes nothing.
use mathlib.Core.Path.{◌≡◌, refl, sym}
use mathlib.Core.Bool.{Bool, true, false}
use Prim.Native.Nat.{◌+◌}
use native.Mathlib.Omega.{arith}
use borrow.Author.Tests.{ltb-true, ltb-false, leb-true, leb-false, le-leb, lt-leb}
use lib.Dec.{leb}
use lib.IntN.{ℤ, pos, negsuc}
use lib.Signed.{lt_z, le_z}
use Rattle.book_contents.specs.Limits.{curve_rate}

pub rate_low : (x : ℤ) → lt_z x (negsuc 9999) ≡ true → false ≡ curve_rate x
unfolding curve_rate
rate_low (pos n) e = cc
rate_low (negsuc m) e = sym (lt-leb (m + 1) 10000 (omega (arith, ltb-true 9999 m e)))

pub rate_other : (x : ℤ) → lt_z x (negsuc 9999) ≡ false → le_z x (pos 200000) ≡ curve_rate x
unfolding curve_rate
rate_other (pos n) e = by (leb n 200000) refl
  where
    by : (t : Bool) → leb n 200000 ≡ t → t ≡ leb (n + 10000) 210000
    by true h = sym (le-leb (n + 10000) 210000 (omega (arith, leb-true n 200000 h)))
    by false h = sym (lt-leb (n + 10000) 210000 (omega (arith, leb-false n 200000 h)))
rate_other (negsuc m) e = sym (le-leb (m + 1) 10000 (omega (arith, ltb-false 9999 m e)))
