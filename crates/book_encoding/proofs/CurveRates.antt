-- A curve rate as 32 bits hold it. Assumes nothing.
use mathlib.Core.Path.{◌≡◌, refl, ◌∙◌}
use mathlib.Core.Bool.{true, false}
use Prim.Native.Nat.{ℕ, suc, ◌+◌, ◌-◌, ◌≤◌}
use native.Mathlib.Omega.{arith}
use borrow.Author.Tests.{ltb-true, le-ltb, leb-true}
use lib.Dec.{T}
use lib.IntN.{ℤ, pos, negsuc, nat_abs, ◌+ℤ◌}
use lib.Signed.{lt_z, non_neg}
use mir.Syntax.{w32, w64}
use mir.Val.{Fits, SFits, to_z, of_z}
use mir.ValLaws.{to_z-of_z}
use Rattle.book_contents.specs.Written.{twos_complement}
use Rattle.book_contents.specs.Limits.{curve_rate}

pub rate_fits : (x : ℤ) → curve_rate x ≡ true → SFits w32 x
unfolding curve_rate
rate_fits (pos n) h = record { sfits = omega (arith, leb-true (n + 10000) 210000 h) }
rate_fits (negsuc m) h = record { sfits = omega (arith, leb-true (m + 1) 10000 h) }

-- its bits are its two's complement
pub rate_bits : (x : ℤ) → of_z w32 x ≡ twos_complement x
unfolding twos_complement
rate_bits (pos n) = refl
rate_bits (negsuc m) = omega arith

-- a rate raised by so much that it is not below zero
pub raised : ℤ → ℕ → ℕ
raised (pos n) d = n + d
raised (negsuc m) d = d - suc m

pub raised_is : (x : ℤ) (d : ℕ) → curve_rate x ≡ true → 10000 ≤ d → x +ℤ pos d ≡ pos (raised x d)
unfolding curve_rate raised
raised_is (pos n) d h lo = refl
raised_is (negsuc m) d h lo = rw (le-ltb d (suc m) (omega (arith, leb-true (m + 1) 10000 h)))

pub raised_most : (x : ℤ) (d : ℕ) → curve_rate x ≡ true → raised x d ≤ 200000 + d
unfolding curve_rate raised
raised_most (pos n) d h = omega (arith, leb-true (n + 10000) 210000 h)
raised_most (negsuc m) d h = omega arith

-- it fits, is not below zero, and is what a cast makes of it
module _ (x : ℤ) (d : ℕ) (h : curve_rate x ≡ true) (lo : 10000 ≤ d) (hi : d ≤ 4294967296) where
  pub raised_fits : SFits w64 (x +ℤ pos d)
  raised_fits = rw (raised_is x d h lo) (record { sfits = omega (arith, raised_most x d h) })

  raised_back : to_z w64 (of_z w64 (x +ℤ pos d)) ≡ pos (raised x d)
  raised_back = to_z-of_z w64 (x +ℤ pos d) raised_fits ∙ raised_is x d h lo

  pub raised_casts : T (non_neg (to_z w64 (of_z w64 (x +ℤ pos d)))) × Fits w64
      (nat_abs (to_z w64 (of_z w64 (x +ℤ pos d))))
  raised_casts = rw raised_back (tt, record { fits = omega (arith, raised_most x d h) })

  pub raised_value : nat_abs (to_z w64 (of_z w64 (x +ℤ pos d))) ≡ raised x d
  raised_value = rw raised_back

-- below zero, 2 ^ 32 is added
pub below_stored : (x : ℤ) → lt_z x (pos 0) ≡ true → curve_rate x ≡ true → raised x 4294967296 ≡ twos_complement x
unfolding twos_complement curve_rate raised
below_stored (pos n) e h = absurd (omega (arith, ltb-true n 0 e))
below_stored (negsuc m) e h = omega (arith, leb-true (m + 1) 10000 h)

-- any other
pub other_stored : (x : ℤ) → lt_z x (pos 0) ≡ false → x ≡ pos (twos_complement x)
unfolding twos_complement
other_stored (pos n) e = refl
other_stored (negsuc m) e = cc
