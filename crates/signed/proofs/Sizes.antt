-- Laws of numbers with signs by their sizes, which omega reads: bits, sums, products, the sign. Assumes nothing.
use mathlib.Core.Path.{◌≡◌, refl, ap}
use mathlib.Core.Bool.{Bool, true, false, cond, true≢false}
use Prim.Native.Nat.{ℕ, zero, suc, ◌+◌, ◌-◌, ◌*◌, ◌≤◌, ◌<◌}
use native.Mathlib.Omega.{arith}
use native.Mathlib.Nat.{le_refl, not-suc-le-zero}
use lib.Dec.{ltb, T, ltb→lt}
use lib.IntN.{ℤ, pos, negsuc, neg_ℤ, nat_abs, sub_ℕ, ◌+ℤ◌, ◌-ℤ◌, ◌*ℤ◌, +ℤ_idl}
use lib.Signed.{mag, lt_z, non_neg, ◌<ℤ◌}
use mir.Syntax.{w64}
use mir.Val.{SFits, to_z, of_z}
use mir.ValLaws.{to_z-of_z}
use borrow.Author.Tests.{ltb-true, le-ltb}
use Rattle.signed.specs.Signs.{with_sign}

mag_abs : (z : ℤ) → mag z ≤ nat_abs z
mag_abs (pos n) = le_refl n
mag_abs (negsuc n) = omega arith

pub abs_mag : (z : ℤ) → nat_abs z ≤ mag z + 1
abs_mag (pos n) = omega arith
abs_mag (negsuc n) = omega arith

pub fits_abs : (z : ℤ) → nat_abs z < 9223372036854775808 → SFits w64 z
fits_abs z h = record { sfits = omega (arith, mag_abs z) }

-- a number that fits is read back off its bits
pub signed_roundtrip : (z : ℤ) → mag z < 9223372036854775808 → to_z w64 (of_z w64 z) ≡ z
signed_roundtrip z h = to_z-of_z w64 z (record { sfits = h })

pub read_two : (op : ℤ → ℤ → ℤ) (x y : ℤ) → mag x < 9223372036854775808 → mag y < 9223372036854775808
    → op (to_z w64 (of_z w64 x)) (to_z w64 (of_z w64 y)) ≡ op x y
read_two op x y p q = rw (signed_roundtrip x p, signed_roundtrip y q)

abs_neg : (z : ℤ) → nat_abs (neg_ℤ z) ≡ nat_abs z
abs_neg (pos zero) = refl
abs_neg (pos (suc n)) = refl
abs_neg (negsuc n) = refl

sub_abs : (a b : ℕ) → nat_abs (sub_ℕ a b) ≤ a + b
sub_abs a b = by (ltb a b) (ltb-true a b)
  where
    by : (t : Bool) → (t ≡ true → a < b) → nat_abs (cond t (negsuc (b - suc a)) (pos (a - b))) ≤ a + b
    by true h = let l : a < b = h refl in omega arith
    by false h = omega arith

pub abs_plus : (x y : ℤ) → nat_abs (x +ℤ y) ≤ nat_abs x + nat_abs y
abs_plus (pos a) (pos b) = le_refl (a + b)
abs_plus (pos a) (negsuc b) = sub_abs a (suc b)
abs_plus (negsuc a) (pos b) = omega (arith, sub_abs b (suc a))
abs_plus (negsuc a) (negsuc b) = omega arith

pub abs_times : (x y : ℤ) → nat_abs (x *ℤ y) ≡ nat_abs x * nat_abs y
abs_times (pos a) (pos b) = refl
abs_times (pos a) (negsuc b) = abs_neg (pos (a * suc b))
abs_times (negsuc a) (pos b) = abs_neg (pos (suc a * b))
abs_times (negsuc a) (negsuc b) = refl

-- by the sign
pub not_below : (x : ℤ) → lt_z x (pos 0) ≡ false → T (non_neg x)
not_below (pos a) h = tt
not_below (negsuc a) h = absurd (true≢false h)

pub sign_below : (x : ℤ) (m : ℕ) → lt_z x (pos 0) ≡ true → pos 0 -ℤ pos m ≡ with_sign x m
unfolding with_sign
sign_below (pos a) m h = let l : a < 0 = ltb-true a 0 h in absurd (not-suc-le-zero l)
sign_below (negsuc a) m h = +ℤ_idl (neg_ℤ (pos m))

pub sign_not : (x : ℤ) (m : ℕ) → lt_z x (pos 0) ≡ false → pos m ≡ with_sign x m
unfolding with_sign
sign_not (pos a) m h = refl
sign_not (negsuc a) m h = absurd (true≢false h)

pub abs_sign : (x : ℤ) (m : ℕ) → nat_abs (with_sign x m) ≡ m
unfolding with_sign
abs_sign (pos a) m = refl
abs_sign (negsuc a) m = abs_neg (pos m)

-- sums and differences are not much larger than their parts
sub_mag : (a b m : ℕ) → a ≤ m → b ≤ m → mag (sub_ℕ a b) ≤ m
sub_mag a b m p q = by (ltb a b) (b - suc a) (a - b) (omega arith) (omega arith)
  where
    by : (t : Bool) (x y : ℕ) → x ≤ m → y ≤ m → mag (cond t (negsuc x) (pos y)) ≤ m
    by true x y p q = p
    by false x y p q = q

pub plus_mag : (a b : ℤ) → mag (a +ℤ b) ≤ mag a + mag b + 1
plus_mag (pos a) (pos b) = omega arith
plus_mag (pos a) (negsuc b) = sub_mag a (suc b) (a + b + 1) (omega arith) (omega arith)
plus_mag (negsuc a) (pos b) = sub_mag b (suc a) (a + b + 1) (omega arith) (omega arith)
plus_mag (negsuc a) (negsuc b) = omega arith

neg_mag : (b : ℤ) → mag (neg_ℤ b) ≤ mag b + 1
neg_mag (pos zero) = omega arith
neg_mag (pos (suc n)) = omega arith
neg_mag (negsuc n) = omega arith

pub minus_mag : (a b : ℤ) → mag (a -ℤ b) ≤ mag a + mag b + 2
minus_mag a b = omega (arith, plus_mag a (neg_ℤ b), neg_mag b)

-- a difference of two numbers is no larger than both
pub less_mag : (a b m : ℕ) → a ≤ m → b ≤ m → mag (pos a -ℤ pos b) ≤ m
less_mag a zero m p q = omega arith
less_mag a (suc n) m p q = by (ltb a (suc n)) (suc n - suc a) (a - suc n) (omega arith) (omega arith)
  where
    by : (t : Bool) (x y : ℕ) → x ≤ m → y ≤ m → mag (cond t (negsuc x) (pos y)) ≤ m
    by true x y p q = p
    by false x y p q = q

-- a number below zero and its size
pub less_one : (v : ℤ) → v <ℤ pos 0 → negsuc 0 -ℤ v ≡ pos (mag v)
less_one (pos n) h = absurd (not-suc-le-zero (ltb→lt n 0 h.lt))
less_one (negsuc k) h = let e : suc k - 1 ≡ k = omega arith in rw (le-ltb (suc k) 1 (omega arith)) (ap pos e)

pub size_one : (v : ℤ) → v <ℤ pos 0 → mag v + 1 ≡ nat_abs v
size_one (pos n) h = absurd (not-suc-le-zero (ltb→lt n 0 h.lt))
size_one (negsuc k) h = omega arith
