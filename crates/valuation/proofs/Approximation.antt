-- How far a rounded number is from the exact one, and what each step of a valuation does to that distance. Assumes
-- nothing.
use mathlib.Core.Bool.{Bool, true, false, not}
use Prim.Native.Nat.{ℕ, ◌+◌, ◌*◌, ◌≤◌, ◌<◌, min}
use native.Mathlib.Decide.{dec_le}
use native.Mathlib.Nat.{min-le_left, min_comm, le_of_lt, mul-le-mul_right, le_of_mul-le-mul_right, mul-pos}
use native.Mathlib.Nat.{div-mul-le_self, lt-div-mul-add}
use native.Mathlib.Omega.{arith}
use lib.Dec.{T, leb, leb→le, nleb→lt}
use Rattle.valuation.specs.Arithmetic.{Fraction, whole_fraction, plus_fraction, lesser_fraction, pick_fraction}
use Rattle.valuation.specs.Arithmetic.{rounded, exact}

-- r is at most x, and x is at most r and e millionths
pub record Near (r : ℕ) (x : Fraction) (e : ℕ) : Type 0 where
  pub positive : 0 < x.under
  pub low : r * x.under ≤ x.over
  pub high : x.over * 1_000_000 ≤ (r * 1_000_000 + e) * x.under

pub near_more : {r : ℕ} {x : Fraction} {e f : ℕ} → e ≤ f → Near r x e → Near r x f
near_more {r} {x} {e} {f} h n = record {
  positive = n.positive;
  low = n.low;
  high = omega (arith, mul-le-mul_right x.under h, n.high);
}

pub near_whole : (n : ℕ) → Near n (whole_fraction n) 0
near_whole n = record { positive = omega arith; low = omega arith; high = omega arith }

pub near_plus : {r s : ℕ} {x y : Fraction} {e f : ℕ} → Near r x e → Near s y f → Near (r + s) (plus_fraction x y)
    (e + f)
near_plus {r} {s} {x} {y} {e} {f} n m = record {
  positive = mul-pos n.positive m.positive;
  low = omega (arith, mul-le-mul_right y.under n.low, mul-le-mul_right x.under m.low);
  high = omega (arith, mul-le-mul_right y.under n.high, mul-le-mul_right x.under m.high);
}

-- times w, divided by d: the error is scaled, and the rounding adds one
pub near_part : {r : ℕ} {x : Fraction} {e : ℕ} (w d g : ℕ) → 0 < d → e * w ≤ g * d → Near r x e
    → Near (rounded.part r w d) (exact.part x w d) (g + 1_000_000)
near_part {r} {x} {e} w d g h k n = record {
  positive = mul-pos n.positive h;
  low = omega (arith, mul-le-mul_right x.under (div-mul-le_self (r * w) d), mul-le-mul_right w n.low);
  high = omega (
    arith,
    mul-le-mul_right w n.high,
    mul-le-mul_right x.under k,
    mul-le-mul_right x.under
        (lt-div-mul-add {a = r * w} h),
  );
}

-- an exact number's upper bound, from its own rounded number or from a greater exact number's
high_own : {r m : ℕ} {x : Fraction} {e g : ℕ} → e ≤ g → r ≤ m → Near r x e
    → x.over * 1_000_000 ≤ (m * 1_000_000 + g) * x.under
high_own {r} {m} {x} {e} {g} he h n =
    omega (arith, n.high, mul-le-mul_right x.under he, mul-le-mul_right x.under h)

high_other : {s m : ℕ} (x : Fraction) {y : Fraction} {f g : ℕ} → x.over * y.under ≤ y.over * x.under → f ≤ g → s ≤ m
    → Near s y f → x.over * 1_000_000 ≤ (m * 1_000_000 + g) * x.under
high_other {s} {m} x {y} {f} {g} c hf h n =
    le_of_mul-le-mul_right {k = y.under} (omega (arith, c, mul-le-mul_right x.under (high_own hf h n)))
    n.positive

-- the lesser of two, as the first of them is
near_min : {r s : ℕ} {x y : Fraction} {e f : ℕ} (g : ℕ) → e ≤ g → f ≤ g → x.over * y.under ≤ y.over * x.under
    → Near r x e → Near s y f → Near (min r s) x g
near_min {r} {s} {x} {y} {e} {f} g he hf c n m = record {
  positive = n.positive;
  low = omega (arith, n.low, mul-le-mul_right x.under (min-le_left r s));
  high = by_case (dec_le r s);
}
  where
    by_case : Dec (r ≤ s) → x.over * 1_000_000 ≤ (min r s * 1_000_000 + g) * x.under
    by_case (yes p) = high_own he (omega arith) n
    by_case (no p) = high_other x c hf (omega arith) m

-- the lesser of two: no new error
pub near_lesser : {r s : ℕ} {x y : Fraction} {e f : ℕ} (g : ℕ) → e ≤ g → f ≤ g → Near r x e → Near s y f
    → Near (min r s) (lesser_fraction x y) g
near_lesser {r} {s} {x} {y} {e} {f} g he hf n m =
    go (leb (x.over * y.under) (y.over * x.under)) (leb→le _ _) (nleb→lt _ _)
  where
    go : (t : Bool) → (T t → x.over * y.under ≤ y.over * x.under)
        → (T (not t) → y.over * x.under < x.over * y.under) → Near (min r s) (pick_fraction t x y) g
    go true p q = near_min g he hf (p tt) n m
    go false p q = rw (min_comm r s) (near_min g hf he (le_of_lt (q tt)) m n)
