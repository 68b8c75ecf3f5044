-- Discounting in whole numbers: one year more, that it fits, and the same of all years at once.
-- Assumes nothing.
use mathlib.Core.Path.{◌≡◌, refl, sym, ap, ◌∙◌}
use mathlib.Core.Logic.{◌≢◌, ⊎_elim}
use mathlib.Core.List.{List, [], ◌∷◌}
use Prim.Native.Nat.{ℕ, zero, suc, ◌+◌, ◌-◌, ◌*◌, ◌/◌, ◌≤◌, ◌<◌, min}
use native.Mathlib.Nat.{zero-div, div-le_of_le-mul, mul-le-mul_right, mul-div-mul_left, eq-or-lt_of_le, eq-zero-or-pos}
use native.Mathlib.Numerals.{sub-one}
use native.Mathlib.Omega.{arith}
use lib.ListN.{length, get_or, set}
use lib.Seq.{get_or-set_other}
use Rattle.lists.specs.AtMost.{AtMost}
use Rattle.valuation.specs.Arithmetic.{rounded}
use Rattle.valuation.specs.Steps.{discounted}
use Rattle.discount.specs.Discount.{divisors, Stepped, Discounted, DiscountedIn}
use Rattle.discount.specs.declared.curve.YearDivisor.{YearDivisor}

discounted_none : (d j x : ℕ) → j ≡ 0 → x ≡ discounted rounded d j x
unfolding discounted
discounted_none d j x e = rw e

discounted_more : (d j x : ℕ) → 0 < j → discounted rounded d j x ≡ discounted rounded d (j - 1) x * 1_000_000 / d
unfolding discounted
discounted_more d zero x h = omega arith
discounted_more d (suc j) x h = rw (sub-one (suc j))

-- one step on the amount discounted for one year less
one_back : (d j x y r : ℕ) → 0 < j → y ≡ discounted rounded d (j - 1) x → r ≡ y * 1_000_000 / d
    → r ≡ discounted rounded d j x
one_back d j x y r h e s = s ∙ ap (λ (z : ℕ). z * 1_000_000 / d) e ∙ sym (discounted_more d j x h)

-- a year back at a divisor of at least 990,000 adds at most a fiftieth of the first bound
back_most : (d j y : ℕ) → 990_000 ≤ d → 0 < j → j ≤ 49 → y ≤ 4_000_000_000_000_000 + 82_000_000_000_000 * (j - 1)
    → y * 1_000_000 / d ≤ 4_000_000_000_000_000 + 82_000_000_000_000 * j
back_most d j y hd h hj hy =
    div-le_of_le-mul d (omega (arith, mul-le-mul_right (4_000_000_000_000_000 + 82_000_000_000_000 * j) hd))

-- what is doubled over what is doubled
pub halved : (x d : ℕ) → 2 * x * 1_000_000 / (2 * d) ≡ x * 1_000_000 / d
halved x d =
    let e : 2 * x * 1_000_000 ≡ 2 * (x * 1_000_000) = omega arith in
    ap (λ (n : ℕ). n / (2 * d)) e ∙ mul-div-mul_left (x * 1_000_000) d (omega arith)

-- no divisor of a curve is below 990,000
pub divisor_low : (curve : List YearDivisor) (k : ℕ) → k < length curve → 990_000 ≤ get_or (divisors curve) k 0
divisor_low [] k h = absurd (omega arith)
divisor_low (y ∷ curve) zero h = y.low
divisor_low (y ∷ curve) (suc k) h = divisor_low curve k (omega arith)

-- a step past a list's end is one on nothing
step_at : (u : List ℕ) (k d : ℕ) → get_or (set u k (get_or u k 0 * 1_000_000 / d)) k 0 ≡ get_or u k 0 * 1_000_000 / d
step_at [] k d = sym (zero-div d)
step_at (x ∷ u) zero d = refl
step_at (x ∷ u) (suc k) d = step_at u k d

-- the years from `from` to before k have gone a year back: none at first, then one more, or two
module _ (divisors : List ℕ) (from : ℕ) (before : List ℕ) where
  pub stepped_none : Stepped divisors from from before before
  stepped_none = record { stepped = λ k l h. absurd (omega arith); earlier = λ k h. refl; later = λ k h. refl }

  pub stepped_more : (k : ℕ) (u v : List ℕ) → from ≤ k → Stepped divisors from k before u
      → v ≡ set u k (get_or u k 0 * 1_000_000 / get_or divisors k 0) → Stepped divisors from (k + 1) before v
  stepped_more k u v l s e = record {
    stepped = λ i li hi. at i li (omega arith);
    earlier = λ i hi. other i (λ q. omega arith) ∙ s.earlier i hi;
    later = λ i hi. other i (λ q. omega arith) ∙ s.later i (omega arith);
  }
    where
      x : ℕ
      x = get_or u k 0 * 1_000_000 / get_or divisors k 0

      other : (i : ℕ) → i ≢ k → get_or v i 0 ≡ get_or u i 0
      other i n = rw e (get_or-set_other u k i x 0 n)

      here : get_or v k 0 ≡ get_or before k 0 * 1_000_000 / get_or divisors k 0
      here = rw e (step_at u k (get_or divisors k 0) ∙ ap (λ (y : ℕ). y * 1_000_000 / get_or divisors k 0)
          (s.later k (omega arith)))

      at : (i : ℕ) → from ≤ i → i ≤ k → get_or v i 0 ≡ get_or before i 0 * 1_000_000 / get_or divisors i 0
      at i li le = ⊎_elim (λ (q : i ≡ k). rw q here) (λ (g : i < k). other i (λ q. omega arith) ∙ s.stepped i li g)
          (eq-or-lt_of_le le)

  pub stepped_two : (k : ℕ) (u v w : List ℕ) → from ≤ k → Stepped divisors from k before u
      → v ≡ set u k (get_or u k 0 * 1_000_000 / get_or divisors k 0)
      → w ≡ set v (k + 1) (get_or v (k + 1) 0 * 1_000_000 / get_or divisors (k + 1) 0)
      → Stepped divisors from (k + 2) before w
  stepped_two k u v w l s e f =
      let two : k + 1 + 1 ≡ k + 2 = omega arith in
      rw two at (stepped_more (k + 1) v w (omega arith) (stepped_more k u v l s e) f)

-- all years at once: for no year, and for one year more
module _ (divisors : List ℕ) (to : ℕ) (before : List ℕ) where
  pub in_none : (j : ℕ) → j ≡ 0 → AtMost 4_000_000_000_000_000 to before → DiscountedIn divisors j to before before
  in_none j e small = record { each = none }
    where
      none : (k : ℕ) → k < to → Discounted (get_or divisors k 0) (min j k) (get_or before k 0) (get_or before k 0)
      none k h =
          let z : min j k ≡ 0 = omega arith in
          record {
            is = discounted_none (get_or divisors k 0) (min j k) (get_or before k 0) z;
            most = omega
                (arith, small.each k h);
          }

  pub in_more : (j : ℕ) (u v : List ℕ) → 0 < j → j < to → to ≤ 50 → ((k : ℕ) → k < to → 990_000 ≤ get_or divisors k 0)
      → DiscountedIn divisors (j - 1) to before u → Stepped divisors j to u v → DiscountedIn divisors j to before v
  in_more j u v some lj lt low p s = record { each = λ k h. ⊎_elim (reached k h) (passed k h) (eq-zero-or-pos (j - k)) }
    where
      reached : (k : ℕ) → k < to → j - k ≡ 0
          → Discounted (get_or divisors k 0) (min j k) (get_or before k 0) (get_or v k 0)
      reached k h l =
          let d = get_or divisors k 0 in
          let e : min j k ≡ j = omega arith in
          let f : min (j - 1) k ≡ j - 1 = omega arith in
          let y = rw f at (p.each k h) in
          let t = s.stepped k (omega arith) h in
          rw e
          (record {
            is = one_back d j (get_or before k 0) (get_or u k 0) (get_or v k 0) some y.is t;
            most = rw t (back_most d j (get_or u k 0) (low k h) some (omega arith) y.most);
          })

      passed : (k : ℕ) → k < to → 0 < j - k
          → Discounted (get_or divisors k 0) (min j k) (get_or before k 0) (get_or v k 0)
      passed k h l =
          let e : min (j - 1) k ≡ min j k = omega arith in
          rw (s.earlier k (omega arith), ← e) (p.each k h)

  -- what is discounted leaves space for a further step
  pub capacity : (j : ℕ) (u : List ℕ) → j ≤ 49 → DiscountedIn divisors j to before u
      → AtMost 10_000_000_000_000_000 to u
  capacity j u h p = record { each = λ k l. omega (arith, (p.each k l).most) }
