-- No operation of the spread overflows or goes below zero: a bound that goes through each of them. Assumes nothing.
use mathlib.Core.Path.{◌≡◌, refl, sym, ap, subst}
use mathlib.Core.Bool.{Bool, true, false, cond, ◌&&◌, ◌||◌, true≢false}
use Prim.Native.Nat.{ℕ, suc, ◌+◌, ◌-◌, ◌*◌, ◌^◌, ◌≤◌, ◌<◌}
use native.Mathlib.Nat.{le_of_lt, le_of_eq, lt_of_lt_of_le, mul-pos, mul-le-mul, mul-le-mul_right}
use native.Mathlib.Nat.{le_of_mul-le-mul_right}
use native.Mathlib.Omega.{arith}
use lib.Dec.{T, ltb, eqb, ltb→lt, eqb→eq, lit≤}
use lib.Ieee.{Float, nan, inf, fin, Format, binary64, prec, emax, low, up, down, odd, units, round}
use lib.Ieee.{sum, add, mul, div, of_int, le, lt, is_nan}
use lib.Ieee.Back.{round_whole}
use lib.Ieee.Exact.{HasValue, odd_sign}
use lib.Ieee.Fits.{down_pos, round_is}
use lib.Ieee.Order.{le_of_values, round_mono}
use lib.Ieee.Positive.{first_pos}
use lib.Ieee.Scale.{finite}
use borrow.Author.Tests.{ltb-false, ne_eqb}
use Rattle.conditions.proofs.Joined.{or_left}
use Rattle.claims_estimates.specs.Estimates.{double, half, weighted, mean_of, deviation_of, estimates_of}
use Rattle.claims_estimates.specs.Ranked.{Ranked}
use Rattle.claims_estimates.specs.declared.Summary.{Summary}
use Rattle.claims_estimates.specs.declared.SampleFactors.{SampleFactors}
use Rattle.claims_variation.specs.Refusals.{least_factor, highest_factor, bad_factor}
use Rattle.claims_variation.specs.Replies.{zero_float}
use Rattle.claims_variation.proofs.ExactMean.{mean_exact, weighted_some}

-- finite, not negative and at most n
abbrev pub UpTo : ℕ → Float → Type 0
UpTo n nan = ⊥
UpTo n (inf s) = ⊥
UpTo n (fin s m e) = (s ≡ false) × (m * up e ≤ n * down e)

-- finite and at least 1 / k
abbrev AtLeast : ℕ → Float → Type 0
AtLeast k nan = ⊥
AtLeast k (inf s) = ⊥
AtLeast k (fin s m e) = (s ≡ false) × (down e ≤ m * up e * k)

-- a number, an infinity too, with no minus
abbrev Unsigned : Float → Type 0
Unsigned nan = ⊥
Unsigned (inf s) = s ≡ false
Unsigned (fin s m e) = s ≡ false

-- ---- what `round` gives has no minus, and keeps a bound
value_unsigned : (x : Float) (a c : ℕ) → HasValue x false a c → Unsigned x
value_unsigned nan a c h = h
value_unsigned (inf s) a c h = absurd h
value_unsigned (fin s m e) a c h = h.0

units_unsigned : (f : Format) (q k : ℕ) → Unsigned (units f false q k)
unfolding units
units_unsigned f q k = go (ltb (q * 2 ^ k) (2 ^ (low f + suc (emax f))))
  where
    go : (b : Bool) → Unsigned (cond b (odd (suc (prec f)) false q k (low f)) (inf false))
    go true =
        let d = suc (prec f) in
        value_unsigned (odd d false q k (low f)) (q * 2 ^ k) (2 ^ low f) (odd_sign d false q k (low f))
    go false = refl

round_unsigned : (f : Format) (a b : ℕ) → Unsigned (round f false a b)
round_unsigned f a b = subst (λ (z : Float). Unsigned z) (sym (round_is f false a b)) (units_unsigned f _ _)

or_le : (a b : ℕ) → T (ltb a b || (eqb a b && true)) → a ≤ b
or_le a b = go (ltb a b) (ltb→lt a b) (eqb a b) (eqb→eq a b)
  where
    go : (x : Bool) → (T x → a < b) → (y : Bool) → (T y → a ≡ b) → T (x || (y && true)) → a ≤ b
    go true h y k t = le_of_lt (h tt)
    go false h true k t = le_of_eq (k tt)
    go false h false k t = absurd t

below : (x y : Float) (n : ℕ) → Unsigned x → HasValue y false n 1 → T (le x y) → UpTo n x
unfolding le
below nan y n u h l = u
below (inf true) y n u h l = absurd (true≢false u)
below (inf false) nan n u h l = absurd h
below (inf false) (inf t) n u h l = absurd h
below (inf false) (fin t k d) n u h l = absurd l
below (fin true m e) y n u h l = absurd (true≢false u)
below (fin false m e) nan n u h l = absurd h
below (fin false m e) (inf t) n u h l = absurd h
below (fin false m e) (fin true k d) n u h l = absurd (true≢false h.0)
below (fin false m e) (fin false k d) n u h l = (
  refl,
  le_of_mul-le-mul_right {k = down d}
      (omega (arith, or_le (m * up e * down d) (k * up d * down e) l, ap (λ (z : ℕ). z * down e) h.1))
      (down_pos d),
)

round_upto : (n a b : ℕ) → 0 < b → n ≤ 2 ^ 53 → a ≤ n * b → UpTo n (round binary64 false a b)
round_upto n a b p small h =
    let exact = round_whole binary64 false n small in
    below (round binary64 false a b) (round binary64 false n 1) n (round_unsigned binary64 a b) exact
    (round_mono binary64 a b n 1 p (omega arith) (omega arith))

-- ---- through the operations
double_upto : (n k : ℕ) → n ≤ k → k ≤ 2 ^ 53 → UpTo k (double n)
unfolding of_int
double_upto n k h small = round_upto k n 1 (omega arith) small (omega arith)

div_upto : (n k : ℕ) (x y : Float) → n * k ≤ 2 ^ 53 → UpTo n x → AtLeast k y → UpTo (n * k) (div binary64 x y)
unfolding div
div_upto n k nan y small p q = absurd p
div_upto n k (inf s) y small p q = absurd p
div_upto n k (fin true m e) y small p q = absurd (true≢false p.0)
div_upto n k (fin false m e) nan small p q = absurd q
div_upto n k (fin false m e) (inf t) small p q = absurd q
div_upto n k (fin false m e) (fin true j d) small p q = absurd (true≢false q.0)
div_upto n k (fin false m e) (fin false j d) small p q =
    let some : 0 < j * up d = first_pos (j * up d) k (lt_of_lt_of_le (down_pos d) q.1) in
    let more : 0 < j = first_pos j (up d) some in
    rw (ne_eqb j 0 (λ (e : j ≡ 0). omega arith))
    (round_upto (n * k) (m * up e * down d) (j * up d * down e) (mul-pos some (down_pos e)) small
    (omega (arith, mul-le-mul p.1 q.1)))

add_upto : (n k : ℕ) (x y : Float) → n + k ≤ 2 ^ 53 → UpTo n x → UpTo k y → UpTo (n + k) (add binary64 x y)
unfolding add sum
add_upto n k nan y small p q = absurd p
add_upto n k (inf s) y small p q = absurd p
add_upto n k (fin true m e) y small p q = absurd (true≢false p.0)
add_upto n k (fin false m e) nan small p q = absurd q
add_upto n k (fin false m e) (inf t) small p q = absurd q
add_upto n k (fin false m e) (fin true j d) small p q = absurd (true≢false q.0)
add_upto n k (fin false m e) (fin false j d) small p q =
    let some = mul-pos (down_pos e) (down_pos d) in
    round_upto (n + k) (m * up e * down d + j * up d * down e) (down e * down d) some small
    (omega (arith, mul-le-mul_right (down d) p.1, mul-le-mul_right (down e) q.1))

half_upto : (n : ℕ) (x : Float) → n ≤ 2 ^ 53 → UpTo n x → UpTo n (mul binary64 x half)
unfolding mul
half_upto n nan small p = absurd p
half_upto n (inf s) small p = absurd p
half_upto n (fin true m e) small p = absurd (true≢false p.0)
half_upto n (fin false m e) small p =
    round_upto n (m * up e * 1) (down e * 2) (mul-pos (down_pos e) (omega arith)) small (omega (arith, p.1))

-- ---- the factors and the mean, from below
-- what is left of a bad factor's first test
not_low : (x : Float) → bad_factor x ≡ false → lt x least_factor ≡ false
unfolding bad_factor
not_low x h =
    let low = lt x least_factor in
    or_left low (lt highest_factor x) (or_left (low || lt highest_factor x) (is_nan x) h)

factor_least : (x : Float) → bad_factor x ≡ false → AtLeast 1024 x
unfolding bad_factor lt is_nan
factor_least nan h = absurd (true≢false h)
factor_least (inf true) h = absurd (true≢false h)
factor_least (inf false) h = absurd (true≢false h)
factor_least (fin true m e) h =
    absurd (omega (arith, down_pos e, ltb-false 0 (m * up e * 1024 + 1 * 1 * down e) (not_low (fin true m e) h)))
factor_least (fin false m e) h = (
  refl,
  omega (arith, ltb-false (m * up e * 1024) (1 * 1 * down e) (not_low (fin false m e) h)),
)

value_least : (x : Float) (n k : ℕ) → 0 < n → HasValue x false n k → AtLeast k x
value_least nan n k p h = h
value_least (inf s) n k p h = h
value_least (fin t m e) n k p h = (h.0, omega (arith, h.1, mul-le-mul_right (down e) p))

-- ---- together: at most 2 * 10,000,000 * 1,024 over a mean of at least 1 / 8
pub coefficient_upto : (s : Summary) (f : SampleFactors) → Ranked s → bad_factor f.xi ≡ false
    → bad_factor f.eta ≡ false → UpTo 163840000000 (estimates_of s f).coefficient
unfolding estimates_of deviation_of
coefficient_upto s f r gx ge =
    let whole = double (s.highest - s.lowest) in
    let inner = double (s.quartile3 - s.quartile1) in
    let first = div binary64 whole f.xi in
    let second = div binary64 inner f.eta in
    let together = add binary64 first second in
    let whole-upto = double_upto (s.highest - s.lowest) 10000000 (omega arith) (lit≤ tt) in
    let inner-upto = double_upto (s.quartile3 - s.quartile1) 10000000 (omega arith) (lit≤ tt) in
    div_upto 20480000000 8 (mul binary64 together half) (mean_of s) (lit≤ tt)
    (half_upto 20480000000 together (lit≤ tt)
    (add_upto 10240000000 10240000000 first second (lit≤ tt)
    (div_upto 10000000 1024 whole f.xi (lit≤ tt) whole-upto (factor_least f.xi gx))
    (div_upto 10000000 1024 inner f.eta (lit≤ tt) inner-upto (factor_least f.eta ge))))
    (value_least (mean_of s) (weighted s) 8 (weighted_some s r) (mean_exact s r))

-- ---- what a bound and an exact value say
pub value_finite : (x : Float) (n k : ℕ) → HasValue x false n k → T (finite x)
value_finite nan n k h = h
value_finite (inf s) n k h = h
value_finite (fin s m e) n k h = tt

pub value_not_below : (x : Float) (n k : ℕ) → 0 < k → HasValue x false n k → T (le zero_float x)
value_not_below x n k p h = le_of_values zero_float x 0 1 n k (omega arith) p (refl, refl) h (omega arith)

pub upto_finite : (n : ℕ) (x : Float) → UpTo n x → T (finite x)
upto_finite n nan h = h
upto_finite n (inf s) h = h
upto_finite n (fin s m e) h = tt

pub upto_not_below : (n : ℕ) (x : Float) → UpTo n x → T (le zero_float x)
upto_not_below n nan h = absurd h
upto_not_below n (inf s) h = absurd h
upto_not_below n (fin s m e) h = value_not_below (fin s m e) (m * up e) (down e) (down_pos e) (h.0, refl)
