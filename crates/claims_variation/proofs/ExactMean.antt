-- The mean of the five is exact: its sum is a double, and so is an eighth of it. Assumes nothing.
use mathlib.Core.Path.{◌≡◌, refl, ap, ◌∙◌}
use mathlib.Core.Bool.{true, false, true≢false}
use Prim.Native.Nat.{ℕ, ◌*◌, ◌^◌, ◌<◌}
use native.Mathlib.Nat.{mul-pos, mul_assoc, mul_comm, mul_left_comm, mul_right_comm, eq_of_mul-eq-mul_right}
use native.Mathlib.Nat.{lt_of_lt_of_le, mul-lt-mul_of_pos_right}
use native.Mathlib.Omega.{arith}
use lib.Dec.{lit<, lit≤}
use lib.Ieee.{Float, nan, inf, fin, binary64, up, down, div, of_int, round}
use lib.Ieee.Back.{round_whole}
use lib.Ieee.Exact.{HasValue, round_exact}
use lib.Ieee.Fits.{down_pos}
use Rattle.claims_estimates.specs.Estimates.{double, eight, weighted, mean_of}
use Rattle.claims_estimates.specs.Ranked.{Ranked}
use Rattle.claims_estimates.specs.declared.Summary.{Summary}

-- the same double as a fraction in lower terms
lower : (x : Float) (k d n c : ℕ) → 0 < d → k ≡ n * d → HasValue x false k (c * d) → HasValue x false n c
lower nan k d n c p is h = elim h [ ]
lower (inf _) k d n c p is h = elim h [ ]
lower (fin t m e) k d n c p is h = (
  h.0,
  eq_of_mul-eq-mul_right d p (m * up e * c) (n * down e)
      (mul_assoc (m * up e) c d ∙ h.1 ∙ ap (λ (z : ℕ). z * down e) is ∙ mul_right_comm n d (down e)),
)

shifted : (x n d a b : ℕ) → x ≡ n * d → a ≡ b * 8 → x * a ≡ n * b * (8 * d)
shifted x n d a b p q = rw (p, q) (simp (mul_assoc, mul_comm, mul_left_comm))

capacity : (n : ℕ) → n < 2 ^ 53 → n * 2 ^ 1071 < 2 ^ 2098
capacity n small = lt_of_lt_of_le (mul-lt-mul_of_pos_right small (lit< tt)) (lit≤ tt)

-- an eighth of a whole number below 2 ^ 53 is a double, so nothing is rounded
eighth : (x : Float) (n : ℕ) → n < 2 ^ 53 → HasValue x false n 1 → HasValue (div binary64 x eight) false n 8
unfolding div
eighth nan n small h = elim h [ ]
eighth (inf _) n small h = elim h [ ]
eighth (fin true m e) n small h = absurd (true≢false h.0)
eighth (fin false m e) n small h =
    let w : m * up e * 1 ≡ n * down e = h.1 in
    let some : 0 < 8 * down e = mul-pos {m = 8} (omega arith) (down_pos e) in
    lower (round binary64 false (m * up e * 1) (8 * down e)) (m * up e * 1) (down e) n 8 (down_pos e) w
    (round_exact binary64 false (m * up e * 1) (8 * down e) n 1071 some small (capacity n small)
    (shifted (m * up e * 1) n (down e) (2 ^ 1074) (2 ^ 1071) w refl))

pub mean_exact : (s : Summary) → Ranked s → HasValue (mean_of s) false (weighted s) 8
unfolding mean_of weighted of_int
mean_exact s r =
    eighth (double (weighted s)) (weighted s) (omega arith) (round_whole binary64 false (weighted s) (omega arith))

pub weighted_some : (s : Summary) → Ranked s → 0 < weighted s
unfolding weighted
weighted_some s r = omega arith
