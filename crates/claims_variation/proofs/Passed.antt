-- What a summary is that passed 27, and what factors are that passed 28. Assumes nothing.
use mathlib.Core.Path.{◌≡◌, refl}
use mathlib.Core.Bool.{true, false, not, ◌&&◌, ◌||◌}
use Prim.Native.Nat.{ℕ, ◌*◌}
use lib.Dec.{leb, ltb}
use lib.Ieee.{Float, nan, inf, fin, ne, is_nan, up, down}
use borrow.Author.Tests.{eq-eqb, leb-true, ltb-true, not-true}
use Rattle.std.specs.Prelude.{Ok}
use Rattle.verdict.proofs.Verdicts.{need_true, then_left}
use Rattle.conditions.proofs.Joined.{and_left, and_right, or_left, or_right}
use Rattle.claims_estimates.specs.Ranked.{Ranked}
use Rattle.claims_estimates.specs.declared.Summary.{Summary}
use Rattle.claims_estimates.specs.declared.SampleFactors.{SampleFactors}
use Rattle.claims_variation.specs.Refusals.{highest_claims, rising, within_limit, bad_factor, check_spread}

-- a double differs from itself exactly where it is not a number
pub differs : (x : Float) → ne x x ≡ is_nan x
unfolding ne is_nan
differs nan = refl
differs (inf true) = refl
differs (inf false) = refl
differs (fin true m e) = rw (eq-eqb (m * up e * down e) (m * up e * down e) refl)
differs (fin false m e) = rw (eq-eqb (m * up e * down e) (m * up e * down e) refl)

-- 27 passed
pub summary_ranked : (s : Summary) → (rising s && within_limit s && ltb 0 s.highest) ≡ true → Ranked s
unfolding rising within_limit
summary_ranked s e =
    let first = leb s.lowest s.quartile1 in
    let second = leb s.quartile1 s.median in
    let third = leb s.median s.quartile3 in
    let fourth = leb s.quartile3 s.highest in
    let lower-four =
    leb s.lowest highest_claims
    && leb s.quartile1 highest_claims
    && leb s.median highest_claims
    && leb s.quartile3 highest_claims
    in
    let limited = and_left (rising s && within_limit s) _ e in
    let all-five = and_right (rising s) (within_limit s) limited in
    let four = and_left (rising s) (within_limit s) limited in
    let three = and_left (first && second && third) fourth four in
    let two = and_left (first && second) third three in
    record {
      first = leb-true _ _ (and_left first second two);
      second = leb-true _ _ (and_right first second two);
      third = leb-true _ _ (and_right (first && second) third three);
      fourth = leb-true _ _ (and_right (first && second && third) fourth four);
      limit = leb-true _ _ (and_right lower-four (leb s.highest highest_claims) all-five);
      some = ltb-true _ _ (and_right (rising s && within_limit s) (ltb 0 s.highest) e);
    }

-- 28 passed
pub first_good : (xi eta : Float) → not (bad_factor xi || bad_factor eta) ≡ true → bad_factor xi ≡ false
first_good xi eta e = or_left (bad_factor xi) (bad_factor eta) (not-true _ e)

pub second_good : (xi eta : Float) → not (bad_factor xi || bad_factor eta) ≡ true → bad_factor eta ≡ false
second_good xi eta e = or_right (bad_factor xi) (bad_factor eta) (not-true _ e)

-- what the whole check leaves to the estimates
pub accepted_ranked : (s : Summary) (f : SampleFactors) (n : ℕ) → check_spread s f ≡ Ok n → Ranked s
unfolding check_spread
accepted_ranked s f n e = summary_ranked s (need_true _ _ _ _ (then_left _ _ _ e))
