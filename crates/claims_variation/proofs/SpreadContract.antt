-- The call's promises follow from the equation alone, by what its two tests say. Assumes nothing.
use mathlib.Core.Path.{◌≡◌, refl}
use mathlib.Core.Bool.{Bool, true, false, not, ◌&&◌, ◌||◌, cond}
use Prim.Native.Nat.{ℕ, ◌<◌}
use native.Mathlib.Omega.{arith}
use lib.Dec.{T, eqb, ltb}
use lib.Ieee.{le}
use Rattle.verdict.specs.Verdicts.{need, first_refusal, refused}
use Rattle.claims_estimates.specs.Estimates.{mean_of, estimates_of}
use Rattle.claims_estimates.specs.Ranked.{Ranked}
use Rattle.claims_estimates.specs.declared.Summary.{Summary}
use Rattle.claims_estimates.specs.declared.SampleFactors.{SampleFactors}
use Rattle.claims_variation.specs.Refusals.{rising, within_limit, bad_factor, check_spread}
use Rattle.claims_variation.specs.Replies.{zero_float, spread_reply, SpreadContract, SpreadReply}
use Rattle.std.specs.Prelude.{Ok}
use Rattle.claims_variation.specs.declared.Variation.TheVariants.{Coefficient, Level}
use Rattle.claims_variation.proofs.Passed.{summary_ranked, first_good, second_good}
use Rattle.claims_variation.proofs.ExactMean.{mean_exact}
use Rattle.claims_variation.proofs.Finite.{UpTo, value_finite, value_not_below, upto_finite, upto_not_below}
use Rattle.claims_variation.proofs.Finite.{coefficient_upto}

zero_float_not_below : T (le zero_float zero_float)
zero_float_not_below = value_not_below zero_float 0 1 (omega arith) (refl, refl)

module _ (s : Summary) (f : SampleFactors) where
  refusal_given : (number : ℕ) → 0 < number → refused number 0 ≡ spread_reply s f
      → SpreadContract s f (refused number 0)
  refusal_given number some e =
      record {
        reply_is = e;
        mean_exact = λ z. absurd (omega arith);
        mean_finite = tt;
        coefficient_finite = tt;
        mean_not_below_zero = zero_float_not_below;
        coefficient_not_below_zero = zero_float_not_below;
      }

  module _ (r : Ranked s) where
    level : Ok (Level (mean_of s)) ≡ spread_reply s f → SpreadContract s f (Ok (Level (mean_of s)))
    level e =
        let exact = mean_exact s r in
        record {
          reply_is = e;
          mean_exact = λ z. exact;
          mean_finite = value_finite (mean_of s) _ 8 exact;
          coefficient_finite = tt;
          mean_not_below_zero = value_not_below (mean_of s) _ 8 (omega arith) exact;
          coefficient_not_below_zero = zero_float_not_below;
        }

    spread_out : UpTo 163840000000 (estimates_of s f).coefficient
        → Ok (Coefficient (mean_of s) (estimates_of s f).coefficient) ≡ spread_reply s f
        → SpreadContract s f (Ok (Coefficient (mean_of s) (estimates_of s f).coefficient))
    spread_out most e =
        let exact = mean_exact s r in
        record {
          reply_is = e;
          mean_exact = λ z. exact;
          mean_finite = value_finite (mean_of s) _ 8 exact;
          coefficient_finite = upto_finite _ (estimates_of s f).coefficient most;
          mean_not_below_zero = value_not_below (mean_of s) _ 8 (omega arith) exact;
          coefficient_not_below_zero = upto_not_below _ (estimates_of s f).coefficient most;
        }

  -- what the call answers after each of its tests
  replied_27 : (rising s && within_limit s && ltb 0 s.highest) ≡ false → refused 27 0 ≡ spread_reply s f
  unfolding spread_reply check_spread first_refusal need
  replied_27 ranked = rw ranked

  replied_28 : (rising s && within_limit s && ltb 0 s.highest) ≡ true
      → not (bad_factor f.xi || bad_factor f.eta) ≡ false → refused 28 0 ≡ spread_reply s f
  unfolding spread_reply check_spread first_refusal need
  replied_28 ranked good = rw (ranked, good)

  replied : (rising s && within_limit s && ltb 0 s.highest) ≡ true
      → not (bad_factor f.xi || bad_factor f.eta) ≡ true → (l : Bool) → eqb s.lowest s.highest ≡ l
      → Ok (cond l (Level (mean_of s)) (Coefficient (mean_of s) (estimates_of s f).coefficient)) ≡ spread_reply s f
  unfolding spread_reply check_spread first_refusal need estimates_of
  replied ranked good l same = rw (ranked, good, same)

  by_tests : (t u l : Bool) → (rising s && within_limit s && ltb 0 s.highest) ≡ t
      → not (bad_factor f.xi || bad_factor f.eta) ≡ u → eqb s.lowest s.highest ≡ l
      → SpreadContract s f (spread_reply s f)
  by_tests false u l ranked good same = let e = replied_27 ranked in rw (← e) (refusal_given 27 (omega arith) e)
  by_tests true false l ranked good same = let e = replied_28 ranked good in rw (← e) (refusal_given 28 (omega arith) e)
  by_tests true true true ranked good same =
      let e = replied ranked good true same in rw (← e) (level (summary_ranked s ranked) e)
  by_tests true true false ranked good same =
      let r = summary_ranked s ranked in
      let most = coefficient_upto s f r (first_good f.xi f.eta good) (second_good f.xi f.eta good) in
      let e = replied ranked good false same in
      rw (← e) (spread_out r most e)

  pub spread_promised : (reply : SpreadReply) → reply ≡ spread_reply s f → SpreadContract s f reply
  spread_promised reply e = rw e (by_tests _ _ _ refl refl refl)
