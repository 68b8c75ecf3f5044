-- What the call answers, the paper's values of each case, and what is promised of them.
use Rattle.std.specs.Prelude.{ℕ, ◌≡◌, Bool, true, false, cond, T, eqb, pos, Float, Result, Ok, Err}
use Rattle.std.specs.Float.{fin}
use Rattle.std.specs.Float.Ieee.{le}
use Rattle.std.specs.Float.Ieee.Exact.{HasValue}
use Rattle.std.specs.Float.Ieee.Scale.{finite}
use Rattle.verdict.specs.Verdicts.{Verdict}
use Rattle.verdict.specs.declared.Refusal.{Refusal}
use Rattle.claims_estimates.specs.Estimates.{weighted, estimates_of}
use Rattle.claims_estimates.specs.declared.Summary.{Summary}
use Rattle.claims_estimates.specs.declared.SampleFactors.{SampleFactors}
use Rattle.claims_estimates.specs.declared.Estimates.{Estimates}
use Rattle.claims_variation.specs.Refusals.{check_spread}
use Rattle.claims_variation.specs.declared.Variation.{Variation}
use Rattle.claims_variation.specs.declared.Variation.TheVariants.{Coefficient, Level}

-- what the claims are found to be, or the refusal
abbrev pub SpreadReply : Type 0
SpreadReply = Result Variation Refusal

-- mean and coefficient; where the claims are level the mean only; or the refusal
abbrev pub spread_reply_for : Verdict → Bool → Estimates → SpreadReply
spread_reply_for (Ok n) level e = Ok (cond level (Level e.mean) (Coefficient e.mean e.coefficient))
spread_reply_for (Err r) level e = Err r

-- the reply to a summary and its factors; the claims are level where the lowest equals the highest
unfoldable pub spread_reply : Summary → SampleFactors → SpreadReply
spread_reply s f = spread_reply_for (check_spread s f) (eqb s.lowest s.highest) (estimates_of s f)

-- 0, with no sign
abbrev pub zero_float : Float
zero_float = fin false 0 (pos 0)

-- The paper's values of a reply: the refusal's number and its place, 0 and 0 where accepted; whether it is 'level';
-- mean and coefficient, 0 where it has none.
abbrev pub spread_refusal : SpreadReply → ℕ
spread_refusal (Ok v) = 0
spread_refusal (Err r) = r.number

abbrev pub spread_place : SpreadReply → ℕ
spread_place (Ok v) = 0
spread_place (Err r) = r.place

abbrev pub spread_level : SpreadReply → Bool
spread_level (Ok (Coefficient mean coefficient)) = false
spread_level (Ok (Level mean)) = true
spread_level (Err r) = false

abbrev pub spread_mean : SpreadReply → Float
spread_mean (Ok (Coefficient mean coefficient)) = mean
spread_mean (Ok (Level mean)) = mean
spread_mean (Err r) = zero_float

abbrev pub spread_coefficient : SpreadReply → Float
spread_coefficient (Ok (Coefficient mean coefficient)) = coefficient
spread_coefficient (Ok (Level mean)) = zero_float
spread_coefficient (Err r) = zero_float

-- What the call promises. The mean is exact: `HasValue x false a 8` says that x is finite, without a minus, and just
-- the fraction a / 8. No double of a reply is an infinity or not a number, and none is below zero.
pub record SpreadContract (s : Summary) (f : SampleFactors) (reply : SpreadReply) : Type 0 where
  pub reply_is : reply ≡ spread_reply s f
  pub mean_exact : spread_refusal reply ≡ 0 → HasValue (spread_mean reply) false (weighted s) 8
  pub mean_finite : T (finite (spread_mean reply))
  pub coefficient_finite : T (finite (spread_coefficient reply))
  pub mean_not_below_zero : T (le zero_float (spread_mean reply))
  pub coefficient_not_below_zero : T (le zero_float (spread_coefficient reply))
