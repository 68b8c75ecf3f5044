-- Yearly claims: the example of docs/WORKED_EXAMPLES.md, level claims, and these with a factor that is
-- not a number. Assumes nothing.
use mathlib.Core.Path.{◌≡◌, refl}
use mathlib.Core.Bool.{false}
use lib.IntN.{pos, negsuc}
use lib.Ieee.{nan, fin, round, sum, add, mul, div, lt, is_nan, of_int}
use Rattle.verdict.specs.Verdicts.{need, first_refusal, refused}
use Rattle.claims_estimates.specs.Estimates.{weighted, mean_of, deviation_of, estimates_of}
use Rattle.claims_estimates.specs.declared.Summary.{Summary}
use Rattle.claims_estimates.specs.declared.SampleFactors.{SampleFactors}
use Rattle.claims_variation.specs.Refusals.{rising, within_limit, bad_factor, check_spread}
use Rattle.claims_variation.specs.Replies.{spread_reply}
use Rattle.std.specs.Prelude.{Ok}
use Rattle.claims_variation.specs.declared.Variation.TheVariants.{Coefficient}
use Rattle.claims_variation.specs.declared.Variation.TheVariants.{Level}

-- the doubles nearest to 2.847 and 1.119
pub factors : SampleFactors
factors = record { xi = fin false 6_410_874_069_561_901 (negsuc 50); eta = fin false 5_039_527_983_027_585 (negsuc 51) }

pub worked : Summary
worked = record { lowest = 152_340; quartile1 = 158_910; median = 163_275; quartile3 = 169_480; highest = 181_205 }

-- 164,609.375, and the double that is written 0.05948833839363393
pub worked_example : spread_reply worked factors
    ≡ Ok (Coefficient (fin false 1_316_875 (negsuc 2)) (fin false 1_071_646_634_489_839 (negsuc 53)))
unfolding factors worked spread_reply check_spread rising within_limit bad_factor need first_refusal estimates_of
    mean_of deviation_of weighted round sum add mul div lt is_nan of_int
worked_example = refl

pub level_claims : Summary
level_claims = record { lowest = 7; quartile1 = 7; median = 7; quartile3 = 7; highest = 7 }

pub level : spread_reply level_claims factors ≡ Ok (Level (fin false 7 (pos 0)))
unfolding factors level_claims spread_reply check_spread rising within_limit bad_factor need first_refusal estimates_of
    mean_of
    weighted round div lt is_nan of_int
level = refl

-- 28 comes before 'level'
pub not_a_number_first : spread_reply level_claims (record { xi = nan; eta = factors.eta }) ≡ refused 28 0
unfolding factors level_claims spread_reply check_spread rising within_limit bad_factor need first_refusal lt is_nan
not_a_number_first = refl
