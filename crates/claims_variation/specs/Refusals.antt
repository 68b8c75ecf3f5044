-- The refusals of a summary of claims and of its sample factors: 27, then 28. Neither names a place.
use Rattle.std.specs.Prelude.{ℕ, Bool, false, not, ◌&&◌, ◌||◌, leb, ltb, pos, negsuc, Float}
use Rattle.std.specs.Float.{fin}
use Rattle.std.specs.Float.Ieee.{lt, is_nan}
use Rattle.verdict.specs.Verdicts.{need, ◌and_then◌, Verdict}
use Rattle.claims_estimates.specs.declared.Summary.{Summary}
use Rattle.claims_estimates.specs.declared.SampleFactors.{SampleFactors}

-- in centimes
abbrev pub highest_claims : ℕ
highest_claims = 10_000_000

-- none of the five is below the one before it
unfoldable pub rising : Summary → Bool
rising s =
    leb s.lowest s.quartile1
    && leb s.quartile1 s.median
    && leb s.median s.quartile3
    && leb s.quartile3 s.highest

-- none of the five is above the limit
unfoldable pub within_limit : Summary → Bool
within_limit s =
    leb s.lowest highest_claims
    && leb s.quartile1 highest_claims
    && leb s.median highest_claims
    && leb s.quartile3 highest_claims
    && leb s.highest highest_claims

-- 1/1,024 = 1 * 2 ^ -10
abbrev pub least_factor : Float
least_factor = fin false 1 (negsuc 9)

-- 1,000 = 125 * 2 ^ 3
abbrev pub highest_factor : Float
highest_factor = fin false 125 (pos 3)

-- below 1/1,024, above 1,000 or not a number
unfoldable pub bad_factor : Float → Bool
bad_factor x = lt x least_factor || lt highest_factor x || is_nan x

-- the verdict: 27 unless the five rise, within the limit and not to 0; then 28 where a factor is bad
unfoldable pub check_spread : Summary → SampleFactors → Verdict
check_spread s f =
    need (rising s && within_limit s && ltb 0 s.highest) 27 0 and_then
    need (not (bad_factor f.xi || bad_factor f.eta)) 28 0
