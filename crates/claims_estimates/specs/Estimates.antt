-- What is estimated of yearly claims (W-210, by FINMA 5.2.4.2), in doubles: each operation of `lib.Ieee` rounds once,
-- in the paper's order.
use Rattle.std.specs.Prelude.{ℕ, ◌+◌, ◌-◌, ◌*◌, false, pos, negsuc, Float}
use Rattle.std.specs.Float.{fin, binary64}
use Rattle.std.specs.Float.Ieee.{add, mul, div, of_int}
use Rattle.claims_estimates.specs.declared.Summary.{Summary}
use Rattle.claims_estimates.specs.declared.SampleFactors.{SampleFactors}
use Rattle.claims_estimates.specs.declared.Estimates.{Estimates}

-- a whole number as a double
abbrev pub double : ℕ → Float
double n = of_int binary64 (pos n)

-- 8 = 1 * 2 ^ 3
abbrev pub eight : Float
eight = fin false 1 (pos 3)

-- 0.5 = 1 * 2 ^ -1
abbrev pub half : Float
half = fin false 1 (negsuc 0)

-- a + 2 q1 + 2 m + 2 q3 + b, a whole number
unfoldable pub weighted : Summary → ℕ
weighted s = s.lowest + 2 * s.quartile1 + 2 * s.median + 2 * s.quartile3 + s.highest

-- the mean: an eighth of it
unfoldable pub mean_of : Summary → Float
mean_of s = div binary64 (double (weighted s)) eight

-- the deviation: (b - a) / xi plus (q3 - q1) / eta, then times 0.5
unfoldable pub deviation_of : Summary → SampleFactors → Float
deviation_of s f =
    let by-range = div binary64 (double (s.highest - s.lowest)) f.xi in
    let by-quartiles = div binary64 (double (s.quartile3 - s.quartile1)) f.eta in
    mul binary64 (add binary64 by-range by-quartiles) half

-- mean, deviation and coefficient: deviation over mean
unfoldable pub estimates_of : Summary → SampleFactors → Estimates
estimates_of s f =
    record {
      mean = mean_of s;
      deviation = deviation_of s f;
      coefficient = div binary64 (deviation_of s f) (mean_of s);
    }
