-- What 27 of the spread leaves to the functions here.
use Rattle.std.specs.Prelude.{◌≤◌, ◌<◌}
use Rattle.claims_estimates.specs.declared.Summary.{Summary}

-- five amounts that rise, to at most 10,000,000 and not to 0
pub record Ranked (s : Summary) : Type 0 where
  pub first : s.lowest ≤ s.quartile1
  pub second : s.quartile1 ≤ s.median
  pub third : s.median ≤ s.quartile3
  pub fourth : s.quartile3 ≤ s.highest
  pub limit : s.highest ≤ 10_000_000
  pub some : 0 < s.highest
