-- The quadratic form of four factors with their correlation (W-212, by FINMA 5.2.1).
use Rattle.std.specs.Prelude.{ℕ, List, ℤ, ◌*ℤ◌}
use Rattle.lists.specs.Sums.{signed_sum_below}
use Rattle.signed.specs.Signs.{number_at}
use Rattle.risk_model.specs.Model.{correlation_at}

-- factor i times correlation i j times factor j
abbrev pub term_of : List ℤ → List ℤ → ℕ → ℕ → ℤ
term_of r f i j = number_at f i *ℤ correlation_at r i j *ℤ number_at f j

-- the form: the terms of all i and j, added
unfoldable pub form_of : List ℤ → List ℤ → ℤ
form_of r f = signed_sum_below (λ i. signed_sum_below (λ j. term_of r f i j) 4) 4
