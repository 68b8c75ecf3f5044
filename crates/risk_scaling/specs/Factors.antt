-- The four scaled factors (W-212, by FINMA 5.2.1): mortality, lapse, costs and claims, in thousand francs.
use Rattle.std.specs.Prelude.{ℕ, ◌*◌, Bool, List, [], ◌∷◌, leb, ℤ, pos, nat_abs, ◌*ℤ◌, get_or}
use Rattle.std.specs.Int.Signed.{quot_z}
use Rattle.conditions.specs.Every.{every}
use Rattle.signed.specs.Signs.{number_at}

-- a difference in centimes divided by 100,000, times its coefficient in millionths, divided by 1,000 times its span in
-- thousandths; quot_z divides towards zero
unfoldable pub scaled_of : ℤ → ℕ → ℕ → ℤ
scaled_of difference coefficient span = quot_z (quot_z difference (pos 100_000) *ℤ pos coefficient) (pos (1000 * span))

-- the factors of mortality, lapse, costs and claims; a span is how far a difference's two settings are apart (5.2.2)
unfoldable pub factors_of : List ℤ → List ℕ → List ℤ
factors_of differences coefficients =
    scaled_of (number_at differences 0) (get_or coefficients 0 0) 400 ∷
    scaled_of (number_at differences 1) (get_or coefficients 1 0) 600 ∷
    scaled_of (number_at differences 2) (get_or coefficients 2 0) 400 ∷
    scaled_of (number_at differences 3) (get_or coefficients 3 0) 50 ∷ []

-- 30 where not: no scaled factor passes 1,000,000 either way; `every test n`: the test holds for each number below n
unfoldable pub factors_small : List ℤ → Bool
factors_small f = every (λ i. leb (nat_abs (number_at f i)) 1_000_000) 4
