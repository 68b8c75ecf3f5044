-- Where a cell's projection ends (W-203).
use Rattle.std.specs.Prelude.{cond, ◌≡◌, ℕ, zero, suc, ◌+◌, ◌-◌, eqb}
use Rattle.valuation.specs.Arithmetic.{rounded}
use Rattle.valuation.specs.Steps.{Cell, in_force}

-- the first of so many years from k on in which f is 0; the year after them where there is none
unfoldable pub first_zero : (ℕ → ℕ) → ℕ → ℕ → ℕ
first_zero f k zero = k
first_zero f k (suc left) = cond (eqb (f k) 0) k (first_zero f (k + 1) left)

-- how many years a projection of the cell computes: the first k below 50 with nothing in force, or 50 where there is
-- none
unfoldable pub years_in_force : Cell → ℕ
years_in_force c = first_zero (in_force rounded c) 0 50

-- something is in force in all years before m: from there on the search finds what it finds from year 0 on
abbrev pub Going : Cell → ℕ → Type 0
Going c m = first_zero (in_force rounded c) m (50 - m) ≡ years_in_force c
