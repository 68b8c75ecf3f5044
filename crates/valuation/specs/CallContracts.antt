-- What is promised of the distance between a figure and its exact value, in centimes.
use Rattle.std.specs.Prelude.{List, ℕ, ◌+◌, ◌*◌}
use Rattle.valuation.specs.Steps.{Cell, Terms, held, liability, exact_liability}
use Rattle.valuation.specs.Bounds.{GoodCells, GoodTerms, Within}

-- a group in a setting, with no divisor below D: a for each cell with contracts, and b
abbrev pub GroupPromise : (D a b : ℕ) → Type 0
GroupPromise D a b =
    (t : Terms) → GoodTerms D t → (cs : List Cell) → GoodCells cs
    → Within (a * held cs + b) (liability t cs) (exact_liability t cs)

-- demand 3, for any curve: no divisor of an accepted book is below 990,000. 500 centimes for each cell with contracts,
-- and 2,850
abbrev pub each_cell : ℕ
each_cell = 500

abbrev pub each_group : ℕ
each_group = 2_850

abbrev pub distance_of : ℕ → ℕ
distance_of n = each_cell * n + each_group

abbrev pub GroupDistance : Type 0
GroupDistance = GroupPromise 990_000 each_cell each_group

-- the five groups together: 500 centimes for each cell with contracts, and 14,250
abbrev pub all_groups : ℕ
all_groups = 14_250

abbrev pub total_distance_of : ℕ → ℕ
total_distance_of n = each_cell * n + all_groups

-- W-213, for a curve with no rate below zero: no divisor is below 1,000,000. Each figure is half of its own above
abbrev pub half_cell : ℕ
half_cell = 250

abbrev pub half_group : ℕ
half_group = 1_425

abbrev pub half_distance_of : ℕ → ℕ
half_distance_of n = half_cell * n + half_group

abbrev pub GroupHalfDistance : Type 0
GroupHalfDistance = GroupPromise 1_000_000 half_cell half_group

abbrev pub half_all_groups : ℕ
half_all_groups = 7_125

abbrev pub half_total_distance_of : ℕ → ℕ
half_total_distance_of n = half_cell * n + half_all_groups
