-- Cost rates out of three years of accounts (W-201, by FINMA 4.4.8). Every division rounds down.
use Rattle.std.specs.Prelude.{ℕ, ◌+◌, ◌*◌, ◌/◌, Bool, ◌&&◌, cond, List, [], ◌∷◌, get_or, eqb}
use Rattle.conditions.specs.Every.{every}
use Rattle.lists.specs.Sums.{sum_below}
use Rattle.cost_rate_shares.specs.declared.Accounts.{Accounts}

-- the figure of a year, 0 to 2, and a group, 0 for PG1 to 4 for PG5
unfoldable pub figure : List ℕ → ℕ → ℕ → ℕ
figure figures year group = get_or figures (5 * year + group) 0

-- a year's sum over the five groups
unfoldable pub year_sum : List ℕ → ℕ → ℕ
year_sum figures year = sum_below (figure figures year) 5

-- step 1: the year's expenses less 5 percent
unfoldable pub lowered : List ℕ → ℕ → ℕ
lowered expenses year = get_or expenses year 0 * 95 / 100

-- steps 2 to 4: a group's share of them, where they are split by stock, or by claims
unfoldable pub share : List ℕ → List ℕ → ℕ → ℕ → ℕ
share expenses split year group = lowered expenses year * figure split year group / year_sum split year

-- steps 4 and 5: the year's rate in millionths, both shares averaged and divided by the year's premium
unfoldable pub year_rate : Accounts → ℕ → ℕ → ℕ
year_rate a year group =
    (share a.expenses a.stock year group + share a.expenses a.claims year group) * 1_000_000
    / (2 * figure a.premium year group)

-- nothing in any of the three years; `every test n`: the test holds for each number below n
unfoldable pub none_in : List ℕ → ℕ → Bool
none_in figures group = every (λ (year : ℕ). eqb (figure figures year group) 0) 3

-- an empty group: no stock, no claims and no premium
unfoldable pub is_empty : Accounts → ℕ → Bool
is_empty a group = none_in a.stock group && none_in a.claims group && none_in a.premium group

-- step 5: the group's rate, the three years' rates averaged; 0 for an empty group
unfoldable pub accounts_rate : Accounts → ℕ → ℕ
accounts_rate a group =
    cond (is_empty a group) 0 ((year_rate a 0 group + year_rate a 1 group + year_rate a 2 group) / 3)

-- the five rates, PG1 first
unfoldable pub rates_of : Accounts → List ℕ
rates_of a = accounts_rate a 0 ∷ accounts_rate a 1 ∷ accounts_rate a 2 ∷ accounts_rate a 3 ∷ accounts_rate a 4 ∷ []
