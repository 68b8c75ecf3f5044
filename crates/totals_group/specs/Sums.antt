-- The table of a product group, the eight settings, and the eight totals as they grow group by group.
use Rattle.std.specs.Prelude.{List, ◌≡◌, ℕ, ◌*◌, ◌<◌, ◌≤◌, ℤ, pos, length, get_or}
use Rattle.std.specs.Int.Signed.{mag}
use Rattle.book.specs.Reading.{ValidBook}
use Rattle.settings_outgo.specs.declared.Setting.{Setting}
use Rattle.valuation.specs.Totals.{total_of_groups}
use Rattle.group_projection.specs.Added.{TableOf}

-- t is the table of product group g of an accepted book
pub record GroupTable (b : List ℕ) (g : ℕ) (t : List ℕ) : Type 0 where
  pub valid : ValidBook 1 b
  pub low : 1 ≤ g
  pub high : g ≤ 5
  pub table : TableOf b g t

-- the setting of number j stands at place j
abbrev pub EightSettings : List Setting → Type 0
EightSettings settings = (j : ℕ) → j < 8 → (d : Setting) → (get_or settings j d).number ≡ j

-- z is the sum of the first n product groups' liabilities in a setting, and not too large
pub record Sum (b : List ℕ) (setting n : ℕ) (z : ℤ) : Type 0 where
  pub is : z ≡ total_of_groups b setting n
  pub most : mag z ≤ 495_000_000_000_000_001 * n

-- the sums of all eight settings
pub record Sums (b : List ℕ) (n : ℕ) (totals : List ℤ) : Type 0 where
  pub size : length totals ≡ 8
  pub each : (j : ℕ) → j < 8 → Sum b j n (get_or totals j (pos 0))
