-- `five_cells_year_0::year_0` meets its contract: a share of whole contracts is so many times the amount of one.
-- Assumes nothing.
use mathlib.Core.Path.{◌≡◌, ap, ◌∙◌}
use mathlib.Core.List.{List}
use Prim.Native.Nat.{ℕ, ◌*◌, ◌/◌, ◌≤◌}
use native.Mathlib.Nat.{add-zero, mul-le-mul, le_trans}
use native.Mathlib.Omega.{arith}
use Rattle.settings_columns.specs.Columns.{columns_of, five_columns, survives_in, persists_in}
use Rattle.settings.specs.declared.ByPeriod.{ByPeriod}
use Rattle.settings_columns.specs.declared.Columns.{Columns}
use Rattle.settings_columns.specs.Columns.{FiveColumns}
use Rattle.rate_table.specs.Rows.{rate, RowReady}
use Rattle.cell.specs.declared.Cell.{Cell}
use Rattle.cell.specs.States.{Projectable, Ready, next_by, next_year}
use Rattle.cell.proofs.Cells.{state_ready, state_start, held_low, next_held}
use Rattle.five_cells.specs.Five.{start_of, next_five, ten_more, five_times_more}
use Rattle.five_cells_year_0.proofs.year_0.Goals as goal

-- the cell's first row, and what its contracts bring in at most
first_row : (t : List ℕ) (r n : ℕ) → Projectable t r n → RowReady t r
first_row t r n s = rw (add-zero r) at (s.rows 0 (omega arith))

premium_le : (t : List ℕ) (r n : ℕ) → Projectable t r n → n * rate t r 6 ≤ 1000000000000
premium_le t r n s = le_trans (mul-le-mul s.few (first_row t r n s).premium) (omega arith)

claims_le : (t : List ℕ) (r n : ℕ) → Projectable t r n → n * rate t r 7 ≤ 1000000000000
claims_le t r n s = le_trans (mul-le-mul s.few (first_row t r n s).claims) (omega arith)

pub overflow_mul-premium-2 : goal.overflow_mul-premium-2
overflow_mul-premium-2 c = omega (arith, premium_le _ _ _ c.requires.0)

pub overflow_mul-claims-2 : goal.overflow_mul-claims-2
overflow_mul-claims-2 c = omega (arith, claims_le _ _ _ c.requires.0)

pub add_year_0-requires : goal.add_year_0-requires
add_year_0-requires c =
    (premium_le _ _ _ c.requires.0, claims_le _ _ _ c.requires.0, c.requires.1)

-- the state that is stepped, by the columns of a projection
steps : (t : List ℕ) (r n setting : ℕ) (c : Cell) (d : ByPeriod Columns) → Projectable t r n
    → c ≡ record { row = r; inforce = n * 1000000000 } → d ≡ columns_of setting
    → Ready t c × (survives_in d 0 ≤ 5) × (persists_in d 0 ≤ 5)
steps t r n setting c d s e h =
    let low = held_low setting 0 d h in
    (rw e (rw (state_start t r n setting) at (state_ready t r n setting s 0 (omega arith))), low.0, low.1)

pub next_year-base-requires : goal.next_year-base-requires
unfolding five_columns
next_year-base-requires c =
    steps _ _ _ 0 _ _ c.requires.0 c.new-cell.ensures
    (ap (λ (x : FiveColumns). x.base) c.five_columns-columns.ensures)

pub next_year-mortality_up-requires : goal.next_year-mortality_up-requires
unfolding five_columns
next_year-mortality_up-requires c =
    steps _ _ _ 1 _ _ c.requires.0 c.new-cell.ensures
    (ap (λ (x : FiveColumns). x.mortality_up) c.five_columns-columns.ensures)

pub next_year-mortality_down-requires : goal.next_year-mortality_down-requires
unfolding five_columns
next_year-mortality_down-requires c =
    steps _ _ _ 2 _ _ c.requires.0 c.new-cell.ensures
    (ap (λ (x : FiveColumns). x.mortality_down) c.five_columns-columns.ensures)

pub next_year-lapse_up-requires : goal.next_year-lapse_up-requires
unfolding five_columns
next_year-lapse_up-requires c =
    steps _ _ _ 3 _ _ c.requires.0 c.new-cell.ensures
    (ap (λ (x : FiveColumns). x.lapse_up) c.five_columns-columns.ensures)

pub next_year-lapse_down-requires : goal.next_year-lapse_down-requires
unfolding five_columns
next_year-lapse_down-requires c =
    steps _ _ _ 4 _ _ c.requires.0 c.new-cell.ensures
    (ap (λ (x : FiveColumns). x.lapse_down) c.five_columns-columns.ensures)

stepped : (t : List ℕ) (r n setting : ℕ) (c x : Cell) (d : ByPeriod Columns)
    → c ≡ record { row = r; inforce = n * 1000000000 }
    → d ≡ columns_of setting
    → x ≡ next_by t (survives_in d 0) (persists_in d 0) c
    → x ≡ next_year t setting 0 (record { row = r; inforce = n * 1000000000 })
stepped t r n setting c x d e h f = rw e at (next_held setting 0 d h t c x f)

-- whole contracts are as many times the amount of one
whole : (n x : ℕ) → n * 1000000000 * x / 1000000000 ≡ n * x
whole n x = omega arith

five_whole : (t u : List ℕ) (r n : ℕ)
    → five_times_more u (n * rate t r 6) (n * rate t r 7) ≡ ten_more t 0 (start_of r n) u
unfolding five_times_more ten_more
five_whole t u r n = rw (whole n (rate t r 6), whole n (rate t r 7))

pub returns : goal.returns
unfolding next_five five_columns
returns c =
    let new = c.new-cell.ensures in
    let t = c.args.rows.now in
    let r = c.args.point.row in
    let n = c.args.point.count in
    let five = c.five_columns-columns.ensures in (
      rw (
        stepped t r n 0 _ _ _ new (ap (λ (x : FiveColumns). x.base) five) c.next_year-base.ensures,
        stepped t r n 1 _ _ _ new (ap (λ (x : FiveColumns). x.mortality_up) five) c.next_year-mortality_up.ensures,
        stepped t r n 2 _ _ _ new (ap (λ (x : FiveColumns). x.mortality_down) five) c.next_year-mortality_down.ensures,
        stepped t r n 3 _ _ _ new (ap (λ (x : FiveColumns). x.lapse_up) five) c.next_year-lapse_up.ensures,
        stepped t r n 4 _ _ _ new (ap (λ (x : FiveColumns). x.lapse_down) five) c.next_year-lapse_down.ensures,
      ),
      c.add_year_0.ensures ∙ five_whole t _ r n,
    )
