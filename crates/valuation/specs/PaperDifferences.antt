-- The paper's four differences by setting, as a proposition on a reply of Totals.
use Rattle.std.specs.Prelude.{◌≡◌, ℕ, ℤ, pos, ◌-ℤ◌, get_or}
use Rattle.valuation.specs.declared.TotalsReply.{TotalsReply}

-- the total of a setting, and the difference at a place
abbrev pub total_in : TotalsReply → ℕ → ℤ
total_in r setting = get_or r.totals setting (pos 0)

abbrev pub difference_in : TotalsReply → ℕ → ℤ
difference_in r place = get_or r.differences place (pos 0)

-- 1 less 2, 3 less 4, 5 less 6, 7 less 0
pub record PaperDifferences (r : TotalsReply) : Type 0 where
  pub mortality : difference_in r 0 ≡ total_in r 1 -ℤ total_in r 2
  pub lapse : difference_in r 1 ≡ total_in r 3 -ℤ total_in r 4
  pub costs : difference_in r 2 ≡ total_in r 5 -ℤ total_in r 6
  pub claims : difference_in r 3 ≡ total_in r 7 -ℤ total_in r 0
