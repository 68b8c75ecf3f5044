-- When contents are refused: the tests in their order, each with place 0; and the rules that they keep, in no order.
use Rattle.std.specs.Prelude.{ℕ, ◌+◌, ◌*◌, ◌≤◌, ◌≡◌, Bool, true, cond, List, leb, eqb, ℤ, pos, negsuc, length, get_or}
use Rattle.verdict.specs.Verdicts.{need, ◌and_then◌, join_all, Verdict}
use Rattle.le_bytes.specs.Fields.{within}
use Rattle.book.specs.Layout.{header_size, record_size, first_year, last_year, most_percent, chains, most_rate}
use Rattle.book.specs.Layout.{curve_lift}
use Rattle.book.specs.Layout.{curve_span, most_count, most_amount}
use Rattle.book_contents.specs.declared.Values.{Values}
use Rattle.book_contents.specs.Contents.{Contents, no_class, records_before}

-- refused with the number where one of a list is above the most
unfoldable pub check_most : ℕ → ℕ → List ℕ → Verdict
check_most number most l = join_all (λ (j : ℕ). need (leb (get_or l j 0) most) number 0) 0 (length l)

-- a curve rate is at most curve_lift below 0, and from there at most curve_span higher: from -10,000 to 200,000
unfoldable pub curve_rate : ℤ → Bool
curve_rate (pos n) = leb (n + curve_lift) curve_span
curve_rate (negsuc m) = leb (m + 1) curve_lift

unfoldable pub check_curve : List ℤ → Verdict
check_curve l = join_all (λ (j : ℕ). need (curve_rate (get_or l j (pos 0))) 7 0) 0 (length l)

-- 22: each list buffer, of so many numbers, is as long as its lists, which together have total; and a byte buffer of so
-- many bytes takes their book
unfoldable pub check_lengths : ℕ → ℕ → ℕ → ℕ → ℕ → ℕ → Verdict
check_lengths total counts lapses premiums claims capacity =
    need (eqb counts total) 22 0 and_then
    need (eqb lapses total) 22 0 and_then
    need (eqb premiums total) 22 0 and_then
    need (eqb claims total) 22 0 and_then
    need (leb (header_size + record_size * total) capacity) 22 0

-- the percentages: in edition 2 both are in their range, else 23; in edition 1 both are 0, else 4
unfoldable pub check_given_percents : ℕ → ℕ → ℕ → Verdict
check_given_percents edition men women =
    cond (eqb edition 2)
    (need (within 1 most_percent men) 23 0 and_then need (within 1 most_percent women) 23 0)
    (need (eqb men 0) 4 0 and_then need (eqb women 0) 4 0)

-- 2 neither edition, 4 the year, 4 or 23 the percentages
unfoldable pub check_edition : ℕ → ℕ → ℕ → ℕ → Verdict
check_edition edition men women year =
    need (within 1 2 edition) 2 0 and_then
    need (within first_year last_year year) 4 0 and_then
    check_given_percents edition men women

-- 6 the cost rates, 7 the curve, 8 mortality
unfoldable pub check_given_tables : List ℕ → List ℤ → List ℕ → Verdict
check_given_tables cost curve mortality =
    check_most 6 most_rate cost and_then
    check_curve curve and_then
    check_most 8 most_rate mortality

-- 12 the lists
unfoldable pub check_lists : List ℕ → List ℕ → List ℕ → List ℕ → Verdict
check_lists counts lapses premiums claims =
    check_most 12 most_count counts and_then
    check_most 12 most_rate lapses and_then
    check_most 12 most_amount premiums and_then
    check_most 12 most_amount claims

-- What stands against writing the contents into a buffer of so many bytes: 11 the first classes, 22 the lengths, 2, 4
-- and 23 the edition with year and percentages, 6, 7 and 8 the tables, 12 the lists.
unfoldable pub check_contents : Contents → ℕ → Verdict
check_contents v capacity =
    check_most 11 no_class v.values.first and_then
    check_lengths (records_before v.values.first chains) (length v.counts) (length v.lapses)
    (length v.premiums)
    (length v.claims) capacity and_then
    check_edition v.values.edition v.values.men v.values.women v.values.year and_then
    check_given_tables v.values.cost v.values.curve v.values.mortality and_then
    check_lists v.counts v.lapses v.premiums v.claims

-- The rules that contents keep, one by one and in no order of tests. They are not refused, with space enough, exactly
-- where they keep them all (proofs/Fit). Past its end a list reads 0, which every rule takes.
pub record Fit (v : Contents) : Type 0 where
  pub first : (k : ℕ) → get_or v.values.first k 0 ≤ no_class
  pub counts_size : length v.counts ≡ records_before v.values.first chains
  pub lapses_size : length v.lapses ≡ records_before v.values.first chains
  pub premiums_size : length v.premiums ≡ records_before v.values.first chains
  pub claims_size : length v.claims ≡ records_before v.values.first chains
  pub edition_low : 1 ≤ v.values.edition
  pub edition_high : v.values.edition ≤ 2
  -- the percentages: none in edition 1, in edition 2 each in its range
  pub no_men : v.values.edition ≡ 1 → v.values.men ≡ 0
  pub no_women : v.values.edition ≡ 1 → v.values.women ≡ 0
  pub men_low : v.values.edition ≡ 2 → 1 ≤ v.values.men
  pub men_high : v.values.edition ≡ 2 → v.values.men ≤ most_percent
  pub women_low : v.values.edition ≡ 2 → 1 ≤ v.values.women
  pub women_high : v.values.edition ≡ 2 → v.values.women ≤ most_percent
  pub year_low : first_year ≤ v.values.year
  pub year_high : v.values.year ≤ last_year
  pub cost : (j : ℕ) → get_or v.values.cost j 0 ≤ most_rate
  pub curve : (j : ℕ) → curve_rate (get_or v.values.curve j (pos 0)) ≡ true
  pub mortality : (j : ℕ) → get_or v.values.mortality j 0 ≤ most_rate
  pub count : (i : ℕ) → get_or v.counts i 0 ≤ most_count
  pub lapse : (i : ℕ) → get_or v.lapses i 0 ≤ most_rate
  pub premium : (i : ℕ) → get_or v.premiums i 0 ≤ most_amount
  pub claim : (i : ℕ) → get_or v.claims i 0 ≤ most_amount

-- the tables have as many numbers as the arrays of the call have by their types
pub record Shaped (h : Values) : Type 0 where
  pub cost : length h.cost ≡ 5
  pub curve : length h.curve ≡ 49
  pub mortality : length h.mortality ≡ 242
  pub first : length h.first ≡ chains
