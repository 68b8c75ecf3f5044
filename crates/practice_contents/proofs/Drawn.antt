-- What is drawn keeps every rule, so every practice book is accepted, and Write does not refuse it; and it is what is
-- drawn part after part. Assumes nothing.
use mathlib.Core.Path.{◌≡◌, refl, sym, ap, ◌∙◌}
use mathlib.Core.Logic.{⊎_elim}
use mathlib.Core.Bool.{true}
use mathlib.Core.List.{List}
use Prim.Native.Nat.{ℕ, suc, ◌+◌, ◌-◌, ◌*◌, ◌<◌, ◌≤◌, zero-le}
use native.Mathlib.Omega.{arith}
use native.Mathlib.Nat.{mod-lt}
use borrow.Author.Tests.{le-leb, lt-ltb, le-ltb}
use lib.IntN.{ℤ, pos}
use lib.ListN.{length, get_or, replicate, get_or-replicate, get_or-eq_default}
use Rattle.lists.specs.Sums.{sum_by}
use Rattle.std.specs.Prelude.{Ok}
use Rattle.book.specs.Layout.{chains, most_records, most_rate, most_count, most_amount}
use Rattle.book.specs.Check.{check_book}
use Rattle.buffer.proofs.Digits.{le_or_lt}
use Rattle.book_contents.specs.Contents.{given, size_of, records_before}
use Rattle.book_contents.specs.Written.{book_size}
use Rattle.book_contents.specs.Limits.{Fit, curve_rate}
use Rattle.book_contents.specs.CallContracts.{not_zero}
use Rattle.book_contents.proofs.Stands.{each_all}
use Rattle.book_contents.proofs.Accepted.{fit_accepted}
use Rattle.book_contents.proofs.Laid.{book_length}
use Rattle.generator.specs.declared.GeneratorState.{GeneratorState}
use Rattle.generator.specs.Draws.{state_after, draw_at}
use Rattle.generator.proofs.DrawSequence.{after_after, draw_later}
use Rattle.practice_contents.specs.Drawn.{drawn_number, drawn_rate, record_draw, drawn_values, drawn_contents}
use Rattle.practice_contents.specs.Drawn.{practice_contents, practice_book, practice_size}
use Rattle.lists.specs.Each.{each}
use Rattle.lists.proofs.Each.{each_length, each_same}

number_most : (span draw : ℕ) → drawn_number span draw ≤ span
unfolding drawn_number
number_most span draw = omega (arith, mod-lt draw {m = span + 1} (omega arith))

-- a run of numbers that are drawn, whichever draws they are
run_most : (span n : ℕ) (draw : ℕ → ℕ) (j : ℕ) → get_or (each (λ (i : ℕ). drawn_number span (draw i)) n) j 0 ≤ span
run_most span n draw =
    each_all (λ (x : ℕ). x ≤ span) (λ (i : ℕ). drawn_number span (draw i)) 0 n zero-le
    (λ i l. number_most span (draw i))

-- a rate that is drawn, by its sign
rate_good : (draw : ℕ) → curve_rate (drawn_rate draw) ≡ true
unfolding curve_rate drawn_rate
rate_good draw =
    let most = number_most 210000 draw in
    ⊎_elim
    (λ (h : 10000 ≤ drawn_number 210000 draw).
    rw (le-ltb (drawn_number 210000 draw) 10000 h)
    (le-leb (drawn_number 210000 draw - 10000 + 10000) 210000 (omega arith)))
    (λ (h : drawn_number 210000 draw < 10000).
    rw (lt-ltb (drawn_number 210000 draw) 10000 h)
    (le-leb (10000 - suc (drawn_number 210000 draw) + 1) 10000 (omega arith)))
    (le_or_lt 10000 (drawn_number 210000 draw))

run_good : (n : ℕ) (draw : ℕ → ℕ) (j : ℕ)
    → curve_rate (get_or (each (λ (i : ℕ). drawn_rate (draw i)) n) j (pos 0)) ≡ true
unfolding curve_rate
run_good n draw =
    each_all (λ (z : ℤ). curve_rate z ≡ true) (λ (i : ℕ). drawn_rate (draw i)) (pos 0) n refl
    (λ i l. rate_good (draw i))

-- every chain is full
abbrev firsts : List ℕ
firsts = replicate 14 0

first_0 : (k : ℕ) → get_or firsts k 0 ≡ 0
first_0 k =
    ⊎_elim
    (λ (g : 14 ≤ k). get_or-eq_default firsts 0 {n = k} g)
    (λ (l : k < 14). get_or-replicate 14 k 0 0 l)
    (le_or_lt 14 k)

full : records_before firsts chains ≡ most_records
unfolding sum_by size_of
full = refl

pub drawn_fit : (w : GeneratorState) → Fit (drawn_contents w)
unfolding drawn_contents drawn_values
drawn_fit w =
    record {
      first = λ k. omega (arith, first_0 k);
      counts_size = each_length _ most_records ∙ sym full;
      lapses_size = each_length _ most_records ∙ sym full;
      premiums_size = each_length _ most_records ∙ sym full;
      claims_size = each_length _ most_records ∙ sym full;
      edition_low = omega arith;
      edition_high = omega arith;
      no_men = λ one. refl;
      no_women = λ one. refl;
      men_low = λ two. absurd (omega arith);
      men_high = λ two. omega arith;
      women_low = λ two. absurd (omega arith);
      women_high = λ two. omega arith;
      year_low = omega arith;
      year_high = omega arith;
      cost = run_most most_rate 5 _;
      curve = run_good 49 _;
      mortality = run_most most_rate 242 _;
      count = run_most most_count most_records _;
      lapse = run_most most_rate most_records _;
      premium = run_most most_amount most_records _;
      claim = run_most most_amount most_records _;
    }

-- so the book of any start number is accepted, and of one length
pub practice_accepted : (start : ℕ)
    → check_book 1 (practice_book start) ≡ Ok (not_zero (practice_contents start).counts)
practice_accepted start = fit_accepted (practice_contents start) (drawn_fit _)

pub drawn_size : (w : GeneratorState) → book_size (drawn_contents w).values.first ≡ practice_size
unfolding drawn_contents drawn_values
drawn_size w = omega (arith, full)

pub practice_length : (start : ℕ) → length (practice_book start) ≡ practice_size
practice_length start = book_length (practice_contents start) ∙ drawn_size _

-- a run of draws from words that are a draws on
later_run : {A : Type 0} (g : ℕ → A) (w : GeneratorState) {words : GeneratorState} (a n : ℕ) (f h : ℕ → ℕ)
    → words ≡ state_after w a
    → ((i : ℕ) → a + f i ≡ h i) → each (λ (i : ℕ). g (draw_at words (f i))) n ≡ each (λ (i : ℕ). g (draw_at w (h i))) n
later_run g w a n f h e s =
    each_same _ _ n
    (λ i _. ap g (ap (λ (v : GeneratorState). draw_at v (f i)) e ∙ draw_later w a (f i) ∙ ap (draw_at w) (s i)))

-- The contents as they are drawn, part after part, each from the words that the one before it left.
module _ (w : GeneratorState) {costs curves tables : GeneratorState}
    {cost mortality counts lapses premiums claims : List ℕ}
    {curve : List ℤ}
    (cost-is : cost ≡ each (λ (j : ℕ). drawn_number most_rate (draw_at w j)) 5) (costs-are : costs ≡ state_after w 5)
    (curve-is : curve ≡ each (λ (j : ℕ). drawn_rate (draw_at costs j)) 49) (curves-are : curves ≡ state_after costs 49)
    (mortality_is : mortality ≡ each (λ (j : ℕ). drawn_number most_rate (draw_at curves j)) 242)
    (tables-are : tables ≡ state_after curves 242)
    (counts_are : counts ≡ each (λ (i : ℕ). drawn_number most_count (draw_at tables (4 * i))) most_records)
    (lapses_are : lapses ≡ each (λ (i : ℕ). drawn_number most_rate (draw_at tables (4 * i + 1))) most_records)
    (premiums_are : premiums ≡ each (λ (i : ℕ). drawn_number most_amount (draw_at tables (4 * i + 2))) most_records)
    (claims_are : claims ≡ each (λ (i : ℕ). drawn_number most_amount (draw_at tables (4 * i + 3))) most_records) where
  curves_on : curves ≡ state_after w 54
  curves_on = curves-are ∙ ap (λ (v : GeneratorState). state_after v 49) costs-are ∙ after_after w 5 49

  tables_on : tables ≡ state_after w 296
  tables_on = tables-are ∙ ap (λ (v : GeneratorState). state_after v 242) curves_on ∙ after_after w 54 242

  values_drawn : (record {
    edition = 1;
    men = 0;
    women = 0;
    year = 2021;
    cost = cost;
    curve = curve;
    mortality = mortality;
    first = firsts;
  }) ≡ drawn_values w
  unfolding drawn_values
  values_drawn =
      rw (
        cost-is,
        curve-is ∙ later_run drawn_rate w 5 49 (λ (j : ℕ). j) (λ (j : ℕ). 5 + j) costs-are (λ j. refl),
        mortality_is
            ∙ later_run (drawn_number most_rate) w 54 242 (λ (j : ℕ). j) (λ (j : ℕ). 54 + j) curves_on (λ j. refl),
      )

  list_drawn : (span offset : ℕ) (f : ℕ → ℕ) → ((i : ℕ) → f i ≡ 4 * i + offset)
      → each (λ (i : ℕ). drawn_number span (draw_at tables (f i))) most_records
      ≡ each (λ (i : ℕ). drawn_number span (draw_at w (record_draw i + offset))) most_records
  list_drawn span offset f s =
      later_run (drawn_number span) w 296 most_records f (λ (i : ℕ). record_draw i + offset) tables_on
      (λ i. omega (arith, s i))

  pub contents_drawn : given (record {
    edition = 1;
    men = 0;
    women = 0;
    year = 2021;
    cost = cost;
    curve = curve;
    mortality = mortality;
    first = firsts;
  }) counts lapses premiums claims ≡ drawn_contents w
  unfolding drawn_contents
  contents_drawn =
      rw (
        values_drawn,
        counts_are
            ∙ later_run (drawn_number most_count) w 296 most_records (λ (i : ℕ). 4 * i) record_draw tables_on
            (λ i. refl),
        lapses_are ∙ list_drawn most_rate 1 (λ (i : ℕ). 4 * i + 1) (λ i. refl),
        premiums_are ∙ list_drawn most_amount 2 (λ (i : ℕ). 4 * i + 2) (λ i. refl),
        claims_are ∙ list_drawn most_amount 3 (λ (i : ℕ). 4 * i + 3) (λ i. refl),
      )
