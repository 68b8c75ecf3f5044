-- Every book that is written is accepted, and its n is the number of counts that are not 0. Assumes nothing.
use mathlib.Core.Bool.{cond}
use mathlib.Core.Path.{◌≡◌, refl, sym, ap, ◌∙◌}
use mathlib.Core.Logic.{⊎_elim}
use mathlib.Core.List.{List}
use Prim.Native.Nat.{ℕ, zero, suc, ◌+◌, ◌-◌, ◌<◌, ◌≤◌}
use native.Mathlib.Nat.{eq-or-lt_of_le}
use native.Mathlib.Omega.{arith}
use lib.Dec.{eqb}
use lib.ListN.{length, get_or}
use Rattle.lists.specs.Sums.{sum_by, sum_below, sum_from}
use Rattle.lists.proofs.Sums.{sum_first, sum_split}
use Rattle.le_bytes.specs.Bytes.{read_u16}
use Rattle.std.specs.Prelude.{Ok}
use Rattle.book.specs.Layout.{edition, spare_bytes, percent_at, most_percent, chains, head_of}
use Rattle.book.specs.Cells.{holds, held_from, held_in, held_in_all}
use Rattle.book.specs.Check.{check_book}
use Rattle.book.specs.Rules.{HeaderRules, TableRules, ChainRules, Rules}
use Rattle.book.proofs.Cells.{holds_some, held_none}
use Rattle.book.proofs.Exact.{rules_accepted}
use Rattle.book.proofs.Links.{after_some}
use Rattle.buffer.proofs.Digits.{le_or_lt}
use Rattle.book_contents.specs.Contents.{Contents, size_of, records_before}
use Rattle.book_contents.specs.Written.{number_of, book_of}
use Rattle.book_contents.specs.Limits.{check_contents, Fit}
use Rattle.book_contents.specs.CallContracts.{not_zero}
use Rattle.book_contents.proofs.Stands.{stands_self}
use Rattle.book_contents.proofs.Numbers.{four_read, curve_small, curve_raised}
use Rattle.book_contents.proofs.Laid.{Laid, stands_laid, book_length}
use Rattle.book_contents.proofs.Fit.{fit}
use Rattle.book_contents.proofs.Linked.{size_most, before_most, head_none, head_some, next_last, next_more}
use Rattle.book_contents.proofs.Linked.{edition_is, men_is, women_is, basis_is, year_is, records_is, head_is}
use Rattle.book_contents.proofs.Linked.{class_of_entry}
use Rattle.book_contents.proofs.Linked.{next_of_entry, count_of_entry, rules_of_entry, link_in, link_entry}

-- The rules of a book are kept.
module _ (b : List ℕ) (v : Contents) (f : Fit v) (x : Laid b v) where
  spare_rule : edition b ≡ 1 → spare_bytes b ≡ 0
  unfolding read_u16
  spare_rule one =
      let e : v.values.edition ≡ 1 = sym (edition_is b v f x) ∙ one in
      omega (arith, men_is b v f x, women_is b v f x, f.no_men e, f.no_women e)

  percent_rule : edition b ≡ 2 → (sex : ℕ) → sex ≤ 1 → (1 ≤ percent_at b sex) × (percent_at b sex ≤ most_percent)
  percent_rule two zero h =
      let e : v.values.edition ≡ 2 = sym (edition_is b v f x) ∙ two in
      (omega (arith, men_is b v f x, f.men_low e), omega (arith, men_is b v f x, f.men_high e))
  percent_rule two (suc zero) h =
      let e : v.values.edition ≡ 2 = sym (edition_is b v f x) ∙ two in
      (omega (arith, women_is b v f x, f.women_low e), omega (arith, women_is b v f x, f.women_high e))
  percent_rule two (suc (suc sex)) h = absurd (omega arith)

  header_rules : length b ≡ length (book_of v) → HeaderRules 1 b
  header_rules size =
      record {
        edition_low = omega (arith, edition_is b v f x, f.edition_low);
        edition_high = omega (arith, edition_is b v f x, f.edition_high);
        basis_is = basis_is b v f x;
        year_low = omega (arith, year_is b v f x, f.year_low);
        year_high = omega (arith, year_is b v f x, f.year_high);
        few = omega (arith, records_is b v f x, before_most v.values.first chains);
        spare = spare_rule;
        percent_low = λ two sex h. (percent_rule two sex h).0;
        percent_high = λ two sex h. (percent_rule two sex h).1;
        size = omega (arith, records_is b v f x, book_length v);
      }

  table_rules : TableRules b
  table_rules =
      record {
        cost = λ j l. omega (arith, four_read b _ _ (omega (arith, f.cost j)) (x.cost j l), f.cost j);
        curve = λ j l. rw (four_read b _ _ (curve_small _ (f.curve j)) (x.curve j l)) (curve_raised _ (f.curve j));
        mortality = λ j l. omega
            (arith, four_read b _ _ (omega (arith, f.mortality j)) (x.mortality j l), f.mortality j);
      }

  chain_rules : (k : ℕ) → k < chains → ChainRules b 120 k
  chain_rules k few =
      record {
        linked = λ j l. let h = link_entry b v f x k few j l in
            rw (link_in b v f x k few j h) (rules_of_entry b v f x k j few h);
        rising = λ j l.
            let h = link_entry b v f x k few j l in
            let head : head_of b k ≡ number_of v.values.first k 0 = head_is b v f x k few
            ∙ head_some v.values.first k (omega arith) in
            rw (link_in b v f x k few j h, head)
            (omega (arith, class_of_entry b v f x k j few h, class_of_entry b v f x k 0 few (omega arith)));
      }

-- 1 where number i of a list is not 0
abbrev some : List ℕ → ℕ → ℕ
some l i = cond (eqb (get_or l i 0) 0) 0 1

-- n is counted along the entries.
module _ (b : List ℕ) (v : Contents) (f : Fit v) (x : Laid b v) where
  holds_entry : (k j : ℕ) → k < chains → j < size_of v.values.first k
      → holds b (number_of v.values.first k j) ≡ some v.counts (records_before v.values.first k + j)
  holds_entry k j few h = holds_some b (number_of v.values.first k j) (omega arith)
      ∙ rw (count_of_entry b v f x k j few h)

  held_steps : (k : ℕ) → k < chains → (m j : ℕ) → j < size_of v.values.first k → size_of v.values.first k ≤ j + m
      → held_from b (number_of v.values.first k j) m ≡ sum_from (some v.counts)
      (records_before v.values.first k + j)
      (size_of v.values.first k - j)
  unfolding held_from sum_by
  held_steps k few zero j h g = absurd (omega arith)
  held_steps k few (suc m) j h g =
      ⊎_elim
      (λ (e : j + 1 ≡ size_of v.values.first k).
      let left : size_of v.values.first k - j ≡ suc 0 = omega arith in
      rw (
        holds_entry k j few h,
        after_some b (number_of v.values.first k j) (omega arith),
        next_of_entry b v f x k j few h,
        next_last v.values.first k j e,
        held_none b m,
        left,
        sum_first (some v.counts) (records_before v.values.first k + j) 0,
      ))
      (λ (l : j + 1 < size_of v.values.first k).
      let left : size_of v.values.first k - j ≡ suc (size_of v.values.first k - (j + 1)) = omega arith in
      let place : records_before v.values.first k + (j + 1) ≡ records_before v.values.first k + j + 1 =
      omega arith in
      rw (
        holds_entry k j few h,
        after_some b (number_of v.values.first k j) (omega arith),
        next_of_entry b v f x k j few h,
        next_more v.values.first k j l,
        left,
        sum_first (some v.counts) (records_before v.values.first k + j) (size_of v.values.first k - (j + 1)),
        held_steps k few m (j + 1) l (omega arith),
        place,
      ))
      (eq-or-lt_of_le (omega arith))

  held_chain : (k : ℕ) → k < chains
      → held_in b 120 k ≡ sum_from (some v.counts) (records_before v.values.first k) (size_of v.values.first k)
  unfolding held_in sum_by
  held_chain k few =
      ⊎_elim
      (λ (z : size_of v.values.first k ≤ 0).
      let none : size_of v.values.first k ≡ 0 = omega arith in
      rw (head_is b v f x k few, head_none v.values.first k none, none) (held_none b 121))
      (λ (s : 0 < size_of v.values.first k).
      let place : records_before v.values.first k + 0 ≡ records_before v.values.first k = omega arith in
      let left : size_of v.values.first k - 0 ≡ size_of v.values.first k = omega arith in
      let e = held_steps k few 121 0 s (omega (arith, size_most v.values.first k)) in
      rw (head_is b v f x k few, head_some v.values.first k s) (e
      ∙ ap (λ (p : ℕ). sum_from (some v.counts) p (size_of v.values.first k - 0)) place
      ∙ ap (λ (n : ℕ). sum_from (some v.counts) (records_before v.values.first k) n) left))
      (le_or_lt (size_of v.values.first k) 0)

  -- over the chains before k
  held_chains : (k : ℕ) → k ≤ chains
      → sum_below (held_in b 120) k ≡ sum_below (some v.counts) (records_before v.values.first k)
  unfolding sum_by
  held_chains zero h = refl
  held_chains (suc k) h =
      omega (
        arith,
        held_chain k (omega arith),
        sum_split (some v.counts) (records_before v.values.first k) (size_of v.values.first k),
        held_chains k (omega arith),
      )

  held_all : held_in_all b 120 ≡ not_zero v.counts
  unfolding held_in_all not_zero
  held_all = rw f.counts_size (held_chains chains (omega arith))

-- Contents that keep the rules give a book that is accepted.
pub fit_accepted : (v : Contents) → Fit v → check_book 1 (book_of v) ≡ Ok (not_zero v.counts)
fit_accepted v f =
    let b = book_of v in
    let x : Laid b v = stands_laid b v (stands_self b) in
    let rules : Rules 1 b =
    record { header = header_rules b v f x refl; tables = table_rules b v f x; chain = chain_rules b v f x } in
    rules_accepted 1 b rules ∙ ap Ok (held_all b v f x)

-- So is every book that is written.
pub written_accepted : (v : Contents) (capacity n : ℕ) → check_contents v capacity ≡ Ok n
    → check_book 1 (book_of v) ≡ Ok (not_zero v.counts)
written_accepted v capacity n e = fit_accepted v (fit v capacity n e)
