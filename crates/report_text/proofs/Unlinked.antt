-- The bytes of unlinked records have no effect on the report, on what is given of it, and on the refusals: the figures
-- are those of Group's table, which they leave alone. Assumes nothing.
use mathlib.Core.Path.{◌≡◌, refl, sym, ap, ◌∙◌}
use mathlib.Core.List.{List, ◌++◌}
use Prim.Native.Nat.{ℕ, ◌+◌, ◌*◌, ◌<◌, ◌≤◌}
use native.Mathlib.Omega.{arith}
use borrow.Author.Tests.{lt-ltb, le-leb}
use lib.Dec.{leb}
use lib.ListN.{length, get_or, drop, replicate, length-replicate}
use Rattle.verdict.specs.Verdicts.{need, first_refusal, ◌and_then◌, Verdict, refused}
use Rattle.std.specs.Prelude.{Ok, Err}
use Rattle.verdict.specs.declared.Refusal.{Refusal}
use Rattle.verdict.proofs.Verdicts.{need_good, then_good, then_right}
use Rattle.le_bytes.proofs.Ranges.{within_good}
use Rattle.book.specs.Check.{check_book}
use Rattle.book.specs.Rules.{SameButUnlinked}
use Rattle.book.proofs.Unlinked.{unlinked_same}
use Rattle.settings_decrements.specs.Decrements.{decrements_of}
use Rattle.valuation.specs.Arithmetic.{rounded}
use Rattle.valuation.specs.Steps.{outgo, counted_premium}
use Rattle.valuation.specs.Portfolio.{group_cells, terms_of}
use Rattle.valuation.specs.Replies.{group_check, group_table, year_table}
use Rattle.valuation.proofs.GroupContract.{premium_column_at, outgo_column_at, length_years}
use Rattle.valuation.proofs.Unlinked.{table_same}
use Rattle.text_reply.specs.Replies.{length_for, buffer_for, with_capacity, text_reply, text_buffer}
use Rattle.buffer.proofs.Digits.{joined_same}
use Rattle.report_text.specs.Report.{heading, year_line, group_lines, report_text, report_check, report_length}
use Rattle.report_text.specs.Report.{report_reply, report_buffer, report_length_reply}
use Rattle.report_text.proofs.Refusals.{report_setting}

-- a table for Group to fill
abbrev blank : List ℕ
blank = replicate 200 0

-- The figures of an accepted book are those of Group's table.
module _ (b : List ℕ) (setting g n : ℕ) (accepted : check_book 1 b ≡ Ok n) (few : setting < 8)
    (lo : 1 ≤ g) (hi : g ≤ 5) where
  group_accepted : group_check b setting g (length blank) ≡ Ok n
  unfolding group_check
  group_accepted =
      let setting-good = need_good _ 14 0 (lt-ltb setting 8 few) in
      let group-good = need_good _ 15 0 (within_good 1 5 g lo hi) in
      let table = need_good _ 16 0 (le-leb 200 (length blank) (omega (arith, length-replicate {A = ℕ} 200 0))) in
      then_good _ _ _ _ (then_good _ _ _ _ (then_good _ _ _ _ setting-good group-good) table) accepted

  table_is : group_table b setting g blank
      ≡ year_table (terms_of b setting g) (group_cells b (decrements_of b setting) g) 50 ++ drop 200 blank
  unfolding group_table
  table_is = rw (group_accepted, length_years _ _ 50)

  module _ (k : ℕ) (year : k < 50) where
    premium_is : get_or (group_table b setting g blank) (4 * k) 0
        ≡ counted_premium rounded (terms_of b setting g) (group_cells b (decrements_of b setting) g) k
    premium_is = rw table_is (premium_column_at _ _ 50 k (drop 200 blank) year)

    outgo_is : get_or (group_table b setting g blank) (4 * k + 1) 0
        ≡ outgo rounded (terms_of b setting g) (group_cells b (decrements_of b setting) g) k
    outgo_is = rw table_is (outgo_column_at _ _ 50 k (drop 200 blank) year)

module _ (b b' : List ℕ) (s : SameButUnlinked b b') (setting : ℕ) where
  check_same : report_check b setting ≡ report_check b' setting
  unfolding report_check
  check_same = rw (unlinked_same b b' s 1)

  module _ (n : ℕ) (e : report_check b setting ≡ Ok n) where
    book_accepted : check_book 1 b ≡ Ok n
    unfolding report_check
    book_accepted = then_right _ _ _ e

    line_same : (j k : ℕ) → j < 5 → k < 50 → year_line b setting (j + 1) k ≡ year_line b' setting (j + 1) k
    unfolding year_line
    line_same j k few year =
        let v = report_setting b setting n e in
        let v' = sym (unlinked_same b b' s 1) ∙ book_accepted in
        let table = table_same b b' s setting (j + 1) blank in
        rw (
          ← (premium_is b setting (j + 1) n book_accepted v (omega arith) (omega arith) k year),
          ← (outgo_is b setting (j + 1) n book_accepted v (omega arith) (omega arith) k year),
          ← (premium_is b' setting (j + 1) n v' v (omega arith) (omega arith) k year),
          ← (outgo_is b' setting (j + 1) n v' v (omega arith) (omega arith) k year),
          table,
        )

    text_same : report_text b setting ≡ report_text b' setting
    unfolding report_text group_lines
    text_same =
        ap (λ (l : List ℕ). heading ++ l)
        (joined_same (group_lines b setting) (group_lines b' setting) 5
        (λ j few.
        joined_same (year_line b setting (j + 1)) (year_line b' setting (j + 1)) 50 (λ k year. line_same j k few year)))

  -- what goes by the verdict, and by the text where it accepts
  by_verdict : {X : Type 0} (f : Verdict → List ℕ → X)
      → ((r : Refusal) (x y : List ℕ) → f (Err r) x ≡ f (Err r) y)
      → f (report_check b setting) (report_text b setting) ≡ f (report_check b' setting) (report_text b' setting)
  by_verdict f refused = rw (← check_same) (cases (report_check b setting) refl)
    where
      cases : (v : Verdict) → report_check b setting ≡ v → f v (report_text b setting) ≡ f v (report_text b' setting)
      cases (Ok n) e = ap (f (Ok n)) (text_same n e)
      cases (Err r) e = refused r _ _

  pub reply_same : (capacity : ℕ) → report_reply b setting capacity ≡ report_reply b' setting capacity
  unfolding text_reply with_capacity first_refusal
  reply_same capacity =
      by_verdict (λ v text. length_for (v and_then need (leb (length text) capacity) 20 0) (length text))
      (λ r x y. refl)

  pub buffer_same : (before : List ℕ) → report_buffer b setting before ≡ report_buffer b' setting before
  unfolding text_buffer with_capacity first_refusal
  buffer_same before =
      by_verdict (λ v text. buffer_for (v and_then need (leb (length text) (length before)) 20 0) text before)
      (λ r x y. refl)

  pub capacity_same : report_length_reply b setting ≡ report_length_reply b' setting
  unfolding report_length_reply report_length
  capacity_same = by_verdict (λ v text. length_for v (length text)) (λ r x y. refl)
