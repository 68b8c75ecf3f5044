-- Laws of the caller's numbers and their halves: neither fund bears on the other, and what stands behind the halves
-- stays.
-- Assumes nothing.
use mathlib.Core.Path.{◌≡◌, refl, sym, ap, ◌∙◌}
use mathlib.Core.Logic.{⊎_elim}
use mathlib.Core.List.{List, ◌++◌, append_assoc}
use Prim.Native.Nat.{ℕ, ◌+◌, ◌<◌, ◌≤◌}
use native.Mathlib.Omega.{arith}
use borrow.Author.Tests.{lt-leb}
use lib.IntN.{ℤ, pos}
use lib.ListN.{length, get_or, take, drop, length-drop, get_or-append}
use lib.Seq.{length-take-le, take_at, drop_at, drop-drop, get_or-drop}
use Rattle.verdict.specs.Verdicts.{need, first_refusal, Verdict, refused}
use Rattle.std.specs.Prelude.{Ok, Err}
use Rattle.verdict.specs.declared.Refusal.{Refusal}
use Rattle.book.specs.Check.{check_book}
use Rattle.valuation.specs.Totals.{totals_of, totals_for, totals_reply}
use Rattle.buffer.proofs.Digits.{le_or_lt}
use Rattle.fund_definitions.specs.Fund.{joined_book, check_lent, fund_reply, half_for, fund_half}
use Rattle.fund_definitions.specs.Valued.{FundValued}
use Rattle.fund_definitions.proofs.Half.{put_back}
use Rattle.fund_definitions.specs.Funds.{funds_reply, first_half, second_half, funds_numbers, FirstApart, SecondApart}
use Rattle.fund_definitions.specs.declared.FundsReply.{FundsReply}

-- an accepted fund's half is its totals
pub half_totals : (numbers : ℕ) (table fund : List ℕ) (n : ℕ) (half : List ℤ)
    → fund_reply numbers table fund ≡ Ok n
    → fund_half numbers table fund half ≡ (totals_reply (joined_book table fund)).totals
unfolding fund_half
half_totals numbers table fund n half e = rw e

-- there are eight of them
totals_eight : (b : List ℕ) → length (totals_reply b).totals ≡ 8
unfolding totals_reply
totals_eight b = by (check_book 1 b) _ _
  where
    by : (v : Verdict) (n : ℕ) (ds : List ℤ) → length (totals_for v n (totals_of b) ds).totals ≡ 8
    by (Ok m) n ds = refl
    by (Err r) n ds = refl

half_length : (numbers : ℕ) (table fund : List ℕ) (half : List ℤ) → length half ≡ 8
    → length (fund_half numbers table fund half) ≡ 8
unfolding fund_half
half_length numbers table fund half eight = by (fund_reply numbers table fund)
  where
    by : (v : Verdict) → length (half_for v (totals_reply (joined_book table fund)).totals half) ≡ 8
    by (Ok n) = totals_eight (joined_book table fund)
    by (Err r) = eight

-- lists of two halves and more, taken apart
module _ (x y rest : List ℤ) (eight : length x ≡ 8) (eight' : length y ≡ 8) where
  take_first : take 8 (x ++ y ++ rest) ≡ x
  take_first = rw append_assoc (take_at x (y ++ rest) 8 eight)

  drop_first : drop 8 (x ++ y ++ rest) ≡ y ++ rest
  drop_first = rw append_assoc (drop_at x (y ++ rest) 8 eight)

  take_second : take 8 (drop 8 (x ++ y ++ rest)) ≡ y
  take_second = rw drop_first (take_at y rest 8 eight')

  drop_both : drop 16 (x ++ y ++ rest) ≡ rest
  drop_both = sym (drop-drop 8 8 (x ++ y ++ rest)) ∙ rw drop_first (drop_at y rest 8 eight')

  first_at : (i : ℕ) → i < 8 → get_or (x ++ y ++ rest) i (pos 0) ≡ get_or x i (pos 0)
  first_at i few = rw append_assoc (get_or-append x (y ++ rest) (pos 0) i (omega arith))

  second_at : (i : ℕ) → i < 8 → get_or (x ++ y ++ rest) (8 + i) (pos 0) ≡ get_or y i (pos 0)
  second_at i few =
      sym (get_or-drop 8 (x ++ y ++ rest) i (pos 0)) ∙ rw drop_first (get_or-append y rest (pos 0) i (omega arith))

module _ (table : List ℕ) (before : List ℤ) where
  module _ (first second : List ℕ) (capacity : 16 ≤ length before) where
    -- what then stands in the halves
    abbrev first_after : List ℤ
    first_after = fund_half (length before) table first (first_half before)

    abbrev second_after : List ℤ
    second_after = fund_half (length before) table second (second_half before)

    pub first_eight : length first_after ≡ 8
    first_eight = half_length (length before) table first (first_half before) (length-take-le 8 before (omega arith))

    second_eight : length second_after ≡ 8
    second_eight =
        half_length (length before) table second (second_half before)
        (length-take-le 8 (drop 8 before) (omega (arith, length-drop 8 before)))

    first_is : first_half (funds_numbers table first second before) ≡ first_after
    unfolding funds_numbers
    first_is = take_first first_after second_after (drop 16 before) first_eight second_eight

    second_is : second_half (funds_numbers table first second before) ≡ second_after
    unfolding funds_numbers
    second_is = take_second first_after second_after (drop 16 before) first_eight second_eight

    rest_is : drop 16 (funds_numbers table first second before) ≡ drop 16 before
    unfolding funds_numbers
    rest_is = drop_both first_after second_after (drop 16 before) first_eight second_eight

    pub first_number : (i : ℕ) → i < 8
        → get_or (funds_numbers table first second before) i (pos 0) ≡ get_or first_after i (pos 0)
    unfolding funds_numbers
    first_number = first_at first_after second_after (drop 16 before) first_eight second_eight

    pub second_number : (i : ℕ) → i < 8
        → get_or (funds_numbers table first second before) (8 + i) (pos 0) ≡ get_or second_after i (pos 0)
    unfolding funds_numbers
    second_number = second_at first_after second_after (drop 16 before) first_eight second_eight

  -- where the buffer is too short nothing changes
  short_reply : (fund : List ℕ) → length before < 16 → fund_reply (length before) table fund ≡ refused 16 0
  unfolding fund_reply check_lent need first_refusal
  short_reply fund h = rw (lt-leb _ _ h)

  pub both_refused : (first second : List ℕ) (r : Refusal) → fund_reply (length before) table first ≡ Err r
      → fund_reply (length before) table second ≡ Err r → funds_numbers table first second before ≡ before
  unfolding funds_numbers fund_half
  both_refused first second r e f = rw (e, f) (put_back 8 before)

  short_kept : (first second : List ℕ) → length before < 16 → funds_numbers table first second before ≡ before
  short_kept first second h = both_refused first second _ (short_reply first h) (short_reply second h)

  -- Apart: the second fund's file bears neither on the first's reply nor on its half, and the other way round.
  pub first_apart : (first second other : List ℕ)
      → FirstApart table first before (funds_numbers table first second before)
      (funds_reply (length before) table first second) other
  unfolding funds_reply
  first_apart first second other = record {
    reply_alike = refl;
    half_alike =
        ⊎_elim
        (λ capacity. first_is first second capacity ∙ sym (first_is first other capacity))
        (λ h. rw (short_kept first second h, short_kept first other h)) (le_or_lt 16 (length before));
  }

  pub second_apart : (first second other : List ℕ)
      → SecondApart table second before (funds_numbers table first second before)
      (funds_reply (length before) table first second) other
  unfolding funds_reply
  second_apart first second other = record {
    reply_alike = refl;
    half_alike =
        ⊎_elim
        (λ capacity. second_is first second capacity ∙ sym (second_is other second capacity))
        (λ h. rw (short_kept first second h, short_kept other second h)) (le_or_lt 16 (length before));
  }

  -- numbers from 16 on are as they were
  pub later_kept : (first second : List ℕ) → drop 16 (funds_numbers table first second before) ≡ drop 16 before
  later_kept first second =
      ⊎_elim (λ capacity. rest_is first second capacity) (λ h. ap (drop 16) (short_kept first second h))
      (le_or_lt 16 (length before))

-- one fund after the other
module _ (table first second : List ℕ) (before middle after : List ℤ) (x y : Verdict) (capacity : 16 ≤ length before)
    (same : length middle ≡ length before) where
  pub both : FundValued table first 0 before middle x → FundValued table second 8 middle after y
      → (◌≡◌ {A = FundsReply} (record { first = x; second = y }) (funds_reply (length before) table first second))
      × (after ≡ funds_numbers table first second before)
  unfolding funds_reply funds_numbers
  both f s =
      let half = fund_half (length before) table first (first_half before) in
      let eight = first_eight table before first second capacity in
      let front : take 8 middle ≡ half = rw f.numbers_are (take_at half (drop 8 before) 8 eight) in
      let back : drop 8 middle ≡ drop 8 before = rw f.numbers_are (drop_at half (drop 8 before) 8 eight) in
      let rest : drop 16 middle ≡ drop 16 before
      = sym (drop-drop 8 8 middle) ∙ ap (drop 8) back ∙ drop-drop 8 8 before in
      let later = rw same at s.reply_is in
      (rw (f.reply_is, later), s.numbers_are ∙ rw (front, back, rest, same))
