-- Laws of a fund's joined book and of its reply: which of its tests gives it, and that it is what the check says of the
-- joined book. Assumes nothing.
use mathlib.Core.Path.{◌≡◌, refl, sym, ap, ◌∙◌}
use mathlib.Core.List.{List, ◌++◌}
use mathlib.Core.Bool.{Bool, true, false, cond}
use Prim.Native.Nat.{ℕ, ◌+◌, ◌-◌, ◌<◌, ◌≤◌}
use native.Mathlib.Omega.{arith}
use borrow.Author.Tests.{leb-true, eqb-true, le-leb, lt-leb, eq-eqb, ne_eqb}
use lib.Dec.{leb, eqb}
use lib.ListN.{length, take, drop, length-append, length-drop, get_or-append}
use lib.Seq.{length-take-le, get_or-take, take_all, take_at}
use Rattle.verdict.specs.Verdicts.{need, first_refusal, count_of, ◌and_then◌, Verdict, refused}
use Rattle.std.specs.Prelude.{Ok, Err}
use Rattle.verdict.specs.declared.Refusal.{Refusal}
use Rattle.verdict.proofs.Verdicts.{need_true, then_left, then_right, ZeroAccepts, zero_accepts_need, zero_accepts_then}
use Rattle.le_bytes.proofs.Same.{Same}
use Rattle.book.specs.Layout.{most_size, last_class}
use Rattle.book.specs.Cells.{held_in_all}
use Rattle.book.specs.Check.{check_header, check_book}
use Rattle.book.proofs.Same.{header_same}
use Rattle.book.proofs.Whole.{book_long}
use Rattle.book.proofs.Valid.{valid}
use Rattle.book.proofs.Numbers.{zero_accepted}
use Rattle.book.proofs.Exact.{accepted_held}
use Rattle.valuation.specs.Totals.{totals_of, differences_of, totals_for, totals_reply}
use Rattle.valuation.specs.declared.TotalsReply.{TotalsReply}
use Rattle.buffer.specs.Text.{Wrote}
use Rattle.buffer.proofs.Digits.{from_start, kept}
use Rattle.fund_definitions.specs.Fund.{front_size, table_size, joined_book, verdict_in, check_lent, fund_reply}

-- a refusal is no acceptance
pub never_accepted : {r : Refusal} {n : ℕ} → Err r ≡ Ok n → ⊥
never_accepted e = let z : ◌≡◌ {A = ℕ} 0 1 = cc in omega arith

module _ (table fund : List ℕ) (whole : front_size ≤ length fund) where
  pub joined_length : length (joined_book table fund) ≡ length fund + length table
  unfolding joined_book
  joined_length = simp (length-append, length-drop, length-take-le front_size fund whole) (omega arith)

  pub rest_whole : take (length fund - front_size) (drop front_size fund) ≡ drop front_size fund
  rest_whole = take_all (length fund - front_size) (drop front_size fund) (omega (arith, length-drop front_size fund))

  -- written into a buffer with space for it, the joined book is read back
  pub read_back : {e x : List ℕ} {r : ℕ} → Wrote e 0 (joined_book table fund) x r
      → length fund + length table ≤ length e
      → (r ≤ length x) × (take r x ≡ joined_book table fund)
  read_back {e} {x} {r} w capacity =
      let b = joined_book table fund in
      let fits : length b ≤ length e = omega (arith, joined_length) in (
        omega (arith, w.place, kept w),
        rw (from_start w fits) (take_at b (drop (length b) e) r (omega (arith, w.place))),
      )

  -- the joined book begins as the fund file does
  joined_front : Same (joined_book table fund) fund 0 front_size
  unfolding joined_book
  joined_front p lo hi =
      let size = length-take-le front_size fund whole in
      get_or-append (take front_size fund ++ table) (drop front_size fund) 0 p
      (omega (arith, length-append (take front_size fund) table))
      ∙ get_or-append (take front_size fund) table 0 p (omega arith)
      ∙ get_or-take front_size fund p 0 hi

  joined_long : most_size < length fund + length table
      → check_book 1 (joined_book table fund) ≡ check_header 1 (length fund + length table) fund
  joined_long long =
      book_long 1 (joined_book table fund) (omega (arith, joined_length))
      ∙ rw joined_length
      (header_same (joined_book table fund) fund (λ p lo hi. joined_front p lo (omega arith)) 1
      (length fund + length table))

-- what Totals names a book is what the check says of it
zero_accepts_checked : (b : List ℕ) → verdict_in (totals_reply b) ≡ check_book 1 b
unfolding totals_reply
zero_accepts_checked b = by (check_book 1 b) refl
  where
    by : (v : Verdict) → check_book 1 b ≡ v
        → verdict_in (totals_for v (held_in_all b (last_class 1)) (totals_of b) (differences_of b)) ≡ v
    by (Ok n) e = ap Ok (sym (accepted_held 1 b n e))
    by (Err r) e =
        rw (ne_eqb r.number 0 (λ z. never_accepted (sym e ∙ zero_accepted 1 b (rw e z))))

-- an accepted reply of Totals
pub zero_accepts_accepted : (reply : TotalsReply) (n : ℕ) → verdict_in reply ≡ Ok n → (reply.refusal ≡ 0)
    × (reply.n ≡ n)
zero_accepts_accepted reply n = by (eqb reply.refusal 0) refl
  where
    by : (t : Bool) → eqb reply.refusal 0 ≡ t
        → cond t (Ok reply.n) (refused reply.refusal reply.place) ≡ Ok n
        → (reply.refusal ≡ 0) × (reply.n ≡ n)
    by true e a = (eqb-true _ _ e, ap count_of a)
    by false e a = absurd (never_accepted a)

-- what is tested for both funds
pub arguments_good : (numbers : ℕ) (table : List ℕ) (m : ℕ) → check_lent numbers table ≡ Ok m
    → (16 ≤ numbers) × (length table ≡ table_size)
unfolding check_lent
arguments_good numbers table m e =
    (leb-true _ _ (need_true _ _ _ _ (then_left _ _ _ e)), eqb-true _ _ (need_true _ _ _ _ (then_right _ _ _ e)))

pub arguments_bad : (numbers : ℕ) (table fund : List ℕ) (r : Refusal) → check_lent numbers table ≡ Err r
    → fund_reply numbers table fund ≡ Err r
unfolding fund_reply first_refusal
arguments_bad numbers table fund r e = rw e

-- As-checked: after the tests of its own, a fund's reply is what the check says of its joined book.
pub as_checked : (numbers : ℕ) (table fund : List ℕ)
    → fund_reply numbers table fund
    ≡ (check_lent numbers table and_then need (leb front_size (length fund)) 1 (length fund) and_then check_book 1
    (joined_book table fund))
unfolding fund_reply
as_checked numbers table fund = rw (zero_accepts_checked (joined_book table fund))

-- refusal 0 is acceptance, of a fund too
pub fund_told : (numbers : ℕ) (table fund : List ℕ) → ZeroAccepts (fund_reply numbers table fund)
unfolding ZeroAccepts check_lent
fund_told numbers table fund =
    rw (as_checked numbers table fund)
    (zero_accepts_then _ _
    (zero_accepts_then _ _ (zero_accepts_then _ _ (zero_accepts_need _ 15 0) (zero_accepts_need _ 23 0))
    (zero_accepts_need _ 0 _))
    (zero_accepted 1 (joined_book table fund)))

-- a fund's reply where the buffer and the table file are as they should be
module _ (numbers : ℕ) (table fund : List ℕ) (capacity : 16 ≤ numbers) (sized : length table ≡ table_size) where
  pub reply_short : length fund < front_size → fund_reply numbers table fund ≡ refused 1 (length fund)
  unfolding fund_reply check_lent need first_refusal
  reply_short h = rw (le-leb _ _ capacity, eq-eqb _ _ sized, lt-leb _ _ h)

  pub reply_joined : front_size ≤ length fund
      → fund_reply numbers table fund ≡ verdict_in (totals_reply (joined_book table fund))
  unfolding fund_reply check_lent need first_refusal
  reply_joined h = rw (le-leb _ _ capacity, eq-eqb _ _ sized, le-leb _ _ h)

  -- a file that is longer than any book's is refused by the header that it begins with
  pub reply_long : front_size ≤ length fund → most_size < length fund + table_size
      → fund_reply numbers table fund ≡ check_header 1 (length fund + table_size) fund
  reply_long h long =
      reply_joined h ∙ zero_accepts_checked (joined_book table fund) ∙ rw (← sized)
      (joined_long table fund h (omega arith))

  -- and is not accepted
  pub never_long : most_size < length fund + table_size → (n : ℕ) → fund_reply numbers table fund ≡ Ok n → ⊥
  never_long long n e =
      let b = joined_book table fund in
      let whole : front_size ≤ length fund = omega arith in
      let h = (valid 1 b n (sym (zero_accepts_checked b) ∙ sym (reply_joined whole) ∙ e)).header in
      omega (arith, h.size, h.few, joined_length table fund whole)
