-- What the refusals say, and that the promise follows from the reply and the caller's numbers. Assumes nothing.
use mathlib.Core.Path.{◌≡◌, sym, ap, ◌∙◌}
use mathlib.Core.List.{List, ◌++◌}
use Prim.Native.Nat.{ℕ, ◌<◌}
use native.Mathlib.Nat.{pos_of_ne-zero}
use borrow.Author.Tests.{eqb-false, eq-eqb, ne_eqb, not-true}
use lib.ListN.{length, drop}
use Rattle.verdict.specs.declared.Refusal.{Refusal}
use Rattle.lists.proofs.Each.{each_length}
use Rattle.verdict.specs.Verdicts.{need, first_refusal, count_of, Verdict, refused}
use Rattle.std.specs.Prelude.{Ok, Err}
use Rattle.verdict.proofs.Verdicts.{need_true, then_left, then_right, ZeroAccepts, zero_accepts_need, zero_accepts_then}
use Rattle.text_reply.specs.Replies.{buffer_for}
use Rattle.book.specs.Check.{check_book}
use Rattle.book.specs.Rules.{Rules}
use Rattle.book.specs.Reading.{ValidBook}
use Rattle.book.proofs.Valid.{valid}
use Rattle.book.proofs.Numbers.{zero_accepted}
use Rattle.book.proofs.Exact.{accepted_rules}
use Rattle.in_force_request.specs.Request.{record_at_class, asked_check, OnlyOne}
use Rattle.in_force_request.proofs.Records.{only_one}
use Rattle.in_force_request.proofs.Asked.{asked_code, asked_sex}
use Rattle.in_force.specs.InForceRun.{in_force_check, in_force_run, in_force_numbers, InForceContract}

module _ (b : List ℕ) (setting code sex class numbers : ℕ) where
  -- the refusals in their order, and acceptance
  pub by_asked : (r : Refusal) → asked_check setting code sex numbers ≡ Err r
      → in_force_check b setting code sex class numbers ≡ Err r
  unfolding in_force_check first_refusal
  by_asked r e = rw e

  module _ (m : ℕ) (e : asked_check setting code sex numbers ≡ Ok m) where
    pub by_book : (r : Refusal) → check_book 1 b ≡ Err r
        → in_force_check b setting code sex class numbers ≡ Err r
    unfolding in_force_check first_refusal
    by_book r f = rw (e, f)

    pub by_class : (n : ℕ) → check_book 1 b ≡ Ok n → record_at_class b code sex class ≡ 0
        → in_force_check b setting code sex class numbers ≡ refused 26 0
    unfolding in_force_check first_refusal need
    by_class n f none = rw (e, f, eq-eqb _ _ none)

    pub by_none : (n : ℕ) → check_book 1 b ≡ Ok n → (record_at_class b code sex class ≡ 0 → ⊥)
        → in_force_check b setting code sex class numbers ≡ Ok 0
    unfolding in_force_check first_refusal need
    by_none n f some = rw (e, f, ne_eqb _ _ some)

  -- what acceptance says: the caller's tests, the book, and that there is a record
  module _ (n : ℕ) (e : in_force_check b setting code sex class numbers ≡ Ok n) where
    pub accepted_asked : asked_check setting code sex numbers
        ≡ Ok (count_of (asked_check setting code sex numbers))
    unfolding in_force_check
    accepted_asked = then_left _ _ _ (then_left _ _ _ e)

    pub accepted_valid : ValidBook 1 b
    unfolding in_force_check
    accepted_valid = valid 1 b _ (then_right _ _ _ (then_left _ _ _ e))

    accepted_kept : Rules 1 b
    unfolding in_force_check
    accepted_kept = accepted_rules 1 b _ (then_right _ _ _ (then_left _ _ _ e))

    pub accepted_some : 0 < record_at_class b code sex class
    unfolding in_force_check
    accepted_some = pos_of_ne-zero (eqb-false _ _ (not-true _ (need_true _ _ _ _ (then_right _ _ _ e))))

    accepted_record : OnlyOne b code sex class (record_at_class b code sex class)
    accepted_record =
        only_one b accepted_valid accepted_kept code sex class
        (asked_code setting code sex numbers _ accepted_asked) (asked_sex setting code sex numbers _ accepted_asked)
        accepted_some

-- refusal 0 is acceptance, of this call too
in_force_told : (b : List ℕ) (setting code sex class numbers : ℕ)
    → ZeroAccepts (in_force_check b setting code sex class numbers)
unfolding ZeroAccepts in_force_check asked_check
in_force_told b setting code sex class numbers =
    zero_accepts_then _ _
    (zero_accepts_then _ _
    (zero_accepts_then _ _
    (zero_accepts_then _ _ (zero_accepts_then _ _ (zero_accepts_need _ 13 0) (zero_accepts_need _ 24 0))
    (zero_accepts_need _ 24 0))
    (zero_accepts_need _ 24 0))
    (zero_accepted 1 b))
    (zero_accepts_need _ 25 0)

-- the promise, of a call that refuses and of one that accepts
module _ (b : List ℕ) (setting code sex class : ℕ) (before after : List ℕ) (reply : Verdict) where
  promised : reply ≡ in_force_check b setting code sex class (length before)
      → after ≡ in_force_numbers b setting code sex class before
      → InForceContract b setting code sex class before after reply
  unfolding ZeroAccepts
  promised reply_is numbers_are = record {
    reply_is = reply_is;
    numbers_are = numbers_are;
    record_is = λ none.
        accepted_record b setting code sex class (length before) _
        (in_force_told b setting code sex class (length before) (rw reply_is at none));
  }

  pub not_shown : (r : Refusal) → in_force_check b setting code sex class (length before) ≡ Err r → reply ≡ Err r
      → after ≡ before → InForceContract b setting code sex class before after reply
  unfolding in_force_numbers
  not_shown r e is same =
      let run = in_force_run b setting (record_at_class b code sex class) in
      promised (is ∙ sym e) (same ∙ sym (ap (λ (v : Verdict). buffer_for v run before) e))

  pub shown : (m : ℕ) → in_force_check b setting code sex class (length before) ≡ Ok m → reply ≡ Ok m
      → after ≡ in_force_run b setting (record_at_class b code sex class) ++ drop 50 before
      → InForceContract b setting code sex class before after reply
  unfolding in_force_numbers in_force_run
  shown m e is run = promised (is ∙ sym e) (run ∙ sym (rw (e, each_length _ 50)))
