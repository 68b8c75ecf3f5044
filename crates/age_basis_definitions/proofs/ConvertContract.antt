-- What the call promises follows from its verdict and from the bytes that were written. Assumes nothing.
use mathlib.Core.Path.{◌≡◌, refl, sym, ◌∙◌}
use mathlib.Core.List.{List, ◌++◌}
use Prim.Native.Nat.{ℕ, ◌≤◌}
use borrow.Author.Tests.{leb-true}
use lib.ListN.{length, take, drop}
use lib.Seq.{take_at}
use Rattle.verdict.specs.declared.Refusal.{Refusal}
use Rattle.verdict.specs.Verdicts.{refusal_of, count_of, Verdict}
use Rattle.std.specs.Prelude.{Ok, Err}
use Rattle.verdict.proofs.Verdicts.{need_true, then_left, then_right, ZeroAccepts, zero_accepts_need, zero_accepts_then}
use Rattle.book.specs.Check.{check_book}
use Rattle.book.proofs.Numbers.{zero_accepted}
use Rattle.age_basis_definitions.specs.Conversion.{converted, convert_check, converted_buffer, ConvertContract}
use Rattle.age_basis_definitions.proofs.Exact.{converted_length}
use Rattle.age_basis_definitions.proofs.Passes.{converted_accepted}

module _ (b : List ℕ) (capacity n : ℕ) (e : convert_check b capacity ≡ Ok n) where
  pub convert_fits : length b ≤ capacity
  unfolding convert_check
  convert_fits = leb-true _ _ (need_true _ _ _ _ (then_left _ _ _ e))

  pub convert_accepted : check_book 2 b ≡ Ok n
  unfolding convert_check
  convert_accepted = then_right _ _ _ e

-- refusal 0 is acceptance, of the converter too
convert_told : (b : List ℕ) (capacity : ℕ) → ZeroAccepts (convert_check b capacity)
unfolding ZeroAccepts convert_check
convert_told b capacity = zero_accepts_then _ _ (zero_accepts_need _ 15 0) (zero_accepted 2 b)

module _ (b before : List ℕ) (v : Verdict) (is : v ≡ convert_check b (length before)) where
  -- without a refusal the converted book stands in the buffer, and passes the check with n of the reply
  accepted : refusal_of v ≡ 0 → convert_check b (length before) ≡ Ok (count_of v)
  unfolding ZeroAccepts
  accepted none = rw is (convert_told b (length before) (rw is at none))

  stands : refusal_of v ≡ 0 → take (length b) (converted_buffer b before) ≡ converted b
  unfolding converted_buffer
  stands none = rw (accepted none) (take_at (converted b) _ (length b) (converted_length b))

  promised : (after : List ℕ) → after ≡ converted_buffer b before → ConvertContract b before after v
  promised after buffer_is = record {
    reply_is = is;
    buffer_is = buffer_is;
    passes = λ none.
        rw (buffer_is, stands none, converted_accepted b _ (convert_accepted b (length before) _ (accepted none)))
        (refl, refl);
  }

  pub refused : (r : Refusal) → v ≡ Err r → ConvertContract b before before v
  unfolding converted_buffer
  refused r e = promised before (rw (sym is ∙ e))

  pub delivered : (n : ℕ) (after : List ℕ) → v ≡ Ok n → after ≡ converted b ++ drop (length b) before
      → ConvertContract b before after v
  unfolding converted_buffer
  delivered n after e written = promised after (rw (sym is ∙ e, converted_length b) written)
