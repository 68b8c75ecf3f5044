-- The refusal and the place that Totals replies are the check's: 0 where the book is accepted. Assumes nothing.
use mathlib.Core.Path.{◌≡◌, refl, sym, ◌∙◌}
use mathlib.Core.List.{List}
use Prim.Native.Nat.{ℕ}
use lib.IntN.{ℤ}
use Rattle.verdict.specs.Verdicts.{refusal_of, place_of, count_of, Verdict, refused}
use Rattle.std.specs.Prelude.{Ok, Err}
use Rattle.book.specs.Check.{check_book}
use Rattle.book.proofs.Numbers.{zero_accepted}
use Rattle.valuation.specs.Totals.{totals_for, totals_reply}
use Rattle.valuation.specs.declared.TotalsReply.{TotalsReply}

refused_as : (v : Verdict) (n : ℕ) (ts ds : List ℤ)
    → ((totals_for v n ts ds).refusal ≡ refusal_of v) × ((totals_for v n ts ds).place ≡ place_of v)
refused_as (Ok m) n ts ds = (refl, refl)
refused_as (Err r) n ts ds = (refl, refl)

not_accepted : (v : Verdict) → (refusal_of v ≡ 0 → ⊥) → v ≡ refused (refusal_of v) (place_of v)
not_accepted (Ok n) h = absurd (h refl)
not_accepted (Err r) h = refl

module _ (b : List ℕ) (reply : TotalsReply) (is : reply ≡ totals_reply b) where
  refusal_is : reply.refusal ≡ refusal_of (check_book 1 b)
  unfolding totals_reply
  refusal_is = rw is (refused_as (check_book 1 b) _ _ _).0

  place_is : reply.place ≡ place_of (check_book 1 b)
  unfolding totals_reply
  place_is = rw is (refused_as (check_book 1 b) _ _ _).1

  pub totals_accepted : reply.refusal ≡ 0 → check_book 1 b ≡ Ok (count_of (check_book 1 b))
  totals_accepted z = zero_accepted 1 b (sym refusal_is ∙ z)

  pub totals_refused : (reply.refusal ≡ 0 → ⊥) → check_book 1 b ≡ refused reply.refusal reply.place
  totals_refused h = rw (refusal_is, place_is) (not_accepted (check_book 1 b) (λ z. h (refusal_is ∙ z)))
