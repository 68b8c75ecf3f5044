-- What Totals' reply says of the book, and that the call's promises follow from the equation alone. Assumes nothing.
use mathlib.Core.Path.{◌≡◌, refl, sym, ap, ◌∙◌}
use mathlib.Core.List.{List}
use Prim.Native.Nat.{ℕ, ◌≤◌, zero-le}
use lib.IntN.{ℤ}
use Rattle.verdict.specs.Verdicts.{first_refusal, refusal_of, count_of, ◌and_then◌, Verdict, refused}
use Rattle.std.specs.Prelude.{Ok, Err}
use Rattle.verdict.specs.declared.Refusal.{Refusal}
use Rattle.book.specs.Layout.{last_class}
use Rattle.book.specs.Cells.{held_in_all}
use Rattle.book.specs.Check.{check_book}
use Rattle.book.proofs.Numbers.{zero_accepted}
use Rattle.valuation.specs.Totals.{totals_of, differences_of, totals_for, totals_reply}
use Rattle.valuation.specs.declared.TotalsReply.{TotalsReply}
use Rattle.risk_model.specs.declared.RiskModel.{RiskModel}
use Rattle.risk_factors.specs.declared.DeviationReply.{DeviationReply}
use Rattle.risk_factors.specs.Refusals.{check_factors}
use Rattle.risk_factors.specs.Replies.{deviation_for, deviation_reply_for}
use Rattle.risk_factors.proofs.Replied.{Passed, passed, passed_accepted, root_known, deviation_most}
use Rattle.standard_deviation.specs.Deviation.{check_deviation, deviation_reply, DeviationContract}

-- refusal, place and differences of Totals are those of the book
module _ (b : List ℕ) (t : TotalsReply) (e : t ≡ totals_reply b) where
  pub book_refused : (t.refusal ≡ 0 → ⊥) → check_book 1 b ≡ refused t.refusal t.place
  unfolding totals_reply
  book_refused some = by (check_book 1 b) (held_in_all b (last_class 1)) (totals_of b) (differences_of b) e
    where
      by : (v : Verdict) (n : ℕ) (ts ds : List ℤ) → t ≡ totals_for v n ts ds → v ≡ refused t.refusal t.place
      by (Ok m) n ts ds f = absurd (some (ap (λ (x : TotalsReply). x.refusal) f))
      by (Err r) n ts ds f = rw f

  pub book_accepted : t.refusal ≡ 0 → check_book 1 b ≡ Ok (count_of (check_book 1 b))
  unfolding totals_reply
  book_accepted none =
      zero_accepted 1 b
      (sym (by (check_book 1 b) (held_in_all b (last_class 1)) (totals_of b) (differences_of b) e) ∙ none)
    where
      by : (v : Verdict) (n : ℕ) (ts ds : List ℤ) → t ≡ totals_for v n ts ds → t.refusal ≡ refusal_of v
      by (Ok m) n ts ds f = ap (λ (x : TotalsReply). x.refusal) f
      by (Err r) n ts ds f = ap (λ (x : TotalsReply). x.refusal) f

  pub book_differences : t.refusal ≡ 0 → t.differences ≡ differences_of b
  unfolding totals_reply
  book_differences none = ap (λ (x : TotalsReply). x.differences) (rw (book_accepted none) at e)

-- the book's refusals come first
pub book_first : (b : List ℕ) (m : RiskModel) (r : Refusal) → check_book 1 b ≡ Err r
    → deviation_reply b m ≡ deviation_reply_for (Err r) 0
unfolding deviation_reply check_deviation first_refusal
book_first b m r e = rw e

-- one verdict after the other, as the reply shows them
first_none : (v w : Verdict) (x : ℕ) → (deviation_reply_for (v and_then w) x).refusal ≡ 0 → refusal_of v ≡ 0
unfolding first_refusal
first_none (Ok n) w x z = refl
first_none (Err r) w x z = z

second_none : (w : Verdict) (x : ℕ) → (deviation_reply_for w x).refusal ≡ 0 → refusal_of w ≡ 0
second_none (Ok n) x z = refl
second_none (Err r) x z = z

at_most : (v w : Verdict) (x m : ℕ) → (refusal_of w ≡ 0 → x ≤ m) → (deviation_reply_for (v and_then w) x).deviation ≤ m
unfolding first_refusal
at_most (Ok n) (Ok k) x m h = h refl
at_most (Ok n) (Err r) x m h = zero-le
at_most (Err r) w x m h = zero-le

module _ (b : List ℕ) (m : RiskModel) where
  -- no refusal: the book is accepted, and the model and its factors pass
  pub taken : (deviation_reply b m).refusal ≡ 0 → Passed (differences_of b) m
  unfolding deviation_reply check_deviation first_refusal
  taken z =
      let v = check_book 1 b in
      let book : v ≡ Ok (count_of v) = zero_accepted 1 b (first_none v _ _ z) in
      passed _ m (second_none (check_factors (differences_of b) m) (deviation_for (differences_of b) m) (rw book at z))

  reckoned : (deviation_reply b m).refusal ≡ 0 → (deviation_reply b m).deviation ≡ deviation_for (differences_of b) m
  unfolding deviation_reply check_deviation first_refusal
  reckoned z =
      let v = check_book 1 b in
      let book : v ≡ Ok (count_of v) = zero_accepted 1 b (first_none v _ _ z) in
      rw (book, passed_accepted _ m (taken z))

  pub promised : (reply : DeviationReply) → reply ≡ deviation_reply b m → DeviationContract b m reply
  unfolding deviation_reply check_deviation
  promised reply e =
      record {
        reply_is = e;
        form = λ z. (taken (rw e at z)).form;
        root = λ z. rw (e, reckoned (rw e at z)) (root_known (differences_of b) m);
        most =
            rw e
            (at_most (check_book 1 b) (check_factors (differences_of b) m) _ _
            (λ z. deviation_most _ m (passed _ m z)));
      }
