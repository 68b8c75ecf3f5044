-- Records that no chain links have no effect on the deviation. Assumes nothing.
use mathlib.Core.Path.{◌≡◌, refl, sym, ap, ◌∙◌}
use mathlib.Core.List.{List}
use Prim.Native.Nat.{ℕ}
use lib.IntN.{ℤ}
use Rattle.verdict.specs.Verdicts.{first_refusal, ◌and_then◌, Verdict}
use Rattle.std.specs.Prelude.{Ok, Err}
use Rattle.book.specs.Rules.{SameButUnlinked}
use Rattle.book.specs.Check.{check_book}
use Rattle.book.proofs.Unlinked.{unlinked_same}
use Rattle.valuation.specs.Totals.{differences_of, totals_reply}
use Rattle.valuation.specs.declared.TotalsReply.{TotalsReply}
use Rattle.valuation.proofs.Unlinked.{totals_same}
use Rattle.risk_model.specs.declared.RiskModel.{RiskModel}
use Rattle.risk_factors.specs.Refusals.{check_factors}
use Rattle.risk_factors.specs.Replies.{deviation_for, deviation_reply_for, factors_reply}
use Rattle.standard_deviation.specs.Deviation.{check_deviation, deviation_reply}

-- the differences of an accepted book are those of its Totals
reply_differences : (b : List ℕ) (n : ℕ) → check_book 1 b ≡ Ok n → (totals_reply b).differences ≡ differences_of b
unfolding totals_reply
reply_differences b n e = rw e

pub deviation_same : (b b' : List ℕ) → SameButUnlinked b b' → (m : RiskModel)
    → deviation_reply b m ≡ deviation_reply b' m
unfolding deviation_reply check_deviation factors_reply first_refusal
deviation_same b b' s m = rw (← (unlinked_same b b' s 1)) (by (check_book 1 b) refl)
  where
    by : (v : Verdict) → check_book 1 b ≡ v
        → deviation_reply_for (v and_then check_factors (differences_of b) m) (deviation_for (differences_of b) m)
        ≡ deviation_reply_for (v and_then check_factors (differences_of b') m) (deviation_for (differences_of b') m)
    by (Ok n) e =
        ap (λ (differences : List ℤ). factors_reply differences m)
        (sym (reply_differences b n e)
        ∙ ap (λ (t : TotalsReply). t.differences) (totals_same b b' s)
        ∙ reply_differences b' n (sym (unlinked_same b b' s 1) ∙ e))
    by (Err r) e = refl
