-- `standard_deviation::deviation` meets its contract: the book's refusal as Totals gives it, or what its four
-- differences give.
-- Assumes nothing.
use mathlib.Core.Path.{sym, ap, ◌∙◌}
use mathlib.Core.List.{List}
use lib.IntN.{ℤ}
use Rattle.verdict.specs.Verdicts.{first_refusal}
use Rattle.risk_factors.specs.Replies.{factors_reply}
use Rattle.standard_deviation.specs.Deviation.{check_deviation, deviation_reply}
use Rattle.standard_deviation.proofs.DeviationContract.{book_refused, book_accepted, book_differences}
use Rattle.standard_deviation.proofs.DeviationContract.{book_first, promised}
use Rattle.standard_deviation.proofs.deviation.Goals as goal

pub returns-then-refusal-ne0 : goal.returns-then-refusal-ne0
returns-then-refusal-ne0 c =
    let t = c.totals-t in
    promised _ _ _ (sym (book_first _ _ _ (book_refused _ t.result t.ensures.reply_is c.if-refusal-ne0.true)))

pub returns : goal.returns
unfolding deviation_reply check_deviation factors_reply first_refusal
returns c =
    let t = c.totals-t in
    let a = c.args in
    let b = a.book.now in
    let is = t.ensures.reply_is in
    promised _ _ _
    (c.of_differences.ensures
    ∙ ap (λ (d : List ℤ). factors_reply d a.model) (book_differences b t.result is c.if-refusal-ne0.false)
    ∙ sym (rw (book_accepted b t.result is c.if-refusal-ne0.false)))
