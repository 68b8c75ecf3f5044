-- `practice_book::practice` meets its contract: what is not refused is written, and nothing else. Assumes nothing.
use mathlib.Core.Path.{◌≡◌, sym, ◌∙◌}
use lib.ListN.{length}
use Rattle.std.specs.Prelude.{Ok}
use Rattle.verdict.specs.Verdicts.{first_refusal}
use Rattle.verdict.proofs.Verdicts.{handed_on}
use Rattle.practice_book.specs.Practice.{check_practice, practice_reply}
use Rattle.practice_book.proofs.PracticeContract.{promised, write_promised}
use Rattle.practice_book.proofs.practice.Goals as goal

pub returns-in_err-need : goal.returns-in_err-need
unfolding practice_reply check_practice first_refusal
returns-in_err-need c =
    let e = sym c.need.ensures ∙ c.in_err-need.was in
    promised _ _ _ _ (handed_on _ c.from_residual.ensures ∙ rw e) (rw e)

pub returns-in_err-need-2 : goal.returns-in_err-need-2
unfolding practice_reply check_practice first_refusal
returns-in_err-need-2 c =
    let e = sym c.need.ensures ∙ c.in_ok-need.was in
    let f = sym c.need-2.ensures ∙ c.in_err-need-2.was in
    promised _ _ _ _ (handed_on _ c.from_residual-in_err-need-2.ensures ∙ rw (e, f)) (rw (e, f))

pub returns : goal.returns
unfolding check_practice first_refusal
returns c =
    let a = c.args in
    let e : check_practice a.start (length a.out.now) ≡ Ok c.in_ok-need-2.field-0 =
    rw (sym c.need.ensures ∙ c.in_ok-need.was) (sym c.need-2.ensures ∙ c.in_ok-need-2.was) in
    write_promised _ _ e c.write_drawn.ensures
