-- `totals::totals` meets its contract: the reply is that of the verdict, and what is promised of it follows from the
-- equation. Assumes nothing.
use mathlib.Core.Path.{sym, ◌∙◌}
use Rattle.book.proofs.Valid.{valid}
use Rattle.book.proofs.Exact.{accepted_held}
use Rattle.valuation.specs.Totals.{totals_reply}
use Rattle.valuation.proofs.Total.{totals_promised}
use Rattle.totals.proofs.totals.Goals as goal

pub computed-requires : goal.computed-requires
computed-requires c = valid 1 _ _ (sym c.check.ensures ∙ c.in-Ok.is)

pub returns-in-Ok : goal.returns-in-Ok
unfolding totals_reply
returns-in-Ok c =
    let e = sym c.check.ensures ∙ c.in-Ok.is in
    totals_promised _ _ (c.computed.ensures ∙ rw (e, ← (accepted_held 1 _ _ e)))

pub returns-in-Err : goal.returns-in-Err
unfolding totals_reply
returns-in-Err c =
    let e = sym c.check.ensures ∙ c.in-Err.is in
    totals_promised _ _ (c.refused.ensures ∙ rw e)
