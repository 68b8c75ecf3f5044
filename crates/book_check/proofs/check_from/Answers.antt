use mathlib.Core.Path.{sym, ◌∙◌}
use native.Mathlib.Nat.{pos_of_ne-zero}
use native.Mathlib.Omega.{arith}
use Rattle.verdict.proofs.Verdicts.{plus_none, handed_on}
use Rattle.book.proofs.Chains.{from_bad, from_end, from_more, link_inside, link_some}
use Rattle.book_check.proofs.check_from.Goals as goal

pub loop-n-init : goal.loop-n-init
loop-n-init c = (omega arith, omega arith, omega arith, sym (plus_none _))

pub returns-in_err-check_link : goal.returns-in_err-check_link
returns-in_err-check_link c =
    handed_on _ c.from_residual.ensures ∙ sym (c.loop-n.invariant.3 ∙ from_bad _ _ _ _ _ _ _
    (sym c.check_link.ensures ∙ c.in_err-check_link.was))

pub returns-then-above-eq0 : goal.returns-then-above-eq0
returns-then-above-eq0 c =
    let l = c.loop-n in
    let e = sym c.check_link.ensures ∙ c.in_ok-check_link.was in
    sym (l.invariant.3 ∙ from_end _ _ _ _ _ _ _ c.if-above-eq0.true e ∙ rw c.holds-n.ensures.0)

pub loop-n-preserved : goal.loop-n-preserved
loop-n-preserved c =
    let l = c.loop-n in
    let e = sym c.check_link.ensures ∙ c.in_ok-check_link.was in (
      omega arith,
      rw c.next_of-i.ensures.0 (link_some _ _ _ _ _ _ e (pos_of_ne-zero c.if-above-eq0.false)),
      rw c.next_of-i.ensures.0 (link_inside _ _ _ _ _ _ e),
      rw (c.next_of-i.ensures.0, c.holds-n.ensures.0)
          (l.invariant.3 ∙ from_more _ _ _ _ _ _ _ _ (omega arith) e),
    )
