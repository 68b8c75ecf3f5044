-- `claims_variation::spread` meets its contract: the reply is the defined one, from which the promises follow. Assumes
-- nothing.
use mathlib.Core.Path.{sym, ◌∙◌}
use borrow.Author.Tests.{eq-eqb, ne_eqb}
use Rattle.verdict.proofs.Verdicts.{handed_on}
use Rattle.claims_variation.specs.Replies.{spread_reply}
use Rattle.claims_variation.proofs.Passed.{accepted_ranked}
use Rattle.claims_variation.proofs.SpreadContract.{spread_promised}
use Rattle.claims_variation.proofs.spread.Goals as goal

pub returns-in_err-check : goal.returns-in_err-check
unfolding spread_reply
returns-in_err-check c =
    spread_promised _ _ _ (handed_on _ c.from_residual.ensures ∙ rw (sym c.check.ensures ∙ c.in_err-check.was))

pub estimated-estimates-requires : goal.estimated-estimates-requires
estimated-estimates-requires c = accepted_ranked _ _ _ (sym c.check.ensures ∙ c.in_ok-check.was)

pub returns-then-claims : goal.returns-then-claims
unfolding spread_reply
returns-then-claims c =
    let e = sym c.check.ensures ∙ c.in_ok-check.was in
    spread_promised _ _ _ (rw (e, eq-eqb _ _ c.if-claims.true, c.estimated-estimates.ensures))

pub returns-else-claims : goal.returns-else-claims
unfolding spread_reply
returns-else-claims c =
    let e = sym c.check.ensures ∙ c.in_ok-check.was in
    spread_promised _ _ _ (rw (e, ne_eqb _ _ c.if-claims.false, c.estimated-estimates.ensures))
