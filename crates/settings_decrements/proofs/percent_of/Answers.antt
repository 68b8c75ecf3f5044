-- `settings_decrements::percent_of` meets its contract, by the edition: an accepted book of edition 2 carries at most
-- 100. Assumes nothing.
use mathlib.Core.Path.{sym, ◌∙◌}
use native.Mathlib.Omega.{arith}
use borrow.Author.Tests.{eq-eqb, ne_eqb}
use Rattle.settings_decrements.specs.Decrements.{percent_of}
use Rattle.settings_decrements.proofs.percent_of.Goals as goal

pub returns-then-edition-eq2 : goal.returns-then-edition-eq2
unfolding percent_of
returns-then-edition-eq2 c =
    let read = c.edition.ensures.0 in
    let two = c.if-edition-eq2.true in (
      rw (← read, eq-eqb _ 2 two) c.percent_at.ensures.0,
      omega (
        arith,
        c.requires.1.header.percent_high (sym read ∙ two) c.args.sex c.requires.0,
        c.percent_at.ensures.0,
      ),
    )

pub returns-then-sex-eq0 : goal.returns-then-sex-eq0
unfolding percent_of
returns-then-sex-eq0 c = (
  rw
      (← c.edition.ensures.0, ne_eqb _ 2 c.if-edition-eq2.false, eq-eqb _ _ c.if-sex-eq0.true),
  omega
      arith,
)

pub returns-else-sex-eq0 : goal.returns-else-sex-eq0
unfolding percent_of
returns-else-sex-eq0 c = (
  rw
      (← c.edition.ensures.0, ne_eqb _ 2 c.if-edition-eq2.false, ne_eqb _ _ c.if-sex-eq0.false),
  omega
      arith,
)
