-- `risk_form::CorrelatedFactors::term` meets its contract: two products, for which the bounds leave space. Assumes
-- nothing.
use native.Mathlib.Omega.{arith}
use Rattle.risk_form.proofs.Bounds.{half_most, whole_most}
use Rattle.risk_form.proofs.CorrelatedFactors.term.Goals as goal

pub times-requires : goal.times-requires
times-requires c =
    let w = c.args.self.now in
    rw (c.at-2.ensures, c.at.ensures)
    (omega (arith, half_most _ _ w.known w.small c.args.i c.args.j c.requires.0 c.requires.1))

pub times-requires-2 : goal.times-requires-2
times-requires-2 c =
    let w = c.args.self.now in
    rw (c.at-3.ensures, c.times.ensures, c.at-2.ensures, c.at.ensures)
    (omega (arith, whole_most _ _ w.known w.small c.args.i c.args.j c.requires.0 c.requires.1))

pub returns : goal.returns
returns c =
    rw (
      c.times-2.ensures,
      c.at-3.ensures,
      c.times.ensures,
      c.at-2.ensures,
      c.at.ensures,
    )
