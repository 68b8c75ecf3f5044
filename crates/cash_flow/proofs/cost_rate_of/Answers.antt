-- `cash_flow::cost_rate_of` meets its contract: the field that was read, in its range. Assumes nothing.
use Rattle.valuation.specs.Portfolio.{cost_rate_of}
use Rattle.valuation.proofs.Accepted.{cost_high}
use Rattle.cash_flow.proofs.cost_rate_of.Goals as goal

pub returns : goal.returns
unfolding cost_rate_of
returns c =
    let e = c.read_u32.ensures.0 in
    (e, rw e (cost_high c.args.book.now c.requires.2 c.args.group c.requires.0 c.requires.1))
