-- `present_value_span::end_of` meets its contract. The invariant: it holds of the years from k on. Assumes nothing.
use Rattle.cash_flow.specs.CashFlow.{premiums, outgoes}
use Rattle.present_value_span.specs.Spans.{NoneFrom}
use Rattle.present_value_span.proofs.end_of.Given as goal

abbrev pub invariant-loop-k : goal.invariant-loop-k
invariant-loop-k l = NoneFrom (premiums l.years) (outgoes l.years) l.from l.to l.k
