-- `funds::funds` meets its contract: both funds are refused alike, or one is computed after the other. Assumes nothing.
use mathlib.Core.Path.{sym, ◌∙◌}
use native.Mathlib.Omega.{arith}
use lib.ListN.{length}
use Rattle.fund_definitions.specs.Funds.{funds_reply}
use Rattle.fund_definitions.proofs.Joined.{arguments_good, arguments_bad}
use Rattle.fund_definitions.proofs.Halves.{both_refused, both}
use Rattle.fund_definitions.proofs.FundsContract.{funds_promised}
use Rattle.funds.proofs.funds.Goals as goal

pub returns-in-Err : goal.returns-in-Err
unfolding funds_reply
returns-in-Err c =
    let a = c.args in
    let e = sym c.check_arguments.ensures ∙ c.in-Err.is in
    let f = arguments_bad (length a.numbers.now) a.table.now a.first.now _ e in
    let s = arguments_bad (length a.numbers.now) a.table.now a.second.now _ e in
    funds_promised a.table.now a.first.now a.second.now a.numbers.now a.numbers.now _
    (rw (f, s))
    (sym (both_refused a.table.now a.numbers.now a.first.now a.second.now _ f s))

pub value_fund-first_reply-requires : goal.value_fund-first_reply-requires
value_fund-first_reply-requires c =
    let a = c.args in
    let g = arguments_good (length a.numbers.now) a.table.now _
    (sym c.check_arguments.ensures ∙ c.in_default.is) in
    (g.0, g.1, omega (arith, g.0))

pub value_fund-second_reply-requires : goal.value_fund-second_reply-requires
value_fund-second_reply-requires c =
    let a = c.args in
    let g = arguments_good (length a.numbers.now) a.table.now _
    (sym c.check_arguments.ensures ∙ c.in_default.is) in
    let same = c.value_fund-first_reply.auto.numbers in
    (omega (arith, g.0, same), g.1, omega (arith, g.0, same))

pub returns : goal.returns
returns c =
    let a = c.args in
    let g = arguments_good (length a.numbers.now) a.table.now _
    (sym c.check_arguments.ensures ∙ c.in_default.is) in
    let b = both a.table.now a.first.now a.second.now a.numbers.now c.value_fund-first_reply.new.numbers
    c.value_fund-second_reply.new.numbers _ _ g.0 c.value_fund-first_reply.auto.numbers c.value_fund-first_reply.ensures
    c.value_fund-second_reply.ensures in
    funds_promised a.table.now a.first.now a.second.now a.numbers.now _ _ b.0 b.1
