-- `fund_totals::value_fund` meets its contract: at each return the laws of the fund's reply say which it is.
-- Assumes nothing.
use mathlib.Core.Path.{◌≡◌, sym, ap, ◌∙◌}
use native.Mathlib.Omega.{arith}
use borrow.Author.Tests.{eq-eqb, ne_eqb, leb-true, leb-false}
use lib.ListN.{length}
use Prim.Native.Nat.{◌≤◌}
use Rattle.verdict.proofs.Verdicts.{need_true, need_fails, handed_on}
use Rattle.fund_definitions.specs.Fund.{front_size, fund_reply, verdict_in}
use Rattle.fund_definitions.proofs.Joined.{never_accepted, reply_short, reply_joined, reply_long, never_long}
use Rattle.fund_definitions.proofs.Half.{fund_refused, fund_accepted}
use Rattle.fund_totals.proofs.value_fund.Goals as goal
use Rattle.fund_totals.proofs.value_fund.Goals.{After-joined_totals-reply, In_ok-need}

-- the file is not shorter than what stands before its records
enough : (c : In_ok-need) → front_size ≤ length c.args.fund.now
enough c = leb-true _ _ (need_true _ _ _ _ (sym c.need.ensures ∙ c.in_ok-need.was))

pub returns-in_err-need : goal.returns-in_err-need
returns-in_err-need c =
    let a = c.args in
    let f = need_fails _ _ _ _ (sym c.need.ensures ∙ c.in_err-need.was) in
    rw (handed_on _ c.from_residual.ensures, f.1)
    (fund_refused a.table.now a.fund.now a.at a.numbers.now _
    (sym (reply_short (length a.numbers.now) a.table.now a.fund.now c.requires.0 c.requires.1
    (leb-false _ _ f.0)))
    (λ n e. never_accepted e))

pub returns-then-size-gt-MOST_SIZE : goal.returns-then-size-gt-MOST_SIZE
returns-then-size-gt-MOST_SIZE c =
    let a = c.args in
    let long = c.if-size-gt-MOST_SIZE.true in
    let e = c.check_header.ensures ∙ sym
    (reply_long (length a.numbers.now) a.table.now a.fund.now c.requires.0 c.requires.1 (omega arith)
    long) in
    fund_refused a.table.now a.fund.now a.at a.numbers.now _ e
    (λ n f. never_long (length a.numbers.now) a.table.now a.fund.now c.requires.0 c.requires.1 long n
    (sym e ∙ f))

pub joined_totals-reply-requires : goal.joined_totals-reply-requires
joined_totals-reply-requires c =
    let h = enough (goal.at.joined_totals-reply-requires c).In_ok-need in (h, omega arith)

-- the fund's reply is what Totals' reply says
told : (c : After-joined_totals-reply) → front_size ≤ length c.args.fund.now
    → verdict_in c.joined_totals-reply.result ≡ fund_reply
    (length c.args.numbers.now)
    c.args.table.now
    c.args.fund.now
told c h =
    let a = c.args in
    ap verdict_in c.joined_totals-reply.ensures.reply_is
    ∙ sym (reply_joined (length a.numbers.now) a.table.now a.fund.now c.requires.0 c.requires.1
    (omega (arith, h)))

pub returns-then-reply-eq0 : goal.returns-then-reply-eq0
returns-then-reply-eq0 c =
    let a = c.args in
    fund_accepted a.table.now a.fund.now a.at a.numbers.now _ _
    (rw (eq-eqb _ 0 c.if-reply-eq0.true) at (told (goal.at.returns-then-reply-eq0 c).After-joined_totals-reply
    (enough (goal.at.returns-then-reply-eq0 c).In_ok-need)))
    (rw c.joined_totals-reply.ensures.reply_is at c.put_totals.ensures)

pub returns : goal.returns
returns c =
    let a = c.args in
    fund_refused a.table.now a.fund.now a.at a.numbers.now _
    (rw (ne_eqb _ 0 c.if-reply-eq0.false) at (told (goal.at.returns c).After-joined_totals-reply
    (enough (goal.at.returns c).In_ok-need)))
    (λ n e. never_accepted e)
