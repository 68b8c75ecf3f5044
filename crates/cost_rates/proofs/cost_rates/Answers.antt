-- `cost_rates::cost_rates` meets its contract: the reply is the verdict's, its promises follow. Assumes nothing.
use mathlib.Core.Path.{sym, ap, ◌∙◌}
use Rattle.std.specs.Prelude.{Ok}
use Rattle.cost_rates.specs.Replies.{rates_reply_for}
use Rattle.cost_rate_limits.proofs.Bounded.{bounded}
use Rattle.cost_rate_divisors.proofs.Usable.{usable}
use Rattle.cost_rate_shares.specs.Rates.{rates_of}
use Rattle.cost_rates.proofs.RatesContract.{rates_promised}
use Rattle.cost_rates.proofs.Replied.{replied_17, replied_18, replied_19, replied_rates}
use Rattle.cost_rates.proofs.cost_rates.Goals as goal

pub returns-then-not-within_limits : goal.returns-then-not-within_limits
returns-then-not-within_limits c =
    let limits = sym c.within_limits.ensures ∙ c.if-not-within_limits.true in
    rates_promised _ _ (c.refused.ensures ∙ sym (replied_17 _ limits))

pub invariant_of-bounded : goal.invariant_of-bounded
invariant_of-bounded c =
    record { bounded = bounded _ (sym c.within_limits.ensures ∙ c.if-not-within_limits.false) }

pub returns-then-not-can_compute : goal.returns-then-not-can_compute
returns-then-not-can_compute c =
    let limits = sym c.within_limits.ensures ∙ c.if-not-within_limits.false in
    let sums = sym c.can_compute.ensures ∙ c.if-not-can_compute.true in
    rates_promised _ _ (c.refused-then-not-can_compute.ensures ∙ sym (replied_18 _ limits sums))

pub invariant_of-usable : goal.invariant_of-usable
invariant_of-usable c =
    let limits = sym c.within_limits.ensures ∙ c.if-not-within_limits.false in
    record { usable = usable _ (bounded _ limits) (sym c.can_compute.ensures ∙ c.if-not-can_compute.false) }

pub returns-then-not-all_at_most : goal.returns-then-not-all_at_most
unfolding rates_of
returns-then-not-all_at_most c =
    let limits = sym c.within_limits.ensures ∙ c.if-not-within_limits.false in
    let sums = sym c.can_compute.ensures ∙ c.if-not-can_compute.false in
    let high = sym c.all_at_most.ensures ∙ c.if-not-all_at_most.true in
    rates_promised _ _
    (c.refused-then-not-all_at_most.ensures ∙ sym (replied_19 _ limits sums (rw c.rates-rates.ensures at high)))

pub returns : goal.returns
unfolding rates_of
returns c =
    let reckoned = c.rates-rates.ensures in
    let limits = sym c.within_limits.ensures ∙ c.if-not-within_limits.false in
    let sums = sym c.can_compute.ensures ∙ c.if-not-can_compute.false in
    let low = sym c.all_at_most.ensures ∙ c.if-not-all_at_most.false in
    rates_promised _ _
    (ap (rates_reply_for (Ok 0)) reckoned ∙ sym (replied_rates _ limits sums (rw reckoned at low)))
