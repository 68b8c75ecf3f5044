-- `cost_rate_shares::UsableAccounts::rates` meets its contract: the five rates in order. Assumes nothing.
use Rattle.std.proofs.Common.{rules, tests}
use Rattle.cost_rate_shares.specs.Rates.{accounts_rate, rates_of}
use Rattle.cost_rate_shares.proofs.Filled.{filled_by}
use Rattle.cost_rate_shares.proofs.UsableAccounts.rates.Goals as goal

pub returns : goal.returns
unfolding rates_of
returns c =
    let rate = accounts_rate c.args.self.accounts in
    filled_by _ _ rate c.from_fn.result 5 0 (λ i y q k. search (rules, tests)) c.from_fn.ensures.items
