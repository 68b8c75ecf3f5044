-- `totals::eight_settings` meets its contract: each stands at its number. Assumes nothing.
use mathlib.Core.Path.{◌≡◌}
use Rattle.std.proofs.Common.{rules, of_calls}
use Rattle.discount_curve.proofs.Made.{each_made}
use Rattle.totals.proofs.eight_settings.Goals as goal

pub returns : goal.returns
returns c = λ j h d.
    let (s, at, is) = each_made _ _ (λ j s. s.number ≡ j) c.from_fn.result 8
    (λ j s q l called. search (rules, of_calls)) c.from_fn.ensures.items j h in
    rw (at d) is
