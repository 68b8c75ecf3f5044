-- `discount::step_year` meets its contract: one store. Assumes nothing.
use mathlib.Core.Path.{◌≡◌, refl, ap, ◌∙◌}
use mathlib.Core.List.{List, map}
use Prim.Native.Nat.{ℕ, ◌*◌, ◌/◌, ◌<◌}
use native.Mathlib.Omega.{arith}
use lib.ListN.{length, get_or, set}
use Rattle.std.proofs.lemmas.List.{map-set, get_or-map}
use Rattle.std.proofs.Math.ListN.{get_or-map as get_or-map_always}
use Rattle.cash_flow.specs.declared.Amounts.{Amounts}
use Rattle.discount.specs.Discount.{divisors}
use Rattle.discount.specs.declared.curve.YearDivisor.{YearDivisor}
use Rattle.discount.proofs.step_year.Goals as goal

-- an amount that was read, a year back, stored as the year's
stored_back : (part : Amounts → ℕ) (none y : Amounts) (years : List Amounts) (curve : List YearDivisor) (k : ℕ)
    (d : YearDivisor) → part none ≡ 0 → k < length curve
    → part y ≡ part (get_or years k none) * 1000000 / (get_or curve k d).divisor
    → map part (set years k y)
    ≡ set (map part years) k (get_or (map part years) k 0 * 1000000 / get_or (divisors curve) k 0)
stored_back part none y years curve k d z h e =
    let read = rw z at (get_or-map_always part years k none) in
    map-set part years k y
    ∙ ap (set (map part years) k) (rw (read, get_or-map (λ d. d.divisor) curve k d 0 h) e)

pub returns-clause-premium_after : goal.returns-clause-premium_after
returns-clause-premium_after c =
    stored_back (λ y. y.premium) _ _ _ _ _ _ refl (omega (arith, c.told-curve)) c.back.ensures.0

pub returns-clause-outgo_after : goal.returns-clause-outgo_after
returns-clause-outgo_after c =
    stored_back (λ y. y.outgo) _ _ _ _ _ _ refl (omega (arith, c.told-curve)) c.back.ensures.1
