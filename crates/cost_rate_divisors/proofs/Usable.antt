-- What accounts are that passed 18, after 17. Assumes nothing.
use mathlib.Core.Path.{◌≡◌}
use mathlib.Core.Bool.{Bool, true, false, ◌&&◌}
use mathlib.Core.List.{List}
use Prim.Native.Nat.{ℕ, ◌<◌}
use lib.Dec.{ltb}
use borrow.Author.Tests.{ltb-true}
use Rattle.conditions.specs.Every.{every}
use Rattle.conditions.proofs.Joined.{and_left, and_right, or_other}
use Rattle.conditions.proofs.Every.{every_holds}
use Rattle.cost_rate_shares.specs.declared.Accounts.{Accounts}
use Rattle.cost_rate_shares.specs.Rates.{figure, year_sum, is_empty}
use Rattle.cost_rate_shares.specs.Usable.{Bounded, Usable}
use Rattle.cost_rate_divisors.specs.Divisors.{can_split, is_paid, can_compute}

some_in : (split : List ℕ) → can_split split ≡ true → (year : ℕ) → year < 3 → 0 < year_sum split year
unfolding can_split
some_in split e year h = ltb-true _ _ (every_holds (λ (year : ℕ). ltb 0 (year_sum split year)) 3 year e h)

-- a group that is paid and not empty has premium in every year
premium_paid : (a : Accounts) (group year : ℕ) → is_paid a group ≡ true → is_empty a group ≡ false → year < 3
    → 0 < figure a.premium year group
unfolding is_paid
premium_paid a group year p e h =
    let test : ℕ → Bool = λ year. ltb 0 (figure a.premium year group) in
    ltb-true _ _ (every_holds test 3 year (or_other (is_empty a group) _ p e) h)

-- 18 passed
pub usable : (a : Accounts) → Bounded a → can_compute a ≡ true → Usable a
unfolding can_compute
usable a b e =
    let stock = can_split a.stock in
    let claims = can_split a.claims in
    let paid = every (is_paid a) 5 in
    let both = and_left (stock && claims) paid e in
    record {
      bounded = b;
      some_stock = some_in _ (and_left stock claims both);
      some_claims = some_in _ (and_right stock claims both);
      paid =
          λ group year g y none.
          premium_paid a group year (every_holds (is_paid a) 5 group (and_right (stock && claims) paid e) g) none y;
    }
