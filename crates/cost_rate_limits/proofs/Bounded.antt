-- What accounts are that passed 17. Assumes nothing.
use mathlib.Core.Path.{◌≡◌}
use mathlib.Core.Bool.{true, ◌&&◌}
use mathlib.Core.List.{List}
use Prim.Native.Nat.{ℕ}
use native.Mathlib.Omega.{arith}
use lib.Dec.{leb}
use lib.ListN.{get_or}
use borrow.Author.Tests.{leb-true}
use Rattle.lists.specs.AtMost.{AtMost}
use Rattle.lists.proofs.AtMost.{most_higher}
use Rattle.conditions.proofs.Joined.{and_left, and_right}
use Rattle.conditions.proofs.Every.{every_holds}
use Rattle.cost_rate_shares.specs.declared.Accounts.{Accounts}
use Rattle.cost_rate_shares.specs.Usable.{Bounded}
use Rattle.cost_rate_limits.specs.Limits.{highest_amount, highest_stock, all_at_most, within_limits}

pub each_at_most : (limit : ℕ) (figures : List ℕ) (n : ℕ) → all_at_most limit figures n ≡ true → AtMost limit n figures
unfolding all_at_most
each_at_most limit figures n e =
    record { each = λ k h. leb-true _ _ (every_holds (λ (place : ℕ). leb (get_or figures place 0) limit) n k e h) }

-- 17 passed
pub bounded : (a : Accounts) → within_limits a ≡ true → Bounded a
unfolding within_limits
bounded a e =
    let expenses = all_at_most highest_amount a.expenses 3 in
    let stock = all_at_most highest_stock a.stock 15 in
    let claims = all_at_most highest_amount a.claims 15 in
    let premium = all_at_most highest_amount a.premium 15 in
    let three = and_left (expenses && stock && claims) premium e in
    let two = and_left (expenses && stock) claims three in
    record {
      expenses = each_at_most _ _ _ (and_left expenses stock two);
      stock = most_higher (each_at_most _ _ _ (and_right expenses stock two)) (omega arith);
      claims = each_at_most _ _ _ (and_right (expenses && stock) claims three);
      premium = each_at_most _ _ _ (and_right (expenses && stock && claims) premium e);
    }
