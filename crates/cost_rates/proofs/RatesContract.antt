-- The call's promises follow from the equation alone, by what its three tests say. Assumes nothing.
use mathlib.Core.Path.{◌≡◌, refl, ap}
use mathlib.Core.Bool.{Bool, true, false}
use mathlib.Core.List.{[], ◌∷◌}
use Prim.Native.Nat.{◌<◌}
use native.Mathlib.Omega.{arith}
use Rattle.lists.specs.AtMost.{AtMost}
use Rattle.lists.proofs.AtMost.{most_higher, most_replicate}
use Rattle.cost_rate_shares.specs.declared.Accounts.{Accounts}
use Rattle.cost_rate_shares.specs.Rates.{rates_of}
use Rattle.cost_rate_shares.specs.Usable.{Usable}
use Rattle.cost_rates.specs.declared.CostRates.{CostRates}
use Rattle.cost_rate_limits.specs.Limits.{all_at_most, within_limits}
use Rattle.cost_rate_divisors.specs.Divisors.{can_compute}
use Rattle.cost_rates.specs.Refusals.{highest_rate}
use Rattle.cost_rates.specs.Replies.{cost_rates, RatesContract}
use Rattle.cost_rate_limits.proofs.Bounded.{each_at_most, bounded}
use Rattle.cost_rate_divisors.proofs.Usable.{usable}
use Rattle.cost_rates.proofs.Shares.{split_whole}
use Rattle.cost_rates.proofs.Replied.{replied_17, replied_18, replied_19, replied_rates}

-- a reply with a number is no acceptance
numbered : (r s : CostRates) → r ≡ s → 0 < s.refusal → r.refusal ≡ 0 → ⊥
numbered r s e h z = omega (arith, ap (λ (x : CostRates). x.refusal) e)

none : AtMost highest_rate 5 (0 ∷ 0 ∷ 0 ∷ 0 ∷ 0 ∷ [])
none = most_higher (most_replicate 5 0) (omega arith)

module _ (a : Accounts) where
  -- a reply without a refusal is that of usable accounts
  reply_usable : (t s : Bool) → within_limits a ≡ t → can_compute a ≡ s → (cost_rates a).refusal ≡ 0 → Usable a
  reply_usable false s limits sums z = absurd (numbered _ _ (replied_17 a limits) (omega arith) z)
  reply_usable true false limits sums z = absurd (numbered _ _ (replied_18 a limits sums) (omega arith) z)
  reply_usable true true limits sums z = usable a (bounded a limits) sums

  at_most : (t s r : Bool) → within_limits a ≡ t → can_compute a ≡ s → all_at_most highest_rate (rates_of a) 5 ≡ r
      → AtMost highest_rate 5 (cost_rates a).rates
  at_most false s r limits sums rates = rw (replied_17 a limits) none
  at_most true false r limits sums rates = rw (replied_18 a limits sums) none
  at_most true true false limits sums rates = rw (replied_19 a limits sums rates) none
  at_most true true true limits sums rates = rw (replied_rates a limits sums rates) (each_at_most _ _ _ rates)

  pub rates_promised : (reply : CostRates) → reply ≡ cost_rates a → RatesContract a reply
  rates_promised reply e =
      record {
        reply_is = e;
        by_stock = λ year h z. split_whole _ _ year ((reply_usable _ _ refl refl (rw e at z)).some_stock year h);
        by_claims = λ year h z. split_whole _ _ year ((reply_usable _ _ refl refl (rw e at z)).some_claims year h);
        limit = rw e (at_most _ _ _ refl refl refl);
      }
