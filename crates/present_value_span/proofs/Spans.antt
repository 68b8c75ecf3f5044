-- Laws of years without an amount. Assumes nothing.
use mathlib.Core.Path.{◌≡◌, refl, sym, ◌∙◌}
use mathlib.Core.Logic.{⊎_elim}
use mathlib.Core.List.{List}
use Prim.Native.Nat.{ℕ, zero, suc, ◌+◌, ◌-◌, ◌≤◌, ◌<◌}
use native.Mathlib.Nat.{eq-or-lt_of_le, zero-mul, zero-div}
use native.Mathlib.Omega.{arith}
use lib.ListN.{get_or}
use Rattle.lists.specs.Sums.{sum_below}
use Rattle.lists.proofs.AtMost.{most_fewer}
use Rattle.lists.proofs.Sums.{sum_rest}
use Rattle.valuation.specs.Arithmetic.{rounded}
use Rattle.valuation.specs.Steps.{discounted}
use Rattle.cash_flow.specs.CashFlow.{InYears}
use Rattle.present_value_span.specs.Spans.{NoneFrom}

-- nothing, discounted, is nothing
discounted_none : (d j : ℕ) → discounted rounded d j 0 ≡ 0
unfolding discounted
discounted_none d zero = refl
discounted_none d (suc j) = rw (discounted_none d j, zero-mul, zero-div)

-- years that give nothing add nothing: the years up to the last with an amount give what all do
pub sum_to_end : (D : ℕ → ℕ) (f g : ℕ → ℕ) (m from end to : ℕ) (table : List ℕ)
    → ((k : ℕ) → g k ≡ discounted rounded (D k) k (f k))
    → InYears f m from to table → from ≤ end → end ≤ to → ((k : ℕ) → end ≤ k → k < to → get_or table k 0 ≡ 0)
    → sum_below g end ≡ sum_below g to
sum_to_end D f g m from end to table e y least most none =
    let there : end + (to - end) ≡ to = omega arith in
    sym (rw there at (sum_rest g end (to - end) (λ k l u.
    let z : f k ≡ 0 = sym (y.are k (omega arith) (omega arith)) ∙ none k l (omega arith) in
    e k ∙ rw z (discounted_none (D k) k))))

-- fewer years
pub in_fewer : (f : ℕ → ℕ) (m from end to : ℕ) (table : List ℕ) → end ≤ to → InYears f m from to table
    → InYears f m from end table
in_fewer f m from end to table l y =
    record { are = λ k h. y.are k (omega arith); most = most_fewer y.most l }

-- no year looked at yet, and one more without an amount
pub none_at_all : (premium outgo : List ℕ) (from to : ℕ) → from ≤ to → NoneFrom premium outgo from to to
none_at_all premium outgo from to l =
    record {
      least = l;
      most = omega arith;
      no_premium = λ k h u. absurd (omega arith);
      no_outgo = λ k h u. absurd
          (omega arith);
    }

none_before : (table : List ℕ) (end to : ℕ) → get_or table (end - 1) 0 ≡ 0
    → ((k : ℕ) → end ≤ k → k < to → get_or table k 0 ≡ 0)
    → (k : ℕ) → end - 1 ≤ k → k < to → get_or table k 0 ≡ 0
none_before table end to z h k l u =
    ⊎_elim (λ (q : end - 1 ≡ k). rw q at z) (λ (g : end - 1 < k). h k (omega arith) u) (eq-or-lt_of_le l)

pub none_sooner : (premium outgo : List ℕ) (from to end : ℕ) → NoneFrom premium outgo from to end → from < end
    → get_or premium (end - 1) 0 ≡ 0
    → get_or outgo (end - 1) 0 ≡ 0 → NoneFrom premium outgo from to (end - 1)
none_sooner premium outgo from to end h l p o = record {
  least = omega arith;
  most = omega (arith, h.most);
  no_premium = none_before premium end to p h.no_premium;
  no_outgo = none_before outgo end to o h.no_outgo;
}
