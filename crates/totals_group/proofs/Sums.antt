-- Laws of the eight totals with one group more, and of years that settings share.
-- Assumes nothing.
use mathlib.Core.Path.{◌≡◌, refl, ◌∙◌}
use mathlib.Core.List.{List}
use Prim.Native.Nat.{ℕ, ◌+◌, ◌-◌, ◌<◌, ◌≤◌, ◌^◌}
use mathlib.Core.Logic.{⊎_elim}
use native.Mathlib.Nat.{eq-or-lt_of_le}
use native.Mathlib.Omega.{arith}
use lib.IntN.{ℤ, pos, ◌+ℤ◌, ◌-ℤ◌}
use lib.ListN.{length, get_or, set, length-set}
use lib.Seq.{get_or-set_same, get_or-set_other}
use lib.Signed.{mag}
use mir.Syntax.{w64}
use mir.Val.{to_z, of_z, hbits}
use borrow.Author.Tests.{le-ltb}
use Rattle.lists.specs.Sums.{sum_by, sum_below}
use Rattle.lists.proofs.Sums.{sum_same, sum_more, sum_split}
use Rattle.settings_decrements.specs.Decrements.{decrements_of}
use Rattle.settings_outgo.specs.Outgoings.{outgoings_of}
use Rattle.cash_flow.specs.declared.Amounts.{Amounts}
use Rattle.signed.proofs.Sizes.{signed_roundtrip, less_mag}
use Rattle.present_value.specs.Outcome.{year_outgo, year_premium}
use Rattle.present_value.proofs.Discounted.{liability_is}
use Rattle.present_value_span.specs.Spans.{AmountsIn}
use Rattle.valuation.specs.Steps.{outgo, counted_premium, discounted_outgo, discounted_premium}
use Rattle.valuation.specs.Portfolio.{terms_of}
use Rattle.valuation.specs.Replies.{group_liability}
use Rattle.totals_group.specs.Sums.{Sum, Sums}

no_years : (f : ℕ → ℕ) → sum_below f 0 ≡ 0
unfolding sum_by
no_years f = refl

-- the first five years and the later ones are all fifty
pub both_parts : (b : List ℕ) (s g : ℕ) (f l : Amounts) → AmountsIn b s g 0 5 f → AmountsIn b s g 5 50 l
    → pos (f.outgo + l.outgo) -ℤ pos (f.premium + l.premium) ≡ group_liability b s g
both_parts b s g f l hf hl =
    liability_is b s g 50 (f.outgo + l.outgo) (f.premium + l.premium) refl
    (omega (arith, no_years (year_outgo b s g), hf.outgo_is, hl.outgo_is))
    (omega (arith, no_years (year_premium b s g), hf.premium_is, hl.premium_is))

pub parts_most : (b : List ℕ) (s g : ℕ) (f l : Amounts) → AmountsIn b s g 0 5 f → AmountsIn b s g 5 50 l
    → mag (pos (f.outgo + l.outgo) -ℤ pos (f.premium + l.premium)) ≤ 495_000_000_000_000_000
parts_most b s g f l hf hl =
    less_mag (f.outgo + l.outgo) (f.premium + l.premium) 495_000_000_000_000_000
    (omega (arith, hf.outgo_most, hl.outgo_most)) (omega (arith, hf.premium_most, hl.premium_most))

-- what is the same from year 5 on adds the same from there
same_from : (f g : ℕ → ℕ) → ((k : ℕ) → 5 ≤ k → f k ≡ g k)
    → sum_below f 50 + sum_below g 5 ≡ sum_below g 50 + sum_below f 5
same_from f g h =
    omega (arith, sum_split f 5 45, sum_split g 5 45, sum_same 0 ◌+◌ _ _ 45 (λ j l. h (5 + j) (omega arith)))

-- settings with the same weights of mortality and lapse, and the same weights of costs and claims from year 5 on
module _ (b : List ℕ) (o s : ℕ) (same : decrements_of b o ≡ decrements_of b s)
    (weights : (outgoings_of o).later ≡ (outgoings_of s).later) (g : ℕ) where
  outgo_same : (k : ℕ) → 5 ≤ k → year_outgo b o g k ≡ year_outgo b s g k
  unfolding discounted_outgo outgo terms_of
  outgo_same k h = rw (le-ltb k 5 h, same, weights)

  premium_same : (k : ℕ) → 5 ≤ k → year_premium b o g k ≡ year_premium b s g k
  unfolding discounted_premium counted_premium outgo terms_of
  premium_same k h = rw (le-ltb k 5 h, same, weights)

  pub later_same : (l : Amounts) → AmountsIn b o g 5 50 l → AmountsIn b s g 5 50 l
  later_same l r = record {
    outgo_is = omega (arith, r.outgo_is, same_from (year_outgo b o g) (year_outgo b s g) outgo_same);
    premium_is = omega (arith, r.premium_is, same_from (year_premium b o g) (year_premium b s g) premium_same);
    outgo_most = r.outgo_most;
    premium_most = r.premium_most;
  }

-- z is a group's liability, and not too large
pub record Liability (b : List ℕ) (setting g : ℕ) (z : ℤ) : Type 0 where
  pub is : z ≡ group_liability b setting g
  pub most : mag z ≤ 495_000_000_000_000_000

pub liability_read : (b : List ℕ) (setting g : ℕ) (r : ℤ) → mag r < 2 ^ hbits w64 → (r ≡ group_liability b setting g)
    × (mag r ≤ 495_000_000_000_000_000)
    → Liability b setting g (to_z w64 (of_z w64 r))
liability_read b setting g r ok h = rw (signed_roundtrip r ok) (record { is = h.0; most = h.1 })

-- a sum, as it is read from the totals
pub sum_read : (b : List ℕ) (setting n : ℕ) (z : ℤ) → n ≤ 5 → Sum b setting n z
    → Sum b setting n (to_z w64 (of_z w64 z))
sum_read b setting n z h p = rw (signed_roundtrip z (omega (arith, p.most))) p

-- a sum with one group more, as it is stored
pub sum_stored : (b : List ℕ) (setting g : ℕ) (x y z : ℤ) → 1 ≤ g → mag z < 2 ^ hbits w64 → Sum b setting (g - 1) x
    → Liability b setting g y
    → (z ≡ x +ℤ y) × (mag z ≤ mag x + mag y + 1) → Sum b setting g (to_z w64 (of_z w64 z))
sum_stored b setting g x y z low ok p l h =
    let e : g - 1 + 1 ≡ g = omega arith in
    let one : 1 + (g - 1) ≡ g = omega arith in
    rw (signed_roundtrip z ok) (record {
      is = rw e at (sum_more _ _ _ (g - 1) x y z p.is (rw one l.is) h.0);
      most = omega (arith, h.1, p.most, l.most);
    })

-- so both can be added
pub sum_capacity : (b : List ℕ) (setting g : ℕ) (x y : ℤ) → 1 ≤ g → g ≤ 5 → Sum b setting (g - 1) x
    → Liability b setting g y → mag x + mag y < 9223372036854775807
sum_capacity b setting g x y low high p l = omega (arith, p.most, l.most)

-- the first j sums have the group, the others not yet
pub record Growing (b : List ℕ) (g j : ℕ) (totals : List ℤ) : Type 0 where
  pub size : length totals ≡ 8
  pub done : (i : ℕ) → i < j → Sum b i g (get_or totals i (pos 0))
  pub due : (i : ℕ) → j ≤ i → i < 8 → Sum b i (g - 1) (get_or totals i (pos 0))

pub growing_start : (b : List ℕ) (g : ℕ) (totals : List ℤ) → Sums b (g - 1) totals → Growing b g 0 totals
growing_start b g totals s = record { size = s.size; done = λ i h. absurd (omega arith); due = λ i l h. s.each i h }

pub growing_more : (b : List ℕ) (g j : ℕ) (totals : List ℤ) (z : ℤ) → j < 8 → Growing b g j totals → Sum b j g z
    → Growing b g (j + 1) (set totals j z)
growing_more b g j totals z few s h = record {
  size = length-set totals j z ∙ s.size;
  done = λ i l.
      let le : i ≤ j = omega arith in
      ⊎_elim (λ (q : i ≡ j). rw (q, get_or-set_same totals j z (pos 0) (omega (arith, s.size))) h)
      (λ (q : i < j). rw (get_or-set_other totals j i z (pos 0) (λ e. omega (arith, e))) (s.done i q))
      (eq-or-lt_of_le le);
  due = λ i l u. rw (get_or-set_other totals j i z (pos 0) (λ e. omega (arith, e))) (s.due i (omega arith) u);
}

pub growing_end : (b : List ℕ) (g j : ℕ) (totals : List ℤ) → 8 ≤ j → Growing b g j totals → Sums b g totals
growing_end b g j totals h s = record { size = s.size; each = λ i l. s.done i (omega arith) }
