-- Where a projection ends: at the first year with nothing in force, after which nothing is added. Assumes nothing.
use mathlib.Core.Path.{◌≡◌, refl, sym, ◌∙◌}
use mathlib.Core.Logic.{⊎_elim}
use mathlib.Core.Bool.{Bool, true, false, cond}
use Prim.Native.Nat.{ℕ, zero, suc, ◌+◌, ◌-◌, ◌<◌, ◌≤◌}
use native.Mathlib.Nat.{eq-or-lt_of_le, zero-add, suc-add, zero-mul, zero-div}
use native.Mathlib.Numerals.{add-one}
use native.Mathlib.Omega.{arith}
use borrow.Author.Tests.{eq-eqb, ne_eqb, eqb-true, eqb-false}
use lib.Dec.{eqb}
use Rattle.valuation.specs.Arithmetic.{rounded}
use Rattle.valuation.specs.Steps.{Cell, in_force, cell_premium, cell_claims}
use Rattle.cell.specs.States.{premium_by, claims_by}
use Rattle.cell_projection.specs.Ends.{first_zero, years_in_force, Going}

-- n is the first year from k on and before m in which f is 0, or m where there is none
pub record IsFirst (f : ℕ → ℕ) (k m n : ℕ) : Type 0 where
  pub before : (j : ℕ) → k ≤ j → j < n → f j ≡ 0 → ⊥
  pub there : n < m → f n ≡ 0
  pub most : n ≤ m

module _ (f : ℕ → ℕ) where
  -- a year of the search
  pub first_here : (k left : ℕ) → 0 < left → f k ≡ 0 → first_zero f k left ≡ k
  unfolding first_zero
  first_here k zero h z = absurd (omega arith)
  first_here k (suc left) h z = rw (eq-eqb (f k) 0 z)

  pub first_on : (k left rest : ℕ) → left ≡ rest + 1 → (f k ≡ 0 → ⊥) → first_zero f k left ≡ first_zero f (k + 1) rest
  unfolding first_zero
  first_on k left rest e some = rw (e, add-one rest, ne_eqb (f k) 0 some)

  -- what the search finds
  first_found : (left k : ℕ) → IsFirst f k (k + left) (first_zero f k left)
  unfolding first_zero
  first_found zero k = record { before = λ j h l z. omega arith; there = λ h. absurd (omega arith); most = omega arith }
  first_found (suc left) k = by (eqb (f k) 0) refl (first_found left (k + 1))
    where
      by : (t : Bool) → eqb (f k) 0 ≡ t → IsFirst f (k + 1) (k + 1 + left) (first_zero f (k + 1) left)
          → IsFirst f k (k + suc left) (cond t k (first_zero f (k + 1) left))
      by true e r = record { before = λ j h l z. omega arith; there = λ h. eqb-true _ _ e; most = omega arith }
      by false e r =
          record {
            before =
                λ j h l z.
                ⊎_elim (λ (q : k ≡ j). eqb-false (f k) 0 e (rw q z)) (λ (g : k < j). r.before j (omega arith) l z)
                (eq-or-lt_of_le h);
            there = λ h. r.there (omega (arith, h));
            most = omega (arith, r.most);
          }

  pub found : (m : ℕ) → IsFirst f 0 m (first_zero f 0 m)
  found m = rw (zero-add m) at (first_found m 0)

module _ (c : Cell) where
  -- once nothing is in force, nothing is in any later year
  nothing_next : (k : ℕ) → in_force rounded c k ≡ 0 → in_force rounded c (suc k) ≡ 0
  unfolding in_force
  nothing_next k z = rw (z, zero-mul, zero-div, zero-mul, zero-div)

  nothing_after : (n m : ℕ) → in_force rounded c n ≡ 0 → in_force rounded c (m + n) ≡ 0
  nothing_after n zero z = rw (zero-add n) z
  nothing_after n (suc m) z = rw (suc-add m n) (nothing_next (m + n) (nothing_after n m z))

  pub nothing_later : (n : ℕ) → in_force rounded c n ≡ 0 → (j : ℕ) → n ≤ j → in_force rounded c j ≡ 0
  nothing_later n z j h =
      let e : (j - n) + n ≡ j = omega arith in
      rw e at (nothing_after n (j - n) z)

  -- the years of a projection end at the first with nothing in force, or are fifty
  pub first_year_lem : IsFirst (in_force rounded c) 0 50 (years_in_force c)
  unfolding years_in_force
  first_year_lem = found (in_force rounded c) 50

  -- the search in year 0, and in a year with something in force, in one with nothing, and after the last
  pub going_start : Going c 0
  unfolding years_in_force
  going_start = refl

  pub going_on : (k : ℕ) → k < 50 → (in_force rounded c k ≡ 0 → ⊥) → Going c k → Going c (k + 1)
  going_on k h some g = sym (first_on _ k (50 - k) _ (omega arith) some) ∙ g

  pub going_ends : (k : ℕ) → k < 50 → in_force rounded c k ≡ 0 → Going c k → k ≡ years_in_force c
  going_ends k h z g = sym (first_here _ k (50 - k) (omega arith) z) ∙ g

  pub going_out : (k : ℕ) → k ≡ 50 → Going c k → k ≡ years_in_force c
  unfolding first_zero
  going_out k e g = e ∙ (rw e at g)

  -- a cell with no contracts has none
  pub no_contracts : c.count ≡ 0 → years_in_force c ≡ 0
  unfolding years_in_force in_force
  no_contracts z = first_here (in_force rounded c) 0 50 (omega arith) (rw (z, zero-mul))

  -- nothing in force adds nothing
  pub no_premium : (k : ℕ) → in_force rounded c k ≡ 0 → premium_by c k ≡ 0
  unfolding premium_by cell_premium
  no_premium k z = rw (z, zero-mul, zero-div)

  pub no_claims : (k : ℕ) → in_force rounded c k ≡ 0 → claims_by c k ≡ 0
  unfolding claims_by cell_claims
  no_claims k z = rw (z, zero-mul, zero-div)

-- what holds of each of the five projections
pub each_five : (P : ℕ → Type 0) → P 0 → P 1 → P 2 → P 3 → P 4 → (s : ℕ) → s < 5 → P s
each_five P a b c d e zero l = a
each_five P a b c d e (suc zero) l = b
each_five P a b c d e (suc (suc zero)) l = c
each_five P a b c d e (suc (suc (suc zero))) l = d
each_five P a b c d e (suc (suc (suc (suc zero)))) l = e
each_five P a b c d e (suc (suc (suc (suc (suc n))))) l = absurd (omega arith)
