-- Laws of a test over numbers, of a list given by its elements, and of the places of linked classes. Assumes nothing.
use mathlib.Core.Path.{◌≡◌, refl}
use mathlib.Core.List.{List}
use mathlib.Core.Logic.{⊎_elim}
use mathlib.Core.Bool.{Bool, true, false, cond}
use Prim.Native.Nat.{ℕ, zero, suc, ◌+◌, ◌<◌}
use native.Mathlib.Nat.{pos_of_ne-zero, eq-or-lt_of_le}
use native.Mathlib.Omega.{arith}
use borrow.Author.Tests.{eq-eqb, ne_eqb, eqb-true, eqb-false}
use lib.Dec.{eqb}
use Rattle.book.specs.Layout.{last_class, chains, record_at, link_at}
use Rattle.age_basis_definitions.specs.Conversion.{some_below, class_at, chain_class_at, linked_class_at}
use Rattle.age_basis_definitions.specs.Conversion.{NoLinkedClass}

pub never : false ≡ true → ⊥
never e = let z : ◌≡◌ {A = ℕ} 0 1 = cc in omega arith

-- a test over the numbers below n
pub some_good : (f : ℕ → Bool) (n j : ℕ) → j < n → f j ≡ true → some_below f n ≡ true
unfolding some_below
some_good f zero j h e = absurd (omega arith)
some_good f (suc n) j h e =
    ⊎_elim
    (λ (same : j ≡ n). let last : f n ≡ true = rw same at e in rw last)
    (λ (less : j < n). rw (some_good f n j less e) (either (f n)))
    (eq-or-lt_of_le (omega arith))
  where
    either : (t : Bool) → cond t true true ≡ true
    either true = refl
    either false = refl

-- a number of which it holds
pub record Found (f : ℕ → Bool) (n : ℕ) : Type 0 where
  pub at : ℕ
  pub below : at < n
  pub holds : f at ≡ true

pub some_found : (f : ℕ → Bool) (n : ℕ) → some_below f n ≡ true → Found f n
unfolding some_below
some_found f zero e = absurd (never e)
some_found f (suc n) e = by_last (f n) refl e (λ g. some_found f n g)
  where
    by_last : (t : Bool) → f n ≡ t → cond t true (some_below f n) ≡ true
        → (some_below f n ≡ true → Found f n) → Found f (suc n)
    by_last true g e rest = record { at = n; below = omega arith; holds = g }
    by_last false g e rest = let r = rest e in record { at = r.at; below = omega (arith, r.below); holds = r.holds }

pub some_none : (f : ℕ → Bool) (n : ℕ) → ((j : ℕ) → j < n → f j ≡ false) → some_below f n ≡ false
unfolding some_below
some_none f zero each = refl
some_none f (suc n) each = rw (each n (omega arith)) (some_none f n (λ j h. each j (omega arith)))

pub some_more : (f : ℕ → Bool) (j more : ℕ) → ((d : ℕ) → f (j + d) ≡ false) → some_below f (j + more) ≡ some_below f j
unfolding some_below
some_more f j zero none = let e : j + 0 ≡ j = omega arith in rw e
some_more f j (suc more) none =
    let e : j + suc more ≡ suc (j + more) = omega arith in
    rw (e, none more) (some_more f j more none)

-- where a class stands
pub class_here : (p i : ℕ) → 0 < i → p ≡ record_at i + 2 → class_at p i ≡ true
class_here p i some e = rw (ne_eqb i 0 (λ z. absurd (omega arith)), eq-eqb _ _ e)

pub class_found : (p i : ℕ) → class_at p i ≡ true → (0 < i) × (p ≡ record_at i + 2)
class_found p i h = by_number (eqb i 0) refl h
  where
    by_number : (t : Bool) → eqb i 0 ≡ t → cond t false (eqb p (record_at i + 2)) ≡ true → (0 < i) ×
        (p ≡ record_at i + 2)
    by_number true e h = absurd (never h)
    by_number false e h = (pos_of_ne-zero (eqb-false _ _ e), eqb-true _ _ h)

pub class_elsewhere : (p i : ℕ) → (0 < i → p ≡ record_at i + 2 → ⊥) → class_at p i ≡ false
class_elsewhere p i other = by_number (eqb i 0) refl
  where
    by_number : (t : Bool) → eqb i 0 ≡ t → cond t false (eqb p (record_at i + 2)) ≡ false
    by_number true e = refl
    by_number false e = ne_eqb _ _ (other (pos_of_ne-zero (eqb-false _ _ e)))

module _ (b : List ℕ) (p : ℕ) where
  pub linked_here : (k j : ℕ) → k < chains → j < last_class 2 + 1 → 0 < link_at b k j
      → p ≡ record_at (link_at b k j) + 2 → linked_class_at b p ≡ true
  unfolding linked_class_at chain_class_at
  linked_here k j few h some e =
      rw (some_good (chain_class_at b p) chains k few (some_good _ _ j (omega (arith, h)) (class_here p _ some e)))

  pub linked_elsewhere : NoLinkedClass b p → linked_class_at b p ≡ false
  unfolding linked_class_at chain_class_at
  linked_elsewhere other =
      rw (some_none (chain_class_at b p) chains (λ k few. some_none _ _ (λ j h. class_elsewhere p _ (other k j few))))
