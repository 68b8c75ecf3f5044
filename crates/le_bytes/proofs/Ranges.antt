-- Laws of ranges: what acceptance says of a field, what makes it accepted, and what a raised number says in two's
-- complement. Assumes nothing.
use mathlib.Core.Path.{◌≡◌, refl}
use mathlib.Core.List.{List}
use mathlib.Core.Logic.{◌⊎◌, inl, inr, ⊎_elim}
use mathlib.Core.Bool.{Bool, true, false, cond}
use Prim.Native.Nat.{ℕ, zero, suc, ◌+◌, ◌*◌, ◌%◌, ◌<◌, ◌≤◌, zero-le}
use native.Mathlib.Omega.{arith}
use borrow.Author.Tests.{leb-true, leb-false, le-leb}
use lib.Dec.{leb}
use Rattle.le_bytes.specs.Bytes.{read_u32}
use Rattle.le_bytes.specs.Fields.{within, raised, check_field, check_fields}
use Rattle.std.specs.Prelude.{Ok}
use Rattle.verdict.proofs.Verdicts.{need_true, need_good, all_each, all_zero}

within_parts : (t u : Bool) → cond t u false ≡ true → (t ≡ true) × (u ≡ true)
within_parts true u e = (refl, e)
within_parts false u e = (e, (cc))

pub within_means : (low high x : ℕ) → within low high x ≡ true → (low ≤ x) × (x ≤ high)
unfolding within
within_means low high x e =
    let h = within_parts (leb low x) (leb x high) e in (leb-true _ _ h.0, leb-true _ _ h.1)

pub within_good : (low high x : ℕ) → low ≤ x → x ≤ high → within low high x ≡ true
unfolding within
within_good low high x lo hi = rw (le-leb _ _ lo, le-leb _ _ hi)

-- what the code computes is `raised`
pub raised_is : (lift u : ℕ) → u < 4294967296 → (u + lift) % 4294967296 ≡ raised lift u
raised_is zero u h = omega arith
raised_is (suc lift) u h = refl

module _ (b : List ℕ) (number lift span : ℕ) where
  pub field_bound : (at n : ℕ) → check_field b number lift span at ≡ Ok n → raised lift (read_u32 b at) ≤ span
  unfolding check_field
  field_bound at n e = leb-true _ _ (need_true _ _ _ _ e)

  pub field_good : (at : ℕ) → raised lift (read_u32 b at) ≤ span → check_field b number lift span at ≡ Ok 0
  unfolding check_field
  field_good at h = need_good _ _ _ (le-leb _ _ h)

  pub fields_bound : (at count n j : ℕ) → check_fields b number lift span at count ≡ Ok n → j < count
      → raised lift (read_u32 b (at + 4 * j)) ≤ span
  unfolding check_fields
  fields_bound at count n j e h =
      field_bound (at + 4 * j) _
      (all_each (λ (i : ℕ). check_field b number lift span (at + 4 * i)) count 0 n j e zero-le (omega arith))

  pub fields_good : (at count : ℕ) → ((j : ℕ) → j < count → raised lift (read_u32 b (at + 4 * j)) ≤ span)
      → check_fields b number lift span at count ≡ Ok 0
  unfolding check_fields
  fields_good at count each = all_zero _ count 0 (λ j lo hi. field_good (at + 4 * j) (each j (omega arith)))

-- In two's complement a number u of 32 bits stands for u itself, or for u less 2 ^ 32 where that is below zero.
-- So a raised number is in its range exactly where it stands for a number from -lift to high.
raised_cases : (lift high u : ℕ) (t : Bool) → leb u high ≡ t → u < 4294967296 → lift + high < 2147483648
    → (u + lift) % 4294967296 ≤ lift + high
    → (u ≤ high) ⊎ (4294967296 ≤ u + lift)
raised_cases lift high u true e h fits le = inl (leb-true _ _ e)
raised_cases lift high u false e h fits le = inr (omega (arith, leb-false u high e))

pub signed_range : (lift high u : ℕ) → u < 4294967296 → lift + high < 2147483648 → raised lift u ≤ lift + high
    → (u ≤ high) ⊎ (4294967296 ≤ u + lift)
signed_range zero high u h fits le = inl (omega arith)
signed_range (suc lift) high u h fits le = raised_cases (suc lift) high u (leb u high) refl h fits le

pub signed_good : (lift high u : ℕ) → u < 4294967296 → lift + high < 2147483648 → (u ≤ high) ⊎ (4294967296 ≤ u + lift)
    → raised lift u ≤ lift + high
signed_good zero high u h fits s =
    ⊎_elim (λ (l : u ≤ high). omega arith) (λ (g : 4294967296 ≤ u + zero). absurd (omega arith)) s
signed_good (suc lift) high u h fits s =
    ⊎_elim (λ (l : u ≤ high). omega arith) (λ (g : 4294967296 ≤ u + suc lift). omega arith) s
