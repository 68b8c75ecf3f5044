-- The whole root is one number, and it is that of the definition. Assumes nothing.
use mathlib.Core.Path.{◌≡◌, refl}
use mathlib.Core.Bool.{Bool, true, false, cond}
use Prim.Native.Nat.{ℕ, zero, suc, ◌+◌, ◌*◌, ◌≤◌, ◌<◌}
use native.Mathlib.Omega.{arith}
use native.Mathlib.Numerals.{add-one}
use native.Mathlib.Nat.{mul-le-mul, le_refl, le_antisymm, lt_irrefl, lt_of_lt_of_le, le_trans}
use borrow.Author.Tests.{leb-true, leb-false}
use lib.Dec.{leb}
use Rattle.risk_form.specs.Root.{root_up_to, root_of, IntegerSquareRoot}

root_below : (q r s : ℕ) → IntegerSquareRoot q r → IntegerSquareRoot q s → r ≤ s
root_below q r s hr hs = by (leb r s) (leb-true r s) (leb-false r s)
  where
    clash : s < r → q < q
    clash l = lt_of_lt_of_le hs.next_above (le_trans (mul-le-mul (omega arith) (omega arith)) hr.at_most)

    by : (t : Bool) → (t ≡ true → r ≤ s) → (t ≡ false → s < r) → r ≤ s
    by true a b = a refl
    by false a b = absurd (lt_irrefl q (clash (b refl)))

up_to_root : (n q : ℕ) → q < (n + 1) * (n + 1) → IntegerSquareRoot q (root_up_to n q)
unfolding root_up_to
up_to_root zero q h = record { at_most = omega arith; next_above = h }
up_to_root (suc n) q h =
    by (leb (suc n * suc n) q) (leb-true (suc n * suc n) q)
    (λ e. up_to_root n q (rw add-one (leb-false (suc n * suc n) q e)))
  where
    by : (t : Bool) → (t ≡ true → suc n * suc n ≤ q) → (t ≡ false → IntegerSquareRoot q (root_up_to n q))
        → IntegerSquareRoot q (cond t (suc n) (root_up_to n q))
    by true a b = record { at_most = a refl; next_above = h }
    by false a b = b refl

above : (q : ℕ) → q < (q + 1) * (q + 1)
above q = omega (arith, mul-le-mul {n₁ = 1} {m₁ = q + 1} {n₂ = q + 1} {m₂ = q + 1} (omega arith) (le_refl (q + 1)))

pub root_whole : (q : ℕ) → IntegerSquareRoot q (root_of q)
unfolding root_of
root_whole q = up_to_root q q (above q)

pub root_is : (q r : ℕ) → IntegerSquareRoot q r → r ≡ root_of q
root_is q r h = let s = root_whole q in le_antisymm (root_below q r (root_of q) h s) (root_below q (root_of q) r s h)
