-- What holds of each number of a list that is filled from its first place on. Assumes nothing.
use mathlib.Core.Path.{◌≡◌}
use mathlib.Core.Logic.{⊎_elim}
use mathlib.Core.List.{List}
use Prim.Native.Nat.{ℕ, ◌+◌, ◌≤◌, ◌<◌}
use native.Mathlib.Nat.{eq-or-lt_of_le}
use native.Mathlib.Omega.{arith}
use lib.ListN.{length, get_or, set}
use lib.Seq.{get_or-set_same, get_or-set_other}

-- what holds of each number before k, and of the one stored there, holds of each before k + 1
pub stored : (P : ℕ → ℕ → Type 0) (table : List ℕ) (k x : ℕ) → k < length table
    → ((i : ℕ) → i < k → P i (get_or table i 0)) → P k x
    → (i : ℕ) → i < k + 1 → P i (get_or (set table k x) i 0)
stored P table k x l h p i lt =
    let le : i ≤ k = omega arith in
    ⊎_elim (λ (q : i ≡ k). rw (q, get_or-set_same table k x 0 l) p)
    (λ (g : i < k). rw (get_or-set_other table k i x 0 (λ q. omega arith)) (h i g)) (eq-or-lt_of_le le)
