-- Laws of a list none of whose first numbers is above a limit: another limit, fewer numbers, what is stored, the same
-- number throughout. Assumes nothing.
use mathlib.Core.Path.{◌≡◌, refl, ap}
use mathlib.Core.List.{List, [], ◌∷◌}
use Prim.Native.Nat.{ℕ, zero, suc, ◌<◌, ◌≤◌}
use native.Mathlib.Nat.{le_trans}
use native.Mathlib.Omega.{arith}
use lib.ListN.{get_or, set, replicate}
use Rattle.lists.specs.AtMost.{AtMost}

module _ {m n : ℕ} {xs : List ℕ} (h : AtMost m n xs) where
  -- a limit that is no lower
  pub most_higher : {limit : ℕ} → m ≤ limit → AtMost limit n xs
  most_higher up = record { each = λ k l. le_trans (h.each k l) up }

  -- fewer numbers
  pub most_fewer : {few : ℕ} → few ≤ n → AtMost m few xs
  most_fewer less = record { each = λ k l. h.each k (le_trans l less) }

-- a number that is stored keeps the limit
set_le : (xs : List ℕ) (j x k m : ℕ) → get_or xs k 0 ≤ m → (k ≡ j → x ≤ m) → get_or (set xs j x) k 0 ≤ m
set_le [] j x k m h small = h
set_le (y ∷ xs) zero x zero m h small = small refl
set_le (y ∷ xs) zero x (suc k) m h small = h
set_le (y ∷ xs) (suc j) x zero m h small = h
set_le (y ∷ xs) (suc j) x (suc k) m h small = set_le xs j x k m h (λ e. small (ap suc e))

pub most_set : {m n : ℕ} {xs : List ℕ} {j x : ℕ} → AtMost m n xs → (j < n → x ≤ m) → AtMost m n (set xs j x)
most_set {m} {n} {xs} {j} {x} h small =
    record { each = λ k l. set_le xs j x k m (h.each k l) (λ e. small (rw e at l)) }

-- one number throughout
pub most_replicate : {n : ℕ} (count x : ℕ) → AtMost x n (replicate count x)
most_replicate count x = record { each = λ k l. at count k }
  where
    at : (count k : ℕ) → get_or (replicate count x) k 0 ≤ x
    at zero k = omega arith
    at (suc count) zero = omega arith
    at (suc count) (suc k) = at count k
