-- Laws of a test that holds for every number below n: one more, one that fails, each of them; and of a test of a list's
-- items, which is one of each index. Assumes nothing.
use mathlib.Core.Path.{◌≡◌, refl, ap, ◌∙◌}
use mathlib.Core.Bool.{Bool, true, false, ◌&&◌}
use mathlib.Core.Logic.{⊎_elim}
use mathlib.Core.List.{List, [], ◌∷◌, map}
use Prim.Native.Nat.{ℕ, zero, suc, ◌+◌, ◌≤◌, ◌<◌}
use native.Mathlib.Nat.{le_of_suc-le-suc, eq-or-lt_of_le, not-suc-le-zero}
use native.Mathlib.Numerals.{add-one}
use native.Mathlib.Omega.{arith}
use lib.ListN.{length, take, get_or}
use Rattle.std.specs.List.{list_all, range_with_len}
use Rattle.std.proofs.Math.Bool.{and-true}
use Rattle.std.proofs.lemmas.List.{take_all}
use Rattle.std.proofs.lemmas.List.Folds.{list_all_more, list_all-append, list_all-map}
use Rattle.std.proofs.lemmas.List.FromFn.{map-range_with_len_more}
use Rattle.conditions.specs.Every.{every}
use Rattle.conditions.proofs.Joined.{and_left, and_right, and_false}

module _ (test : ℕ → Bool) where
  -- one test more, as a number and by its outcome
  pub every_more : (k : ℕ) → every test k ≡ true → test k ≡ true → every test (k + 1) ≡ true
  unfolding every
  every_more k e h = rw (add-one k, e, h)

  pub every_and : (n : ℕ) (x y : Bool) → x ≡ every test n → y ≡ test n → (x && y) ≡ every test (n + 1)
  unfolding every
  every_and n x y ex ey = rw (ex, ey, add-one n)

  pub every_fails : (k n : ℕ) → test k ≡ false → k < n → every test n ≡ false
  unfolding every
  every_fails k zero h l = absurd (not-suc-le-zero l)
  every_fails k (suc n) h l =
      ⊎_elim
      (λ (eq : k ≡ n). and_false (every test n) (test n) (rw (← eq) h))
      (λ (lt : k < n). rw (every_fails k n h lt))
      (eq-or-lt_of_le (le_of_suc-le-suc l))

  pub every_holds : (n k : ℕ) → every test n ≡ true → k < n → test k ≡ true
  unfolding every
  every_holds zero k e l = absurd (not-suc-le-zero l)
  every_holds (suc n) k e l =
      ⊎_elim
      (λ (eq : k ≡ n). rw eq (and_right (every test n) (test n) e))
      (λ (lt : k < n). every_holds n k (and_left (every test n) (test n) e) lt)
      (eq-or-lt_of_le (le_of_suc-le-suc l))

  pub every_good : (n : ℕ) → ((i : ℕ) → i < n → test i ≡ true) → every test n ≡ true
  unfolding every
  every_good zero each = refl
  every_good (suc n) each = rw (every_good n (λ i h. each i (omega arith)), each n (omega arith))

-- the first n items pass, where a test of a number reads the item at it
all_first : {A : Type 0} (test : A → Bool) (xs : List A) (d : A) (n : ℕ) → n ≤ length xs
    → list_all test (take n xs) ≡ every (λ (k : ℕ). test (get_or xs k d)) n
unfolding every
all_first test xs d zero h = refl
all_first test xs d (suc n) h =
    rw (← (add-one n), list_all_more test xs n d (omega arith), all_first test xs d n (omega arith))

-- and all n of them
pub all_every : {A : Type 0} (test : A → Bool) (xs : List A) (d : A) (n : ℕ) → length xs ≡ n
    → list_all test xs ≡ every (λ (k : ℕ). test (get_or xs k d)) n
all_every test xs d n e = rw (take_all n xs (omega (arith, e))) at (all_first test xs d n (omega (arith, e)))

-- the numbers of a range
outcomes_every : (test : ℕ → Bool) (n : ℕ) → list_all (λ (t : Bool). t) (map test (range_with_len 0 n)) ≡ every test n
unfolding every
outcomes_every test zero = refl
outcomes_every test (suc n) =
    ap (list_all (λ (t : Bool). t)) (rw (add-one n) at (map-range_with_len_more test 0 n n (omega arith)))
    ∙ list_all-append (λ (t : Bool). t) (map test (range_with_len 0 n)) (test n ∷ [])
    ∙ rw (outcomes_every test n, and-true (test n))

pub range_every : (test : ℕ → Bool) (n : ℕ) → list_all test (range_with_len 0 n) ≡ every test n
range_every test n = rw (list_all-map (λ (t : Bool). t) test (range_with_len 0 n)) at (outcomes_every test n)
