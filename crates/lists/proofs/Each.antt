-- Laws of a list by what a function gives for each index: its length, its elements, when two are equal, and how it
-- is stored one by one from the start of another list. Assumes nothing.
use mathlib.Core.Path.{◌≡◌, refl, sym, ap, ◌∙◌}
use mathlib.Core.List.{List, [], ◌∷◌, ◌++◌, append_assoc}
use mathlib.Core.Logic.{⊎_elim}
use Prim.Native.Nat.{ℕ, zero, suc, ◌+◌, ◌<◌, ◌≤◌}
use native.Mathlib.Nat.{eq-or-lt_of_le, not-suc-le-zero}
use native.Mathlib.Numerals.{add-one}
use native.Mathlib.Omega.{arith}
use lib.ListN.{length, get_or, set, take, drop, length-append, length-drop, get_or-append}
use lib.Seq.{get_or-append-add, take-suc-set, take_all, set_at, drop-cons}
use Rattle.lists.specs.Each.{each}

-- what f gives, one by one
pub each_length : {A : Type 0} (f : ℕ → A) (n : ℕ) → length (each f n) ≡ n
unfolding each
each_length f zero = refl
each_length f (suc n) = omega (arith, length-append (each f n) (f n ∷ []), each_length f n)

pub each_at : {A : Type 0} (f : ℕ → A) (d : A) (n j : ℕ) → j < n → get_or (each f n) j d ≡ f j
unfolding each
each_at f d zero j h = absurd (not-suc-le-zero h)
each_at f d (suc n) j h =
    ⊎_elim
    (λ (e : j ≡ n).
    let w : j ≡ length (each f n) + 0 = omega (arith, each_length f n) in
    ap (λ (q : ℕ). get_or (each f n ++ f n ∷ []) q d) w ∙ get_or-append-add (each f n) (f n ∷ []) 0 d ∙ ap f (sym e))
    (λ (g : j < n). get_or-append (each f n) (f n ∷ []) d j (omega (arith, each_length f n)) ∙ each_at f d n j g)
    (eq-or-lt_of_le (omega arith))

-- two functions that agree on these indexes
pub each_same : {A : Type 0} (f g : ℕ → A) (n : ℕ) → ((j : ℕ) → j < n → f j ≡ g j) → each f n ≡ each g n
unfolding each
each_same f g zero h = refl
each_same f g (suc n) h = rw (each_same f g n (λ j l. h j (omega arith)), h n (omega arith))

-- runs of numbers: stored one by one from the start of a list
module _ {A : Type 0} (f : ℕ → A) where
  pub each_set : (l : List A) (j : ℕ) (a : A) → j < length l → a ≡ f j → take j l ≡ each f j
      → take (j + 1) (set l j a) ≡ each f (j + 1)
  unfolding each
  each_set l j a h is so = rw (add-one j, take-suc-set l j a h, so, is)

  pub each_done : (l : List A) (n : ℕ) → length l ≡ n → take n l ≡ each f n → l ≡ each f n
  each_done l n e so = sym (take_all n l (omega arith)) ∙ so

-- stored so, with what stands behind them: the length stays, and one more is stored
module _ (f : ℕ → ℕ) where
  pub each_behind_length : (j : ℕ) (t u : List ℕ) → j ≤ length t → u ≡ each f j ++ drop j t → length u ≡ length t
  each_behind_length j t u fits e =
      rw e (omega (arith, length-append (each f j) (drop j t), each_length f j, length-drop j t))

  pub each_behind_more : (j : ℕ) (t u v : List ℕ) (x : ℕ) → j < length t → u ≡ each f j ++ drop j t → v ≡ set u j x
      → x ≡ f j → v ≡ each f (j + 1) ++ drop (j + 1) t
  unfolding each
  each_behind_more j t u v x capacity eu ev ex =
      ev
      ∙ rw (eu, drop-cons t j 0, add-one j, ex)
      (set_at (each f j) (get_or t j 0) (drop (suc j) t) (f j) j (each_length f j)
      ∙ sym (append_assoc (each f j) (f j ∷ []) (drop (suc j) t)))
