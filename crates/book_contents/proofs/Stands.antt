-- A text that stands in a list from a place on: its parts stand there, and what is made of parts does. Assumes nothing.
use mathlib.Core.Path.{◌≡◌, refl, sym, ap, subst, ◌∙◌}
use mathlib.Core.Logic.{⊎_elim}
use mathlib.Core.List.{List, ◌++◌}
use Prim.Native.Nat.{ℕ, zero, suc, ◌+◌, ◌-◌, ◌*◌, ◌<◌, ◌≤◌}
use native.Mathlib.Nat.{zero-add, eq-or-lt_of_le, not-suc-le-zero}
use native.Mathlib.Omega.{arith}
use lib.ListN.{length, get_or, length-append, get_or-append, get_or-eq_default}
use lib.Seq.{get_or-append-add, ext_get_or}
use Rattle.buffer.specs.Text.{joined}
use Rattle.buffer.proofs.Digits.{le_or_lt}
use Rattle.lists.specs.Each.{each}
use Rattle.lists.proofs.Each.{each_length, each_at}

-- the numbers of t are those of b from a place on
abbrev pub Stands : List ℕ → ℕ → List ℕ → Type 0
Stands b at t = (p : ℕ) → p < length t → get_or b (at + p) 0 ≡ get_or t p 0

pub stands_self : (b : List ℕ) → Stands b 0 b
stands_self b p h = ap (λ (q : ℕ). get_or b q 0) (zero-add p)

-- a list in which a text of its length stands is that text
pub stands_whole : (b t : List ℕ) → length t ≡ length b → Stands b 0 t → t ≡ b
stands_whole b t e s = ext_get_or 0 t b e (λ i h. sym (s i h) ∙ ap (λ (q : ℕ). get_or b q 0) (zero-add i))

module _ (b s t : List ℕ) (at : ℕ) where
  pub stands_left : Stands b at (s ++ t) → Stands b at s
  stands_left h p l = h p (omega (arith, length-append s t)) ∙ get_or-append s t 0 p l

  pub stands_right : (place : ℕ) → place ≡ at + length s → Stands b at (s ++ t) → Stands b place t
  stands_right place e h p l =
      let w : place + p ≡ at + (length s + p) = omega arith in
      ap (λ (q : ℕ). get_or b q 0) w ∙ h (length s + p) (omega (arith, length-append s t)) ∙ get_or-append-add s t p 0

  pub stands_both : (place : ℕ) → place ≡ at + length s → Stands b at s → Stands b place t → Stands b at (s ++ t)
  stands_both place e hs ht p l =
      ⊎_elim
      (λ (g : length s ≤ p).
      let w : at + p ≡ place + (p - length s) = omega arith in
      let u : length s + (p - length s) ≡ p = omega arith in
      ap (λ (q : ℕ). get_or b q 0) w ∙ ht (p - length s) (omega (arith, length-append s t))
      ∙ sym (get_or-append-add s t (p - length s) 0) ∙ ap (λ (q : ℕ). get_or (s ++ t) q 0) u)
      (λ (g : p < length s). hs p g ∙ sym (get_or-append s t 0 p g))
      (le_or_lt (length s) p)

-- runs of texts
module _ (b : List ℕ) (f : ℕ → List ℕ) (at : ℕ) where
  pub stands_part : (n k : ℕ) → k < n → Stands b at (joined f n) → Stands b (at + length (joined f k)) (f k)
  unfolding joined
  stands_part zero k l h = absurd (not-suc-le-zero l)
  stands_part (suc n) k l h =
      ⊎_elim
      (λ (e : k ≡ n). rw e (stands_right b (joined f n) (f n) at (at + length (joined f n)) refl h))
      (λ (g : k < n). stands_part n k g (stands_left b (joined f n) (f n) at h))
      (eq-or-lt_of_le (omega arith))

  pub stands_joined : (n : ℕ) → ((k : ℕ) → k < n → Stands b (at + length (joined f k)) (f k)) → Stands b at (joined f n)
  unfolding joined
  stands_joined zero h = λ p l. absurd (not-suc-le-zero l)
  stands_joined (suc n) h =
      stands_both b (joined f n) (f n) at (at + length (joined f n)) refl (stands_joined n (λ k l. h k (omega arith)))
      (h n (omega arith))

-- the length of a run of texts of one length
pub joined_length : (f : ℕ → List ℕ) (size n : ℕ) → ((k : ℕ) → length (f k) ≡ size) → length (joined f n) ≡ size * n
unfolding joined
joined_length f size zero h = omega arith
joined_length f size (suc n) h = omega (arith, length-append (joined f n) (f n), joined_length f size n h, h n)

-- what holds of each that f gives, and of what is read past the end, holds of each of the list
pub each_all : {A : Type 0} (P : A → Type 0) (f : ℕ → A) (d : A) (n : ℕ) → P d → ((j : ℕ) → j < n → P (f j)) → (j : ℕ)
    → P (get_or (each f n) j d)
each_all P f d n past h j =
    ⊎_elim
    (λ (g : n ≤ j).
    subst P (sym (get_or-eq_default (each f n) d {n = j} (omega (arith, each_length f n)))) past)
    (λ (l : j < n). subst P (sym (each_at f d n j l)) (h j l))
    (le_or_lt n j)

-- a list is its numbers, one by one
pub each_whole : {A : Type 0} (f : ℕ → A) (d : A) (n : ℕ) (l : List A) → length l ≡ n
    → ((j : ℕ) → j < n → f j ≡ get_or l j d) → each f n ≡ l
each_whole f d n l e h =
    ext_get_or d (each f n) l (omega (arith, each_length f n)) (λ i g. let w : i < n = omega (arith, each_length f n) in
    each_at f d n i w ∙ h i w)
