-- An array that a closure fills, which answers as a function of the index does. Assumes nothing.
use mathlib.Core.Path.{◌≡◌, subst, ◌∙◌}
use mathlib.Core.List.{List, map}
use mathlib.Core.Logic.{⊎_elim}
use Prim.Native.Nat.{ℕ, zero, suc, ◌+◌, ◌≤◌, ◌<◌}
use native.Mathlib.Nat.{eq-or-lt_of_le}
use native.Mathlib.Omega.{arith}
use lib.ListN.{get_or}
use denote.Param.Members.{Mut}
use Rattle.std.specs.Array.{IsFromFnResult, IsFromFnResultFrom}
use Rattle.std.specs.Fn.{Called}
use Rattle.std.specs.List.{range_with_len}
use Rattle.std.proofs.lemmas.List.FromFn.{fill_by_all}

module _ {F B : Type 0} (g : Mut F (ℕ × Unit {0}) B) (f : F) (h : ℕ → B) (ys : List B) where
  -- each call leaves the closure as it was, and answers what h does
  abbrev pub Answers : Type 0
  Answers = (i : ℕ) (y : B) (q : F) → Called g f (i, tt) y q → (q ≡ f) × (y ≡ h i)

  turns : Answers → (n i : ℕ) → IsFromFnResultFrom g f ys i n → (k : ℕ) (d : B) → i ≤ k → k < i + n
      → get_or ys k d ≡ h k
  turns call zero i e k d low high = absurd (omega arith)
  turns call (suc n) i e k d low high =
      let same = call i e.1 e.0 e.3 in
      let rest = subst (λ (p : F). IsFromFnResultFrom g p ys (i + 1) n) same.0 e.4 in
      ⊎_elim
      (λ (eq : i ≡ k). rw (← eq) (e.2.1 d ∙ same.1))
      (λ (lt : i < k). turns call n (i + 1) rest k d (omega arith) (omega arith))
      (eq-or-lt_of_le low)

  pub filled_by : (n : ℕ) (d : B) → Answers → IsFromFnResult g f ys n → ys ≡ map h (range_with_len 0 n)
  filled_by n d call e =
      fill_by_all h ys n d e.long (λ k high. turns call n 0 e.each k d (omega arith) (omega arith))
