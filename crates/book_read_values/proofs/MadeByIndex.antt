-- An array made by a closure that is called at each index: it is what a function gives for each index, where each call
-- gives that and leaves the closure as it was. Assumes nothing.
use mathlib.Core.Path.{◌≡◌, sym, ◌∙◌}
use mathlib.Core.List.{List}
use mathlib.Core.Logic.{⊎_elim}
use Prim.Native.Nat.{ℕ, zero, suc, ◌+◌, ◌≤◌, ◌<◌}
use native.Mathlib.Nat.{eq-or-lt_of_le}
use native.Mathlib.Omega.{arith}
use lib.ListN.{get_or}
use Rattle.std.specs.Fn.{Called, Mut}
use Rattle.std.specs.Array.{IsFromFnResult, IsFromFnResultFrom}
use Rattle.std.proofs.lemmas.List.FromFn.{fill_by_all}
use Rattle.lists.specs.Each.{each}
use Rattle.lists.proofs.Each.{each_length, each_at}

module _ {F B : Type 0} (g : Mut F (ℕ × Unit {0}) B) (f : F) (h : ℕ → B) (ys : List B) (all : ℕ)
    (law : (i : ℕ) (y : B) (q : F) → i < all → Called g f (i, tt) y q → (q ≡ f) × (y ≡ h i)) where
  -- from index i on, n of them
  made_at : (n i k : ℕ) (d : B) → IsFromFnResultFrom g f ys i n → i + n ≤ all → i ≤ k → k < i + n → get_or ys k d ≡ h k
  made_at zero i k d made few low high = absurd (omega arith)
  made_at (suc n) i k d (q, y, element, called, rest) few low high =
      let call = law i y q (omega arith) called in
      ⊎_elim
      (λ (e : i ≡ k). rw (← e) (element.1 d ∙ call.1))
      (λ (more : i < k). made_at n (i + 1) k d (rw call.0 at rest) (omega arith) (omega arith) (omega arith))
      (eq-or-lt_of_le low)

  pub made_each : IsFromFnResult g f ys all → ys ≡ each h all
  made_each made =
      fill_by_all h ys all (h 0) made.long
      (λ k few. made_at all 0 k (h 0) made.each (omega arith) (omega arith) (omega arith))
      ∙ sym (fill_by_all h (each h all) all (h 0) (each_length h all) (λ k few. each_at h (h 0) all k few))
