-- Of an array that a closure made, index by index, where no call changes the closure. Assumes nothing.
use mathlib.Core.Path.{◌≡◌}
use mathlib.Core.Logic.{⊎_elim}
use mathlib.Core.List.{List}
use Prim.Native.Nat.{ℕ, zero, suc, ◌+◌, ◌≤◌, ◌<◌}
use native.Mathlib.Nat.{eq-or-lt_of_le}
use native.Mathlib.Omega.{arith}
use denote.Param.Members.{Mut, Called}
use lib.ListN.{get_or}
use Rattle.std.specs.Array.{IsFromFnResult, IsFromFnResultFrom}

module _ {F B : Type 0} (g : Mut F (ℕ × Unit {0}) B) (f : F) (P : ℕ → B → Type 0) (ys : List B) (most : ℕ)
    (call : (i : ℕ) (y : B) (q : F) → i < most → Called g f (i, tt) y q → (q ≡ f) × P i y) where
  made : (i n k : ℕ) → i + n ≤ most → i ≤ k → k < i + n → IsFromFnResultFrom g f ys i n
      → (y : B) × ((d : B) → get_or ys k d ≡ y) × P k y
  made i zero k few low high r = absurd (omega arith)
  made i (suc n) k few low high (q, y, at, is, rest) =
      let step = call i y q (omega arith) is in
      ⊎_elim (λ (e : i ≡ k). rw (← e) (y, at.1, step.1))
      (λ (l : i < k). made (i + 1) n k (omega arith) (omega arith) (omega arith) (rw step.0 at rest))
      (eq-or-lt_of_le low)

  -- what holds of what each call gives holds of each element
  pub each_made : IsFromFnResult g f ys most → (k : ℕ) → k < most → (y : B) × ((d : B) → get_or ys k d ≡ y) × P k y
  each_made r k h = made 0 most k (omega arith) (omega arith) (omega arith) r.each
