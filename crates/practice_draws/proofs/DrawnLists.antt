-- Draws one after the other, put into lists from their start on. Assumes nothing.
use mathlib.Core.Path.{◌≡◌, refl, sym, ap, ◌∙◌}
use mathlib.Core.List.{List}
use Prim.Native.Nat.{ℕ, ◌+◌, ◌<◌}
use native.Mathlib.Omega.{arith}
use lib.ListN.{length, take, set, length-set}
use Rattle.generator.specs.declared.GeneratorState.{GeneratorState}
use Rattle.generator.specs.Draws.{step, draw_of, state_after, draw_at}
use Rattle.generator.proofs.DrawSequence.{after_more}
use Rattle.lists.specs.Each.{each}
use Rattle.lists.proofs.Each.{each_set, each_done}

-- words that are n draws on: what a draw makes of them, and what it answers
module _ (w : GeneratorState) {words after : GeneratorState} {draw : ℕ} (n : ℕ) (e : words ≡ state_after w n)
    (h : (after ≡ step words) × (draw ≡ draw_of after)) where
  pub after_draw : (m : ℕ) → n + 1 ≡ m → after ≡ state_after w m
  after_draw m to = h.0 ∙ ap step e ∙ sym (after_more w n) ∙ ap (state_after w) to

  pub draw_is : draw ≡ draw_at w n
  unfolding draw_at
  draw_is = h.1 ∙ ap draw_of (after_draw (n + 1) refl)

-- a list of n whose first j are what f gives
pub record Filled {A : Type 0} (f : ℕ → A) (n : ℕ) (l : List A) (j : ℕ) : Type 0 where
  pub size : length l ≡ n
  pub done : take j l ≡ each f j

module _ {A : Type 0} (f : ℕ → A) {n : ℕ} where
  pub filled_none : (l : List A) → length l ≡ n → Filled f n l 0
  unfolding each
  filled_none l e = record { size = e; done = refl }

  pub filled_more : {l m : List A} {a : A} (j : ℕ) → j < n → m ≡ set l j a → a ≡ f j → Filled f n l j
      → Filled f n m (j + 1)
  filled_more {l} {m} {a} j few stored is so =
      record {
        size = ap length stored ∙ simp length-set so.size;
        done = rw stored (each_set f l j a (omega (arith, so.size)) is so.done);
      }

  pub filled_all : {l : List A} {j : ℕ} → j ≡ n → Filled f n l j → l ≡ each f n
  filled_all {l} {j} e so = each_done f l n so.size (rw e at so.done)
