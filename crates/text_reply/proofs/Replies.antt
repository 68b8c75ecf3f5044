-- The three ways of a call that writes a text, each as promised: a refusal of its own, a buffer that is shorter than
-- the text, and the text written. Assumes nothing.
use mathlib.Core.Bool.{Bool, false}
use mathlib.Core.List.{List, ◌++◌}
use mathlib.Core.Path.{◌≡◌, ap}
use Prim.Native.Nat.{ℕ, ◌<◌, ◌≤◌}
use native.Mathlib.Omega.{arith}
use borrow.Author.Tests.{le-leb, lt-leb}
use lib.ListN.{length, length-append, drop}
use Rattle.verdict.specs.declared.Refusal.{Refusal}
use Rattle.verdict.specs.Verdicts.{need, first_refusal, Verdict, refused}
use Rattle.std.specs.Prelude.{Ok, Err}
use Rattle.verdict.proofs.Verdicts.{need_good}
use Rattle.text_reply.specs.Replies.{with_capacity, text_reply, text_buffer, TextContract}

-- a test that fails
need_bad : (ok : Bool) {q p : ℕ} → ok ≡ false → need ok q p ≡ refused q p
unfolding need
need_bad ok e = rw e

module _ (v : Verdict) (text before : List ℕ) where
  -- its own refusal is given, whatever the buffer's length, and nothing is written
  pub text_refused : (r : Refusal) → v ≡ Err r → TextContract v text before before (Err r)
  unfolding text_reply text_buffer with_capacity first_refusal
  text_refused r e = record { reply_is = rw e; buffer_is = rw e; within = omega arith }

  module _ (n : ℕ) (e : v ≡ Ok n) where
    capacity_bad : length before < length text → with_capacity v text (length before) ≡ refused 20 0
    unfolding with_capacity first_refusal
    capacity_bad h = rw e (need_bad _ (lt-leb (length text) _ h))

    capacity_good : length text ≤ length before → with_capacity v text (length before) ≡ Ok 0
    unfolding with_capacity first_refusal
    capacity_good h = rw e (need_good _ _ _ (le-leb (length text) _ h))

    -- a buffer that is shorter than the text is refused with 20, and nothing is written
    pub text_short : length before < length text → TextContract v text before before (refused 20 0)
    unfolding text_reply text_buffer
    text_short h = record { reply_is = rw (capacity_bad h); buffer_is = rw (capacity_bad h); within = omega arith }

    -- any other takes the text
    pub text_written : {after : List ℕ} {r : ℕ} → length text ≤ length before → r ≡ length text
        → after ≡ text ++ drop (length text) before
        → TextContract v text before after (Ok r)
    unfolding text_reply text_buffer
    text_written h told stands = record {
      reply_is = rw (capacity_good h) (ap Ok told);
      buffer_is = rw (capacity_good h) stands;
      within = omega (arith, told, ap length stands, length-append text (drop (length text) before));
    }
