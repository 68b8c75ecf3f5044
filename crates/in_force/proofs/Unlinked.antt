-- Records that no chain links have no effect on the call, neither on its reply nor on the caller's numbers.
-- Assumes nothing.
use mathlib.Core.Path.{◌≡◌, refl, sym, ◌∙◌}
use mathlib.Core.List.{List}
use Prim.Native.Nat.{ℕ, ◌<◌}
use native.Mathlib.Omega.{arith}
use lib.ListN.{length}
use Rattle.verdict.specs.Verdicts.{Verdict}
use Rattle.std.specs.Prelude.{Ok, Err}
use Rattle.text_reply.specs.Replies.{buffer_for}
use Rattle.book.specs.Layout.{chains}
use Rattle.book.specs.Rules.{SameButUnlinked}
use Rattle.book.proofs.Unlinked.{unlinked_same}
use Rattle.settings_decrements.specs.Decrements.{decrements_of}
use Rattle.valuation.proofs.Unlinked.{cell_same, decrements_same}
use Rattle.in_force_request.specs.Request.{chain_of, record_at_class, asked_check}
use Rattle.in_force_request.proofs.Asked.{asked_code, asked_sex}
use Rattle.in_force_request.proofs.Unlinked.{chain_same, record_kept}
use Rattle.in_force.specs.InForceRun.{in_force_check, in_force_run, in_force_numbers}
use Rattle.in_force.proofs.InForceContract.{by_asked, accepted_asked, accepted_valid, accepted_some}

module _ (b b' : List ℕ) (s : SameButUnlinked b b') (setting code sex class : ℕ) where
  -- the reply
  pub check_same : (numbers : ℕ)
      → in_force_check b setting code sex class numbers ≡ in_force_check b' setting code sex class numbers
  unfolding in_force_check record_at_class
  check_same numbers = by (asked_check setting code sex numbers) refl
    where
      by : (v : Verdict) → asked_check setting code sex numbers ≡ v
          → in_force_check b setting code sex class numbers ≡ in_force_check b' setting code sex class numbers
      by (Ok m) e =
          let codes = asked_code setting code sex numbers m e in
          let sexes = asked_sex setting code sex numbers m e in
          rw (unlinked_same b b' s 1, chain_same b b' s (chain_of code sex) (omega arith) class)
      by (Err r) e =
          by_asked b setting code sex class numbers r e ∙ sym (by_asked b' setting code sex class numbers r e)

  -- the fifty numbers
  run_same : (numbers n : ℕ) → in_force_check b setting code sex class numbers ≡ Ok n
      → in_force_run b setting (record_at_class b code sex class)
      ≡ in_force_run b' setting (record_at_class b' code sex class)
  unfolding in_force_run record_at_class
  run_same numbers n e =
      let asked = accepted_asked b setting code sex class numbers n e in
      let codes = asked_code setting code sex numbers _ asked in
      let sexes = asked_sex setting code sex numbers _ asked in
      let few : chain_of code sex < chains = omega arith in
      let v = accepted_valid b setting code sex class numbers n e in
      let some = accepted_some b setting code sex class numbers n e in
      let kept = record_kept b b' s (chain_of code sex) few class v some in
      rw (
        decrements_same b b' s setting,
        cell_same b b' s (decrements_of b' setting) (chain_of code sex) _ kept,
        chain_same b b' s (chain_of code sex) few class,
      )

  pub numbers_same : (before : List ℕ)
      → in_force_numbers b setting code sex class before ≡ in_force_numbers b' setting code sex class before
  unfolding in_force_numbers
  numbers_same before =
      rw (← (check_same (length before))) (by (in_force_check b setting code sex class (length before)) refl)
    where
      by : (v : Verdict) → in_force_check b setting code sex class (length before) ≡ v
          → buffer_for v (in_force_run b setting (record_at_class b code sex class)) before
          ≡ buffer_for v (in_force_run b' setting (record_at_class b' code sex class)) before
      by (Ok n) e = rw (run_same (length before) n e)
      by (Err r) e = refl
