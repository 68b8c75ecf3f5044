-- What the caller's own tests leave. Assumes nothing.
use mathlib.Core.Path.{◌≡◌}
use Prim.Native.Nat.{ℕ, ◌<◌, ◌≤◌}
use borrow.Author.Tests.{ltb-true, leb-true}
use Rattle.std.specs.Prelude.{Ok}
use Rattle.verdict.proofs.Verdicts.{need_true, then_left, then_right}
use Rattle.le_bytes.proofs.Ranges.{within_means}
use Rattle.in_force_request.specs.Request.{asked_check}

module _ (setting code sex numbers n : ℕ) (e : asked_check setting code sex numbers ≡ Ok n) where
  pub asked_setting : setting < 8
  unfolding asked_check
  asked_setting = ltb-true _ _ (need_true _ _ _ _ (then_left _ _ _ (then_left _ _ _ (then_left _ _ _ e))))

  pub asked_code : (1 ≤ code) × (code ≤ 7)
  unfolding asked_check
  asked_code = within_means _ _ _ (need_true _ _ _ _ (then_right _ _ _ (then_left _ _ _ (then_left _ _ _ e))))

  pub asked_sex : sex ≤ 1
  unfolding asked_check
  asked_sex = leb-true _ _ (need_true _ _ _ _ (then_right _ _ _ (then_left _ _ _ e)))

  pub asked_numbers : 50 ≤ numbers
  unfolding asked_check
  asked_numbers = leb-true _ _ (need_true _ _ _ _ (then_right _ _ _ e))
