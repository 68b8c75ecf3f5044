-- What acceptance says of setting and book. Assumes nothing.
use mathlib.Core.Path.{◌≡◌}
use mathlib.Core.List.{List}
use Prim.Native.Nat.{ℕ, ◌<◌}
use borrow.Author.Tests.{ltb-true}
use Rattle.std.specs.Prelude.{Ok}
use Rattle.verdict.proofs.Verdicts.{need_true, then_left, then_right}
use Rattle.book.specs.Reading.{ValidBook}
use Rattle.book.proofs.Valid.{valid}
use Rattle.report_text.specs.Report.{report_check}

module _ (b : List ℕ) (setting n : ℕ) (e : report_check b setting ≡ Ok n) where
  pub report_setting : setting < 8
  unfolding report_check
  report_setting = ltb-true _ _ (need_true _ _ _ _ (then_left _ _ _ e))

  pub report_valid : ValidBook 1 b
  unfolding report_check
  report_valid = valid 1 b n (then_right _ _ _ e)
