-- `record_view::check_record` meets its contract: an accepted book has its header. Assumes nothing.
use mathlib.Core.Path.{sym, ◌∙◌}
use native.Mathlib.Omega.{arith}
use Rattle.book.proofs.Valid.{valid}
use Rattle.record_view.proofs.check_record.Goals as goal

pub records-requires : goal.records-requires
records-requires c =
    omega (arith, (valid 1 _ _ (sym c.check.ensures ∙ c.in_ok-check.was)).header.size)
