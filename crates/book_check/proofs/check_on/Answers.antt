-- `book_check::check_on` meets its contract: the chains are checked of a book that its header has found to have its
-- size. Assumes nothing.
use mathlib.Core.Path.{sym, ◌∙◌}
use native.Mathlib.Omega.{arith}
use Rattle.book.proofs.Whole.{header_sized}
use Rattle.book_check.proofs.check_on.Goals as goal

pub check_chains-requires : goal.check_chains-requires
check_chains-requires c =
    (omega arith, omega arith, header_sized _ _ _ (sym c.check_header.ensures ∙ c.in_ok-check_header.was))
