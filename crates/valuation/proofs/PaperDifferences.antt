-- The paper's four differences hold of the reply to every book; to a refused one all of them are 0. Assumes nothing.
use mathlib.Core.Path.{refl}
use mathlib.Core.List.{List}
use Prim.Native.Nat.{ℕ}
use Rattle.verdict.specs.Verdicts.{Verdict}
use Rattle.std.specs.Prelude.{Ok, Err}
use Rattle.book.specs.Check.{check_book}
use Rattle.valuation.specs.Totals.{totals_of, differences_of, totals_for, totals_reply}
use Rattle.valuation.specs.PaperDifferences.{PaperDifferences}

module _ (b : List ℕ) where
  by_verdict : (v : Verdict) (n : ℕ) → PaperDifferences (totals_for v n (totals_of b) (differences_of b))
  by_verdict (Ok m) n = record { mortality = refl; lapse = refl; costs = refl; claims = refl }
  by_verdict (Err r) n = record { mortality = refl; lapse = refl; costs = refl; claims = refl }

  pub paper_differences : PaperDifferences (totals_reply b)
  unfolding totals_reply
  paper_differences = by_verdict (check_book 1 b) _
