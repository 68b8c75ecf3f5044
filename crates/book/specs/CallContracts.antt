-- What Check promises of any bytes, in the paper's values of its verdict: the refusal's number, 0 where accepted, and
-- n.
use Rattle.std.specs.Prelude.{◌≡◌, List, ℕ}
use Rattle.verdict.specs.Verdicts.{refusal_of, count_of, Verdict}
use Rattle.book.specs.Layout.{last_class}
use Rattle.book.specs.Cells.{held_in_all}
use Rattle.book.specs.Check.{check_book}
use Rattle.book.specs.Rules.{Rules}

pub record CheckContract (b : List ℕ) (v : Verdict) : Type 0 where
  pub reply_is : v ≡ check_book 1 b
  -- accepted exactly where the bytes keep every rule of a book
  pub keeps_rules : refusal_of v ≡ 0 → Rules 1 b
  pub accepts : Rules 1 b → refusal_of v ≡ 0
  -- n over all groups
  pub n_is : refusal_of v ≡ 0 → count_of v ≡ held_in_all b (last_class 1)
