-- `book_sizes::total` meets its contract: the sum over the first classes. Assumes nothing.
use mathlib.Core.Path.{◌≡◌, ◌∙◌}
use native.Mathlib.Omega.{arith}
use lib.ListN.{length}
use borrow.Author.Rules.{rules}
use Rattle.book_contents.proofs.Linked.{before_most}
use Rattle.book_sizes.proofs.AllSizes.{all_sizes}
use Rattle.book_sizes.proofs.total.Goals as goal
use Rattle.book_sizes.proofs.total.Goals.{Start}

first_length : (a : Start) → length a.args.first.now ≡ 14
first_length a = search rules

pub returns : goal.returns
returns c =
    let first = c.args.first.now in
    let all = c.sizes_from.ensures ∙ all_sizes first 14 (first_length (goal.at.returns c).Start) in
    (all, omega (arith, all, before_most first 14))
