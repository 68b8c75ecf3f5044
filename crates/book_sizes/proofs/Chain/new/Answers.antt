-- `book_sizes::Chain::new` meets its contract: the sum over the first classes of the chains before it. Assumes nothing.
use mathlib.Core.Path.{◌≡◌, ◌∙◌}
use native.Mathlib.Omega.{arith}
use lib.ListN.{length}
use borrow.Author.Rules.{rules}
use Rattle.book_sizes.proofs.AllSizes.{sizes_before}
use Rattle.book_sizes.proofs.Chain.new.Goals as goal
use Rattle.book_sizes.proofs.Chain.new.Goals.{Start}

first_length : (a : Start) → length a.args.values.now.first ≡ 14
first_length a = search rules

pub invariant_of-result : goal.invariant_of-result
invariant_of-result c =
    let a = c.args in
    let size = first_length (goal.at.invariant_of-result c).Start in
    record {
      known = c.requires;
      counted = c.sizes_from-before.ensures
          ∙ sizes_before a.values.now.first a.number (omega (arith, size, c.requires));
    }
