-- `book_sizes::sizes_from` meets its contract: each number is at most 121, and there are at most 14. Assumes nothing.
use native.Mathlib.Omega.{arith}
use borrow.Author.Rules.{rules}
use Rattle.std.proofs.lemmas.Iterator.{YieldsList-from_slice}
use Rattle.std.proofs.lemmas.Iterator.Adapters.{fits_from_length, at_most_from_yields_List}
use Rattle.book_sizes.proofs.sizes_from.Goals as goal

pub sum-requires-clause-fits : goal.sum-requires-clause-fits
sum-requires-clause-fits c =
    fits_from_length _ _ 14 _ (at_most_from_yields_List (YieldsList-from_slice c.args.first.now cc) c.requires)
    c.map.ensures.closure (omega arith) (λ x r q k. search rules)
