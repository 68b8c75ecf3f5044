-- `book_sizes::Chain::size` meets its contract: the classes up to the last, none for a class above it; and no more than
-- all chains have together. Assumes nothing.
use mathlib.Core.Path.{◌≡◌}
use native.Mathlib.Omega.{arith}
use borrow.Author.Rules.{rules}
use Rattle.book_contents.specs.Contents.{size_of}
use Rattle.book_contents.proofs.Linked.{before_most, before_more}
use Rattle.book_sizes.proofs.Chain.size.Goals as goal

pub returns : goal.returns
unfolding size_of
returns c =
    let s = c.args.self in
    let first = s.values.now.first in
    let e : c.size_from.result ≡ size_of first s.number = search rules in
    (e, omega arith, omega (arith, e, s.counted, before_more first 14 s.number s.known, before_most first 14))
