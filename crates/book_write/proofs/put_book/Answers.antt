-- `book_write::put_book` meets its contract: the header, and then the chains. Assumes nothing.
use native.Mathlib.Omega.{arith}
use Rattle.buffer.proofs.Digits.{◌then◌, kept}
use Rattle.book_contents.specs.Written.{book_of}
use Rattle.book_contents.proofs.Fit.{percents_small}
use Rattle.book_write.proofs.put_book.Goals as goal

pub put_header-requires : goal.put_header-requires
put_header-requires c =
    let fit = c.requires in
    let percents = percents_small _ fit in
    (omega (arith, fit.edition_high), omega (arith, percents.0), omega (arith, percents.1), fit.curve)

pub put_chains-requires : goal.put_chains-requires
put_chains-requires c = c.requires

pub returns : goal.returns
unfolding book_of
returns c =
    let header = c.put_header.ensures in
    (rw header.1 at header.0) then c.put_chains.ensures

pub shape_of-out : goal.shape_of-out
shape_of-out c = kept (returns c)
