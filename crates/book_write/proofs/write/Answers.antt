-- `book_write::write` meets its contract: what is not refused is written, and nothing else. Assumes nothing.
use mathlib.Core.Path.{sym, ap, ◌∙◌}
use Prim.Native.Nat.{◌≤◌}
use native.Mathlib.Omega.{arith}
use lib.ListN.{length}
use borrow.Author.Rules.{rules}
use Rattle.buffer.proofs.Digits.{kept, from_start}
use Rattle.book_contents.specs.Contents.{given}
use Rattle.book_contents.specs.Written.{book_of}
use Rattle.book_contents.specs.Limits.{Shaped}
use Rattle.book_contents.specs.CallContracts.{write_reply}
use Rattle.std.specs.Prelude.{Ok}
use Rattle.book_contents.proofs.Laid.{book_length}
use Rattle.book_contents.proofs.Fit.{fit, capacity_enough}
use Rattle.book_contents.proofs.WriteReadContracts.{write_promised}
use Rattle.book_write.proofs.write.Goals as goal
use Rattle.book_write.proofs.write.Goals.{Start}

-- the tables are as long as their types say
shaped : (a : Start) → Shaped a.args.values
shaped a = record { cost = search rules; curve = search rules; mortality = search rules; first = search rules }

pub put_book-requires : goal.put_book-requires
put_book-requires c = fit _ _ _ (sym c.check_contents.ensures ∙ c.in-Ok.is)

pub shape_of-out : goal.shape_of-out
shape_of-out c = kept c.put_book.ensures

pub returns-in-Ok : goal.returns-in-Ok
unfolding write_reply
returns-in-Ok c =
    let w = c.put_book.ensures in
    let a = c.args in
    let v = given a.values a.counts.now a.lapses.now a.premiums.now a.claims.now in
    let e = sym c.check_contents.ensures ∙ c.in-Ok.is in
    let size : length (book_of v) ≤ length a.out.now = omega (arith, book_length v, capacity_enough v _ _ e) in
    write_promised v a.out.now _ _ (shaped (goal.at.returns-in-Ok c).Start)
    (rw e (ap Ok (omega (arith, w.place))))
    (rw e (from_start w size))

pub returns-in-Err : goal.returns-in-Err
unfolding write_reply
returns-in-Err c =
    let e = sym c.check_contents.ensures ∙ c.in-Err.is in
    write_promised _ _ _ _ (shaped (goal.at.returns-in-Err c).Start) (rw e) (rw e)
