-- `age_basis::write_converted` meets its contract: the copy, its classes lowered and its byte 1 made 1, is the
-- converted book. Assumes nothing.
use native.Mathlib.Omega.{arith}
use lib.ListN.{length, drop, length-append, length-drop}
use Rattle.age_basis.proofs.Written.{stored_length, written}
use Rattle.age_basis.proofs.write_converted.Goals as goal

pub lower_chains-requires : goal.lower_chains-requires
lower_chains-requires c =
    let b = c.args.book.now in (
      c.requires.0,
      rw (c.copy_from_slice.ensures.after)
          (omega (arith, length-append b (drop (length b) c.args.out.now), length-drop (length b) c.args.out.now)),
    )

pub shape_of-out : goal.shape_of-out
shape_of-out c =
    stored_length c.args.book.now c.requires.0 c.args.out.now _ c.requires.1
    (rw (c.copy_from_slice.ensures.after) at c.lower_chains.ensures) _

pub returns : goal.returns
returns c =
    written c.args.book.now c.requires.0 c.args.out.now _ c.requires.1
    (rw (c.copy_from_slice.ensures.after) at c.lower_chains.ensures)
