-- `book_read_values::first_in` meets its contract: 121 where the chain is empty, else the class of its head. Assumes
-- nothing.
use mathlib.Core.Path.{◌≡◌}
use native.Mathlib.Nat.{pos_of_ne-zero}
use native.Mathlib.Omega.{arith}
use borrow.Author.Rules.{rules}
use borrow.Author.Tests.{eq-eqb, ne_eqb}
use Rattle.book_contents.specs.Reading.{first_in}
use Rattle.book_contents.proofs.Projection.{sound_long, sound_head, sound_first}
use Rattle.book_read_values.proofs.first_in.Goals as goal

pub head_of-head-requires : goal.head_of-head-requires
head_of-head-requires c = (c.requires.0, sound_long _ c.requires.1)

pub returns-then-head-eq0 : goal.returns-then-head-eq0
unfolding first_in
returns-then-head-eq0 c =
    (rw (← c.head_of-head.ensures.0, eq-eqb _ _ c.if-head-eq0.true), search rules)

pub class_of-requires : goal.class_of-requires
class_of-requires c =
    let h = c.head_of-head.ensures.0 in
    rw h (sound_head c.args.book.now c.requires.1 c.args.k c.requires.0
    (rw h at (pos_of_ne-zero c.if-head-eq0.false)))

pub returns : goal.returns
unfolding first_in
returns c =
    let h = c.head_of-head.ensures.0 in
    let e : c.class_of.result ≡ first_in c.args.book.now c.args.k =
    rw (← h, ne_eqb _ _ c.if-head-eq0.false) c.class_of.ensures.0 in
    (e, omega (arith, e, sound_first c.args.book.now c.requires.1 c.args.k c.requires.0))
