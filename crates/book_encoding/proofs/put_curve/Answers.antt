use mathlib.Core.List.{[]}
use native.Mathlib.Omega.{arith}
use borrow.Author.Rules.{rules}
use lib.IntN.{pos}
use lib.ListN.{get_or}
use mir.Syntax.{w64}
use mir.Val.{SFits}
use mir.ValLaws.{to_z-of_z}
use Rattle.buffer.specs.Text.{joined}
use Rattle.buffer.proofs.Digits.{nothing, joined_more}
use Rattle.book_contents.specs.Written.{signed_fields}
use Rattle.book_encoding.proofs.put_curve.Goals as goal

pub loop-x-init : goal.loop-x-init
unfolding signed_fields joined
loop-x-init c = (nothing _ _, omega arith)

pub loop-x-preserved : goal.loop-x-preserved
unfolding signed_fields
loop-x-preserved c =
    let l = c.loop-x in
    let fits : SFits w64 (get_or c.args.curve.now l.x-index (pos 0)) = search rules in
    let field = rw (to_z-of_z w64 _ fits) at c.stored.ensures in (
      joined_more _ _ [] l.invariant.0 (rw field at c.put_four-next.ensures.0),
      omega (arith, c.put_four-next.ensures.1, l.invariant.1),
    )
