use mathlib.Core.List.{[]}
use native.Mathlib.Omega.{arith}
use Rattle.buffer.specs.Text.{joined}
use Rattle.buffer.proofs.Digits.{nothing, joined_more}
use Rattle.book_contents.specs.Written.{fields}
use Rattle.book_encoding.proofs.put_fields.Goals as goal

pub loop-x-init : goal.loop-x-init
unfolding fields joined
loop-x-init c = (nothing _ _, omega arith)

pub loop-x-preserved : goal.loop-x-preserved
unfolding fields
loop-x-preserved c =
    let l = c.loop-x in (
      joined_more _ _ [] l.invariant.0 c.put_four-next.ensures.0,
      omega (arith, c.put_four-next.ensures.1, l.invariant.1),
    )
