use mathlib.Core.Path.{◌≡◌}
use mathlib.Core.List.{[]}
use native.Mathlib.Omega.{arith}
use Rattle.buffer.specs.Text.{joined}
use Rattle.buffer.proofs.Digits.{nothing, kept, joined_more}
use Rattle.book_contents.specs.Reading.{field_list}
use Rattle.book_read_lists.proofs.fill_list.Goals as goal

pub loop-k-init : goal.loop-k-init
unfolding joined
loop-k-init c = (omega arith, nothing _ _, omega arith)

pub loop-k-preserved : goal.loop-k-preserved
loop-k-preserved c =
    let l = c.loop-k in (
      omega arith,
      joined_more _ _ [] l.invariant.1 c.fill_chain-next.ensures.0,
      omega (arith, c.fill_chain-next.ensures.1, l.invariant.2),
    )

pub shape_of-list : goal.shape_of-list
shape_of-list c = kept c.loop-k.invariant.1

pub returns : goal.returns
unfolding field_list
returns c =
    let l = c.loop-k in
    let all : l.k ≡ 14 = omega arith in
    (rw all at l.invariant.1).bytes
