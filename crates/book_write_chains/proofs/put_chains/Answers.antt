use mathlib.Core.Path.{◌≡◌, refl}
use mathlib.Core.List.{[]}
use Prim.Native.Nat.{◌+◌}
use native.Mathlib.Omega.{arith}
use Rattle.lists.specs.Sums.{sum_by}
use Rattle.lists.proofs.Sums.{sum_more}
use Rattle.buffer.specs.Text.{joined}
use Rattle.buffer.proofs.Digits.{nothing, kept, joined_more}
use Rattle.book_contents.specs.Contents.{size_of}
use Rattle.book_contents.proofs.Linked.{before_most}
use Rattle.book_write_chains.proofs.put_chains.Goals as goal

pub loop-number-init : goal.loop-number-init
unfolding joined sum_by
loop-number-init c = (omega arith, nothing _ _, refl)

pub put_chain-next-requires : goal.put_chain-next-requires
put_chain-next-requires c =
    let l = c.loop-number in
    (omega (arith, l.invariant.2, before_most c.args.values.now.first l.number), rw c.new.ensures.0 c.requires)

pub loop-number-preserved : goal.loop-number-preserved
loop-number-preserved c =
    let l = c.loop-number in
    let first = c.args.values.now.first in
    let made = c.new.ensures in
    let chain = rw (made.0, made.1) at c.put_chain-next.ensures in (
      omega arith,
      joined_more _ _ [] l.invariant.1 chain.0,
      omega (arith, chain.1, l.invariant.2, sum_more 0 ◌+◌ (size_of first) l.number _ _ _ refl refl refl),
    )

pub shape_of-out : goal.shape_of-out
shape_of-out c = kept c.loop-number.invariant.1

pub returns : goal.returns
returns c =
    let l = c.loop-number in
    let all : l.number ≡ 14 = omega arith in
    rw all at l.invariant.1
