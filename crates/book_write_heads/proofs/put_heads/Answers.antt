use mathlib.Core.Path.{◌≡◌}
use mathlib.Core.List.{[]}
use native.Mathlib.Omega.{arith}
use Rattle.buffer.specs.Text.{joined}
use Rattle.buffer.proofs.Digits.{nothing, kept, joined_more}
use Rattle.book_contents.specs.Written.{head_bytes}
use Rattle.book_write_heads.proofs.put_heads.Goals as goal

pub loop-number-init : goal.loop-number-init
unfolding joined
loop-number-init c = (omega arith, nothing _ _, omega arith)

pub loop-number-preserved : goal.loop-number-preserved
loop-number-preserved c =
    let l = c.loop-number in
    let made = c.new.ensures in
    let w = rw (c.head_for.ensures, made.0, made.1) at c.put_two-next.ensures.0 in
    (omega arith, joined_more _ _ [] l.invariant.1 w, omega (arith, c.put_two-next.ensures.1, l.invariant.2))

pub shape_of-out : goal.shape_of-out
shape_of-out c = kept c.loop-number.invariant.1

pub returns : goal.returns
unfolding head_bytes
returns c =
    let l = c.loop-number in
    let all : l.number ≡ 14 = omega arith in
    (rw all at l.invariant.1, omega (arith, l.invariant.2))
