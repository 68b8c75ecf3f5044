-- A number with a sign: a minus sign and the size below zero, else the number. Assumes nothing.
use native.Mathlib.Omega.{arith}
use mir.Syntax.{w64}
use mir.ValLaws.{to_z-of_z}
use Rattle.buffer.proofs.Digits.{◌then◌, is_below, is_other, signed_below, signed_other}
use Rattle.buffer.proofs.I64Decimal.put.Goals as goal

pub returns-then-self-lt0 : goal.returns-then-self-lt0
returns-then-self-lt0 c =
    let v = c.args.self in
    let size = rw (to_z-of_z w64 v c.ranges.self) at c.unsigned_abs.ensures.value in
    let w = c.put_byte-next.ensures then (rw size at c.put.ensures.0) in
    (rw (signed_below v (is_below v c.ranges.self c.if-self-lt0.true)) w, omega arith)

pub returns : goal.returns
returns c =
    let v = c.args.self in
    let size = rw (to_z-of_z w64 v c.ranges.self) at c.unsigned_abs-2.ensures.value in
    let w = rw size at c.put-2.ensures.0 in
    (rw (signed_other v (is_other v c.ranges.self c.if-self-lt0.false)) w, omega arith)
