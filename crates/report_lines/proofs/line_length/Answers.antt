-- `report_lines::line_length` meets its contract: the digits of four numbers, and the four bytes that end them.
-- Assumes nothing.
use native.Mathlib.Omega.{arith}
use Rattle.report_lines.proofs.Lengths.{length_line}
use Rattle.report_lines.proofs.line_length.Goals as goal

pub returns : goal.returns
returns c =
    let a = c.args in
    omega (arith, length_line a.group a.year a.shown.premium a.shown.outgo)
