-- `book_ranges::curve_rate` meets its contract: one test for each end of the range. Assumes nothing.
use mir.Syntax.{w64}
use mir.ValLaws.{to_z-of_z}
use Rattle.book_contents.proofs.Curve.{rate_low, rate_other}
use Rattle.book_ranges.proofs.curve_rate.Goals as goal

pub returns-then-x-lt-LOWEST_RATE : goal.returns-then-x-lt-LOWEST_RATE
returns-then-x-lt-LOWEST_RATE c =
    rate_low c.args.x (rw (to_z-of_z w64 c.args.x c.ranges.x) at c.if-x-lt-LOWEST_RATE.true)

pub returns : goal.returns
returns c =
    rw (to_z-of_z w64 c.args.x c.ranges.x)
    (rate_other c.args.x (rw (to_z-of_z w64 c.args.x c.ranges.x) at c.if-x-lt-LOWEST_RATE.false))
