-- `book_encoding::stored` meets its contract: a curve rate fits 32 bits. Assumes nothing.
use mathlib.Core.Path.{◌≡◌, ◌∙◌}
use native.Mathlib.Omega.{arith}
use mir.Syntax.{w32, w64}
use mir.ValLaws.{to_z-of_z}
use Rattle.book_contents.specs.Written.{twos_complement}
use Rattle.book_encoding.proofs.CurveRates.{rate_fits, rate_bits}
use Rattle.book_encoding.proofs.stored.Goals as goal

pub overflow_cast-x : goal.overflow_cast-x
overflow_cast-x c =
    rw (to_z-of_z w64 c.args.x c.ranges.x) (rate_fits c.args.x c.requires)

pub returns : goal.returns
returns c =
    let bits = rw (to_z-of_z w64 c.args.x c.ranges.x, to_z-of_z w32 c.args.x (rate_fits c.args.x c.requires)) at
    c.cast_unsigned.ensures in
    let held : c.from.result ≡ twos_complement c.args.x = c.from.ensures ∙ bits ∙ rate_bits c.args.x in
    omega (arith, held)
