-- `cell::part` meets its contract: where the product is not near, its upper half is the share; else it is corrected.
-- Assumes nothing.
use mathlib.Core.Path.{sym, ◌∙◌}
use Rattle.cell.proofs.Parts.{sure, short}
use Rattle.cell.proofs.part.Goals as goal

pub corrected-requires : goal.corrected-requires
corrected-requires c =
    short c.args.rows.now c.args.at c.requires.2 c.args.x _ c.requires.0 c.mul_high-half.ensures

pub returns : goal.returns
returns c =
    sure c.args.rows.now c.args.at c.requires.2 c.args.x _ c.requires.0 c.mul_high-half.ensures
    (sym c.may_be_low.ensures ∙ c.if-may_be_low.false)
