-- `Group::later_years` meets its contract: a setting whose later years are the base's has what these give.
-- Assumes nothing.
use mathlib.Core.Path.{sym, ◌∙◌}
use native.Mathlib.Omega.{arith}
use Rattle.settings_outgo.proofs.Serving.{later_decrements, later_outgo, later_is}
use Rattle.totals_group.proofs.Sums.{later_same}
use Rattle.totals_group.proofs.Group.later_years.Goals as goal

pub returns-then-later_as : goal.returns-then-later_as
returns-then-later_as c =
    let same = sym c.later_as.ensures ∙ c.if-later_as.true in
    let s = later_is c.args.s in
    let base = later_is c.args.base.setting in
    later_same _ _ _ (later_decrements _ _ _ _ s base same _) (later_outgo _ _ _ _ s base same) _ _ c.requires

pub amounts_in-requires : goal.amounts_in-requires
amounts_in-requires c = (omega arith, omega arith)

pub returns : goal.returns
returns c = c.amounts_in.ensures
