-- `Group::liability` meets its contract: the first five years and the later ones are all fifty. Assumes
-- nothing.
use mathlib.Core.Path.{◌∙◌}
use native.Mathlib.Omega.{arith}
use Rattle.signed.proofs.Sizes.{signed_roundtrip}
use Rattle.totals_group.proofs.Sums.{both_parts, parts_most}
use Rattle.totals_group.proofs.Group.liability.Goals as goal

pub amounts_in-first-requires : goal.amounts_in-first-requires
amounts_in-first-requires c = (omega arith, omega arith)

pub later_years-later-requires : goal.later_years-later-requires
later_years-later-requires c = c.requires

pub overflow_add-first : goal.overflow_add-first
overflow_add-first c =
    omega (arith, c.amounts_in-first.ensures.outgo_most, c.later_years-later.ensures.outgo_most)

pub overflow_add-first-2 : goal.overflow_add-first-2
overflow_add-first-2 c =
    omega (arith, c.amounts_in-first.ensures.premium_most, c.later_years-later.ensures.premium_most)

pub less-requires : goal.less-requires
less-requires c =
    let f = c.amounts_in-first.ensures in
    let l = c.later_years-later.ensures in
    omega (arith, f.outgo_most, f.premium_most, l.outgo_most, l.premium_most)

pub returns : goal.returns
returns c =
    let f = c.amounts_in-first.ensures in
    let l = c.later_years-later.ensures in
    let e = signed_roundtrip c.less.result c.less.type_inv ∙ c.less.ensures in
    (e ∙ both_parts _ _ _ _ _ f l, rw e (parts_most _ _ _ _ _ f l))
