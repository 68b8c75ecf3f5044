use Prim.Native.Nat.{◌-◌}
use native.Mathlib.Omega.{arith}
use lib.IntN.{pos}
use lib.ListN.{get_or}
use mir.Syntax.{w64}
use mir.Val.{to_z, of_z}
use Rattle.totals_group.specs.Sums.{Sum}
use Rattle.totals_group.proofs.Sums.{growing_start, growing_more, growing_end, Liability}
use Rattle.totals_group.proofs.Sums.{liability_read, sum_read, sum_stored, sum_capacity}
use Rattle.totals_group.proofs.Group.add_to.Goals as goal
use Rattle.totals_group.proofs.Group.add_to.Goals.{After-liability}

pub amounts_in-later-requires : goal.amounts_in-later-requires
amounts_in-later-requires c = (omega arith, omega arith)

pub loop-j-init : goal.loop-j-init
loop-j-init c = (omega arith, growing_start _ _ _ c.requires.1)

pub liability-requires : goal.liability-requires
liability-requires c = c.amounts_in-later.ensures

-- the group's liability in setting j, and the total that it is added to
liability_lem : (m : After-liability) →
    let a = m.args in
    Liability a.self.book.now m.loop-j.j a.self.number (to_z w64 (of_z w64 m.liability.result))
liability_lem m =
    rw (m.requires.0 m.loop-j.j m.loop-j-test.true _) at
    (liability_read _ _ _ _ m.liability.type_inv m.liability.ensures)

due : (m : After-liability) →
    let a = m.args in
    Sum a.self.book.now m.loop-j.j (a.self.number - 1) (to_z w64 (of_z w64 (get_or m.loop-j.totals m.loop-j.j (pos 0))))
due m =
    sum_read _ _ _ _ (omega (arith, m.args.self.table.high))
    (m.loop-j.invariant.1.due m.loop-j.j (omega arith) m.loop-j-test.true)

pub plus-requires : goal.plus-requires
plus-requires c =
    let a = c.requires in
    let m = (goal.at.plus-requires c).After-liability in
    sum_capacity _ _ _ _ _ c.args.self.table.low c.args.self.table.high (due m) (liability_lem m)

pub loop-j-preserved : goal.loop-j-preserved
loop-j-preserved c =
    let few = c.loop-j-test.true in
    let a = c.requires in
    let m = (goal.at.loop-j-preserved c).After-liability in (
      omega (arith, few),
      growing_more _ _ c.loop-j.j _ _ few c.loop-j.invariant.1
          (sum_stored _ _ _ _ _ _ c.args.self.table.low c.plus.type_inv (due m) (liability_lem m) c.plus.ensures),
    )

pub returns : goal.returns
returns c =
    let l = c.loop-j in
    growing_end _ _ l.j _ (omega arith) l.invariant.1
