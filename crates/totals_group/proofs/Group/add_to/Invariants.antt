-- `Group::add_to` meets its contract. The invariant: the totals of the settings before j have the group,
-- the others not yet. The measure is the number of settings left. Assumes nothing.
use Prim.Native.Nat.{◌-◌, ◌≤◌}
use Rattle.totals_group.proofs.Sums.{Growing}
use Rattle.totals_group.proofs.Group.add_to.Given as goal

abbrev pub invariant-loop-j : goal.invariant-loop-j
invariant-loop-j l = (l.j ≤ 8) × Growing l.self.book.now l.self.number l.j l.totals

abbrev pub decreases-loop-j : goal.decreases-loop-j
decreases-loop-j l = 8 - l.j
