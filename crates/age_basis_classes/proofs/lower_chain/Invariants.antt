-- `age_basis_classes::lower_chain` meets its contract. The invariant: the pass stands at record i, and the classes of
-- the records passed are lowered. The measure is the number of classes ahead. Assumes nothing.
use Rattle.age_basis_classes.proofs.Lowering.{Walk, ahead}
use Rattle.age_basis_classes.proofs.lower_chain.Given as goal

abbrev pub invariant-loop-i : goal.invariant-loop-i
invariant-loop-i l = Walk l.book l.k l.i l.initial.out l.out

abbrev pub decreases-loop-i : goal.decreases-loop-i
decreases-loop-i l = ahead l.book l.i
