-- `age_basis_classes::lower_chains` meets its contract. The invariant: the classes of the chains before k are lowered.
-- The measure is the number of chains left. Assumes nothing.
use Prim.Native.Nat.{◌-◌, ◌≤◌}
use Rattle.age_basis_definitions.specs.Conversion.{some_below, chain_class_at}
use Rattle.age_basis_classes.specs.Steps.{Lowered}
use Rattle.age_basis_classes.proofs.lower_chains.Given as goal

abbrev pub invariant-loop-k : goal.invariant-loop-k
invariant-loop-k l =
    (l.k ≤ 14) × Lowered l.book (λ p. some_below (chain_class_at l.book p) l.k) l.initial.out l.out

abbrev pub decreases-loop-k : goal.decreases-loop-k
decreases-loop-k l = 14 - l.k
