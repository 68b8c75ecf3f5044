-- `chain_rows::repeat_row` meets its contract. The invariant: the numbers before j repeat those a row before. Assumes
-- nothing.
use Prim.Native.Nat.{◌*◌}
use Rattle.chain_rows.specs.Chain.{Repeated}
use Rattle.chain_rows.proofs.repeat_row.Given as goal

abbrev pub invariant-loop-j : goal.invariant-loop-j
invariant-loop-j l = Repeated l.initial.rows l.rows (16 * l.from) l.j
