-- `buffer::put_bytes` meets its contract. The invariant: the bytes passed are written. Assumes nothing.
use lib.ListN.{take}
use Rattle.buffer.specs.Text.{Wrote}
use Rattle.buffer.proofs.put_bytes.Given as goal

abbrev pub invariant-loop-b : goal.invariant-loop-b
invariant-loop-b l = Wrote l.initial.out l.at (take l.b-index l.s) l.out l.next
