use Rattle.buffer.proofs.Digits.{bytes_more}
use Rattle.buffer.proofs.put_bytes.Goals as goal

pub loop-b-preserved : goal.loop-b-preserved
loop-b-preserved c =
    bytes_more c.args.s.now c.loop-b.b-index c.loop-b-test.true c.loop-b.invariant c.put_byte-next.ensures
