-- `buffer::put_ended` meets its contract: a number, and the byte that ends it. Assumes nothing.
use native.Mathlib.Omega.{arith}
use Rattle.buffer.proofs.Digits.{◌then◌}
use Rattle.buffer.proofs.put_ended.Goals as goal

pub returns : goal.returns
returns g c = (c.put-next.ensures.0 then c.put_byte.ensures, omega arith)
