-- `buffer::put_refusal` meets its contract: the word, and the two numbers after it. Assumes nothing.
use native.Mathlib.Omega.{arith}
use Rattle.buffer.proofs.Digits.{◌then◌}
use Rattle.buffer.specs.Text.{ended, refusal_text}
use Rattle.buffer.proofs.put_refusal.Goals as goal

pub returns : goal.returns
unfolding refusal_text ended
returns c = (
  c.put_bytes-number_at.ensures then c.put_ended-place_at.ensures.0 then c.put_ended.ensures.0,
  omega (arith, c.put_bytes-number_at.ensures.place, c.put_ended-place_at.ensures.1, c.put_ended.ensures.1),
)
