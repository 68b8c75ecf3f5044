-- `listing_text::put_line` meets its contract: three writers one after the other, as the definition joins their texts.
-- Assumes nothing.
use mir.Syntax.{w64}
use mir.ValLaws.{to_z-of_z}
use native.Mathlib.Omega.{arith}
use Rattle.buffer.proofs.Digits.{◌then◌}
use Rattle.buffer.specs.Text.{ended, signed_ended}
use Rattle.listing_text.specs.Lines.{listing_line}
use Rattle.listing_text.proofs.put_line.Goals as goal

pub returns : goal.returns
unfolding listing_line ended signed_ended
returns c =
    let total = rw (to_z-of_z w64 _ c.ranges.total) at c.put_ended-n_at.ensures.0 in
    (c.put_ended-total_at.ensures.0 then total then c.put_ended.ensures.0, omega arith)
