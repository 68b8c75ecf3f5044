-- `report_lines::put_line` meets its contract: four numbers one after the other, as the definition joins their texts.
-- Assumes nothing.
use borrow.Author.Rules.{rules}
use Rattle.buffer.proofs.Digits.{◌then◌}
use Rattle.buffer.specs.Text.{ended}
use Rattle.report_lines.specs.Sheet.{sheet_line}
use Rattle.report_lines.proofs.put_line.Goals as goal

pub returns : goal.returns
unfolding sheet_line ended
returns c = (
  c.put_ended-year_at.ensures.0 then c.put_ended-premium_at.ensures.0 then c.put_ended-outgo_at.ensures.0 then
      c.put_ended.ensures.0,
  search rules,
)
