-- `arith::two_parts` meets its contract: both are corrected where either product may carry, else both upper halves are
-- the quotients.
-- Assumes nothing.
use Rattle.std.proofs.Common.{◌≤◌, sym, ◌∙◌, arith}
use Rattle.arith.proofs.Division.{part_sure, part_short, high_small}
use Rattle.arith.proofs.two_parts.Goals as goal
use Rattle.arith.proofs.two_parts.Goals.{Start}

-- what the types say of the arguments, before any product is in reach
most_small : (a : Start) → a.args.most ≤ 18446744073709551615
most_small a = omega arith

one_small : (a : Start)
    → (a.args.one.amount ≤ 18446744073709551615) × (a.args.one.fraction ≤ 18446744073709551615)
one_small a = (omega arith, omega arith)

other_small : (a : Start)
    → (a.args.other.amount ≤ 18446744073709551615) × (a.args.other.fraction ≤ 18446744073709551615)
other_small a = (omega arith, omega arith)

pub returns : goal.returns
returns c = (
  part_sure _ _ _ _ _ c.args.most c.requires.2 c.requires.4 c.mul_high-first.ensures c.requires.0
      (most_small c.before.before.before.before.before.before)
      (sym c.may_be_low-first_may_be_low.ensures ∙ c.if-first_may_be_low.false),
  part_sure _ _ _ _ _ c.args.most c.requires.2 c.requires.5 c.mul_high-second.ensures c.requires.1
      (most_small c.before.before.before.before.before.before)
      (sym c.may_be_low-second_may_be_low.ensures ∙ c.if-second_may_be_low.false),
)

pub corrected-requires : goal.corrected-requires
corrected-requires c =
    let x = c.args.one in
    part_short _ _ _ _ _ c.args.most c.requires.2 c.requires.4 c.mul_high-first.ensures c.requires.0
    (most_small c.before.before.before.before.before)
    c.requires.3 (high_small x.amount x.fraction _ (one_small c.before.before.before.before.before).0
    (one_small c.before.before.before.before.before).1 c.mul_high-first.ensures)

pub corrected-requires-then-first_may_be_low : goal.corrected-requires-then-first_may_be_low
corrected-requires-then-first_may_be_low c =
    let x = c.args.other in
    part_short _ _ _ _ _ c.args.most c.requires.2 c.requires.5 c.mul_high-second.ensures c.requires.1
    (most_small c.before.before.before.before.before.before)
    c.requires.3 (high_small x.amount x.fraction _ (other_small c.before.before.before.before.before.before).0
    (other_small c.before.before.before.before.before.before).1 c.mul_high-second.ensures)
