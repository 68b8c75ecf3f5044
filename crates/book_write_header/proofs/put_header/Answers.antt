-- `book_write_header::put_header` meets its contract: five parts, one after the other. Assumes nothing.
use mathlib.Core.Path.{◌≡◌}
use native.Mathlib.Omega.{arith}
use lib.ListN.{length}
use borrow.Author.Rules.{rules}
use Rattle.buffer.proofs.Digits.{◌then◌, kept}
use Rattle.book_contents.specs.Written.{front_bytes, header_bytes}
use Rattle.book_write_header.proofs.put_header.Goals as goal
use Rattle.book_write_header.proofs.put_header.Goals.{Start}

-- the tables are as long as their types say
cost_length : (a : Start) → length a.args.values.now.cost ≡ 5
cost_length a = search rules

curve_length : (a : Start) → length a.args.values.now.curve ≡ 49
curve_length a = search rules

mortality_length : (a : Start) → length a.args.values.now.mortality ≡ 242
mortality_length a = search rules

pub returns : goal.returns
unfolding header_bytes front_bytes
returns c =
    let front = rw c.total-n.ensures.0 at c.put_front-heads_at.ensures.0 in
    let cost = rw (cost_length (goal.at.returns c).Start) at c.put_fields-curve_at.ensures.0 in
    let curve = rw (curve_length (goal.at.returns c).Start) at c.put_curve-mortality_at.ensures.0 in
    let mortality = rw (mortality_length (goal.at.returns c).Start) at c.put_fields.ensures.0 in (
      front then c.put_heads-cost_at.ensures.0 then cost then curve then mortality,
      omega (
        arith,
        mortality_length (goal.at.returns c).Start,
        curve_length (goal.at.returns c).Start,
        cost_length (goal.at.returns c).Start,
        c.put_fields.ensures.1,
        c.put_curve-mortality_at.ensures.1,
        c.put_fields-curve_at.ensures.1,
        c.put_heads-cost_at.ensures.1,
        c.put_front-heads_at.ensures.1,
      ),
    )

pub shape_of-out : goal.shape_of-out
shape_of-out c = kept (returns c).0
