-- `signed::less` meets its contract: both numbers are in the lower half of 64 bits, and so is their difference.
-- Assumes nothing.
use mathlib.Core.Path.{◌≡◌}
use native.Mathlib.Nat.{lt_of_le_of_lt}
use native.Mathlib.Omega.{arith}
use lib.Dec.{lit<}
use lib.IntN.{pos, ◌-ℤ◌}
use mir.Syntax.{w64}
use mir.Val.{SFits, to_z}
use mir.ValLaws.{to_z_pos, to_z-of_z}
use Rattle.signed.proofs.Sizes.{less_mag}
use Rattle.signed.proofs.less.Goals as goal
use Rattle.signed.proofs.less.Goals.{Start}

-- both numbers are in the lower half of 64 bits, where the signed reading changes nothing
is_pos : (c : Start) → (to_z w64 c.args.a ≡ pos c.args.a) × (to_z w64 c.args.b ≡ pos c.args.b)
is_pos c = (to_z_pos w64 c.args.a (omega arith), to_z_pos w64 c.args.b (omega arith))

fits : (c : Start) → SFits w64 (pos c.args.a -ℤ pos c.args.b)
fits c = record {
  sfits = lt_of_le_of_lt (less_mag c.args.a c.args.b 1000000000000000000 c.requires.0 c.requires.1) (lit< tt);
}

pub overflow_sub-result : goal.overflow_sub-result
overflow_sub-result c = rw ((is_pos c).0, (is_pos c).1) (fits c)

pub returns : goal.returns
returns c =
    rw ((is_pos c).0, (is_pos c).1) (to_z-of_z w64 (pos c.args.a -ℤ pos c.args.b) (fits c))
