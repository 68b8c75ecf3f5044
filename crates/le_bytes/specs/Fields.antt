-- Fields with a range, and the refusal of the first that is out of it.
use Rattle.std.specs.Prelude.{ℕ, zero, suc, ◌+◌, ◌*◌, ◌%◌, List, Bool, false, cond, leb}
use Rattle.le_bytes.specs.Bytes.{read_u32}
use Rattle.verdict.specs.Verdicts.{need, join_all, Verdict}

-- from low to high, both allowed
unfoldable pub within : ℕ → ℕ → ℕ → Bool
within low high x = cond (leb low x) (leb x high) false

-- A stored number of 32 bits raised by lift, in 32 bits. In two's complement this is how far the number stands above
-- -lift.
abbrev pub raised : ℕ → ℕ → ℕ
raised zero u = u
raised (suc lift) u = (u + suc lift) % 4294967296

-- the number stored is from -lift to span - lift
abbrev pub in_range : ℕ → ℕ → ℕ → Bool
in_range lift span u = leb (raised lift u) span

-- the four-byte field at a place: refused with the number given where it is out of its range
unfoldable pub check_field : List ℕ → ℕ → ℕ → ℕ → ℕ → Verdict
check_field b number lift span at = need (in_range lift span (read_u32 b at)) number at

-- a run of four-byte fields from a place on: the first that is out of its range
unfoldable pub check_fields : List ℕ → ℕ → ℕ → ℕ → ℕ → ℕ → Verdict
check_fields b number lift span at count = join_all (λ (k : ℕ). check_field b number lift span (at + 4 * k)) 0 count
