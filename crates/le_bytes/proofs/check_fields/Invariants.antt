-- `le_bytes::check_fields` meets its contract. The invariant: what the fields from k on say is what all say. Assumes
-- nothing.
use mathlib.Core.Path.{◌≡◌}
use Prim.Native.Nat.{ℕ, ◌+◌, ◌-◌, ◌*◌}
use Rattle.le_bytes.specs.Fields.{check_field, check_fields}
use Rattle.verdict.specs.Verdicts.{plus, join_all}
use Rattle.le_bytes.proofs.check_fields.Given as goal

abbrev pub invariant-loop-k : goal.invariant-loop-k
invariant-loop-k l =
    check_fields l.b l.number l.lift l.span l.at l.count ≡ plus 0
    (join_all (λ (j : ℕ). check_field l.b l.number l.lift l.span (l.at + 4 * j)) l.k (l.count - l.k))
