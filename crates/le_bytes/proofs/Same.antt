-- Two lists of bytes that agree where a check reads give the same verdict. Assumes nothing.
use mathlib.Core.Path.{◌≡◌}
use mathlib.Core.List.{List}
use Prim.Native.Nat.{ℕ, ◌+◌, ◌*◌, ◌<◌, ◌≤◌}
use native.Mathlib.Omega.{arith}
use Rattle.le_bytes.specs.Bytes.{byte_at, read_u16, read_u32}
use Rattle.le_bytes.specs.Fields.{check_field, check_fields}
use Rattle.verdict.proofs.Verdicts.{all_same}

-- the same bytes from low up to high
abbrev pub Same : List ℕ → List ℕ → ℕ → ℕ → Type 0
Same b b' low high = (p : ℕ) → low ≤ p → p < high → byte_at b p ≡ byte_at b' p

module _ (b b' : List ℕ) (low high : ℕ) (same : Same b b' low high) where
  pub u16_same : (at : ℕ) → low ≤ at → at + 2 ≤ high → read_u16 b at ≡ read_u16 b' at
  unfolding read_u16
  u16_same at lo hi = rw (same at lo (omega arith), same (at + 1) (omega arith) (omega arith))

  pub u32_same : (at : ℕ) → low ≤ at → at + 4 ≤ high → read_u32 b at ≡ read_u32 b' at
  unfolding read_u32
  u32_same at lo hi = rw (u16_same at lo (omega arith), u16_same (at + 2) (omega arith) (omega arith))

  pub field_same : (number lift span at : ℕ) → low ≤ at → at + 4 ≤ high
      → check_field b number lift span at ≡ check_field b' number lift span at
  unfolding check_field
  field_same number lift span at lo hi = rw (u32_same at lo hi)

  pub fields_same : (number lift span at count : ℕ) → low ≤ at → at + 4 * count ≤ high
      → check_fields b number lift span at count ≡ check_fields b' number lift span at count
  unfolding check_fields
  fields_same number lift span at count lo hi =
      all_same _ _ count 0 (λ j l h. field_same number lift span (at + 4 * j) (omega arith) (omega arith))
