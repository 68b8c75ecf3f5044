-- Lists that agree in a record, or in what stands before the records, have the same fields there, and the same check of
-- the header. Assumes nothing.
use mathlib.Core.Path.{◌≡◌}
use mathlib.Core.List.{List}
use Prim.Native.Nat.{ℕ, ◌+◌, ◌-◌, ◌<◌, ◌≤◌}
use native.Mathlib.Omega.{arith}
use Rattle.le_bytes.proofs.Same.{Same, u16_same, u32_same}
use Rattle.book.specs.Layout.{header_size, record_size, chains, records, head_place, head_of, record_at, sex_of}
use Rattle.book.specs.Layout.{class_of, next_of, field_of, link_at}
use Rattle.book.specs.Check.{check_spare, check_percents, check_by_edition, check_header}
use Rattle.book.specs.Rules.{SameButUnlinked}

-- record i has the same bytes in both
abbrev pub SameRecord : List ℕ → List ℕ → ℕ → Type 0
SameRecord b b' i = Same b b' (record_at i) (record_at i + record_size)

module _ (b b' : List ℕ) (i : ℕ) (same : SameRecord b b' i) where
  pub sex_same : sex_of b i ≡ sex_of b' i
  sex_same = same (record_at i + 1) (omega arith) (omega arith)

  pub class_same : class_of b i ≡ class_of b' i
  unfolding class_of
  class_same = same (record_at i + 2) (omega arith) (omega arith)

  pub next_same : next_of b i ≡ next_of b' i
  unfolding next_of
  next_same = u16_same b b' _ _ same (record_at i + 4) (omega arith) (omega arith)

  pub field_of_same : (offset : ℕ) → offset + 4 ≤ record_size → field_of b i offset ≡ field_of b' i offset
  unfolding field_of
  field_of_same offset inside = u32_same b b' _ _ same (record_at i + offset) (omega arith) (omega arith)

-- the header's check reads the first eight bytes, and takes the length as it is given
pub header_same : (b b' : List ℕ) → Same b b' 0 8 → (basis size : ℕ)
    → check_header basis size b ≡ check_header basis size b'
unfolding check_header check_by_edition check_percents check_spare records
header_same b b' same basis size =
    rw (
      same 0 (omega arith) (omega arith),
      same 1 (omega arith) (omega arith),
      u16_same b b' _ _ same 2 (omega arith) (omega arith),
      u16_same b b' _ _ same 4 (omega arith) (omega arith),
      same 6 (omega arith) (omega arith),
      same 7 (omega arith) (omega arith),
      u16_same b b' _ _ same 6 (omega arith) (omega arith),
    )

module _ (b b' : List ℕ) (s : SameButUnlinked b b') where
  pub front_same : Same b b' 0 header_size
  front_same p lo hi = s.front p hi

  pub count_same : records b ≡ records b'
  unfolding records
  count_same = u16_same b b' _ _ front_same 4 (omega arith) (omega arith)

  pub head_same : (k : ℕ) → k < chains → head_of b k ≡ head_of b' k
  unfolding head_of
  head_same k few = u16_same b b' _ _ front_same (head_place k) (omega arith) (omega arith)

  pub record_same : (k j : ℕ) → k < chains → 0 < link_at b k j → SameRecord b b' (link_at b k j)
  record_same k j few l p lo hi =
      let at = record_at (link_at b k j) in
      let place : at + (p - at) ≡ p = omega arith in
      rw place at (s.linked k j (p - at) few l (omega arith))
