-- What the internal readers of a book ask of their callers. No call that others make has such a condition.
use Rattle.std.specs.Prelude.{ℕ, zero, suc, ◌+◌, ◌-◌, ◌*◌, ◌<◌, ◌≤◌, ◌≡◌, List, length}
use Rattle.book.specs.Layout.{header_size, record_size, most_records, last_class, records, chains, head_of, class_of}
use Rattle.book.specs.Layout.{next_of}
use Rattle.book.specs.Rules.{HeaderRules, TableRules, RecordRules}

-- record i lies in the list
abbrev pub Inside : List ℕ → ℕ → Type 0
Inside b i = (0 < i) × (header_size + record_size * i ≤ length b)

-- the list has just the records that its header names
pub record Sized (b : List ℕ) : Type 0 where
  pub size : length b ≡ header_size + record_size * records b
  pub few : records b ≤ most_records

-- chain k from record i on: left + 1 linked records of rising class, up to the last
unfoldable pub ChainFrom : List ℕ → ℕ → ℕ → ℕ → ℕ → Type 0
ChainFrom b last k zero i = RecordRules b last k i × (class_of b i ≡ last)
ChainFrom b last k (suc left) i =
    RecordRules b last k i × (class_of b i ≡ last - suc left) × ChainFrom b last k left (next_of b i)

-- linked record i of chain k, with the rest of its chain behind it
abbrev pub Standing : List ℕ → ℕ → ℕ → ℕ → Type 0
Standing b last k i = RecordRules b last k i × ChainFrom b last k (last - class_of b i) i

-- an accepted book, as a reader that follows its chains takes it
pub record ValidBook (basis : ℕ) (b : List ℕ) : Type 0 where
  pub header : HeaderRules basis b
  pub tables : TableRules b
  pub chain : (k : ℕ) → k < chains → (head_of b k ≡ 0 → ⊥)
      → ChainFrom b (last_class basis) k (last_class basis - class_of b (head_of b k)) (head_of b k)
