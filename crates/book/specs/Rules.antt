-- The rules that a book keeps, one by one and in no order of tests. A book is accepted exactly where it keeps them all
-- (proofs/Exact).
use Rattle.std.specs.Prelude.{ℕ, ◌+◌, ◌*◌, ◌<◌, ◌≤◌, ◌≡◌, List, length}
use Rattle.le_bytes.specs.Bytes.{byte_at, read_u16, read_u32}
use Rattle.le_bytes.specs.Fields.{raised}
use Rattle.book.specs.Layout.{header_size, record_size, most_records, last_class, lowest_class, edition, age_basis}
use Rattle.book.specs.Layout.{sst_year, first_year, last_year, records, spare_bytes, percent_at, most_percent, chains}
use Rattle.book.specs.Layout.{chain_code, chain_sex, head_of, cost_place, curve_place, mortality_place, most_rate}
use Rattle.book.specs.Layout.{curve_lift, curve_span, record_at, code_of, sex_of, class_of, next_of, field_of}
use Rattle.book.specs.Layout.{count_offset, lapse_offset, premium_offset, claims_offset, most_count, most_amount}
use Rattle.book.specs.Layout.{link_at}

pub record HeaderRules (basis : ℕ) (b : List ℕ) : Type 0 where
  pub edition_low : 1 ≤ edition b
  pub edition_high : edition b ≤ 2
  pub basis_is : age_basis b ≡ basis
  pub year_low : first_year ≤ sst_year b
  pub year_high : sst_year b ≤ last_year
  pub few : records b ≤ most_records
  -- bytes 6 and 7: zero in edition 1, the percentages of men and women in edition 2
  pub spare : edition b ≡ 1 → spare_bytes b ≡ 0
  pub percent_low : edition b ≡ 2 → (sex : ℕ) → sex ≤ 1 → 1 ≤ percent_at b sex
  pub percent_high : edition b ≡ 2 → (sex : ℕ) → sex ≤ 1 → percent_at b sex ≤ most_percent
  pub size : length b ≡ header_size + record_size * records b

pub record TableRules (b : List ℕ) : Type 0 where
  pub cost : (j : ℕ) → j < 5 → read_u32 b (cost_place + 4 * j) ≤ most_rate
  pub curve : (j : ℕ) → j < 49 → raised curve_lift (read_u32 b (curve_place + 4 * j)) ≤ curve_span
  pub mortality : (j : ℕ) → j < 242 → read_u32 b (mortality_place + 4 * j) ≤ most_rate

-- what holds of record i where it is linked in chain k
pub record RecordRules (b : List ℕ) (last k i : ℕ) : Type 0 where
  pub first : 0 < i
  pub inside : i ≤ records b
  pub code : code_of b i ≡ chain_code k
  pub sex : sex_of b i ≡ chain_sex k
  pub spare : byte_at b (record_at i + 3) ≡ 0
  pub spare_two : read_u16 b (record_at i + 6) ≡ 0
  pub class_low : lowest_class last ≤ class_of b i
  pub class_high : class_of b i ≤ last
  pub count : field_of b i count_offset ≤ most_count
  pub lapse : field_of b i lapse_offset ≤ most_rate
  pub premium : field_of b i premium_offset ≤ most_amount
  pub claims : field_of b i claims_offset ≤ most_amount
  -- the chain ends at the last class, and nowhere else
  pub ends : class_of b i ≡ last → next_of b i ≡ 0
  pub goes_on : next_of b i ≡ 0 → class_of b i ≡ last

-- each linked record keeps its rules, and its class is one more for each step from the first
pub record ChainRules (b : List ℕ) (last k : ℕ) : Type 0 where
  pub linked : (j : ℕ) → 0 < link_at b k j → RecordRules b last k (link_at b k j)
  pub rising : (j : ℕ) → 0 < link_at b k j → class_of b (link_at b k j) ≡ class_of b (head_of b k) + j

pub record Rules (basis : ℕ) (b : List ℕ) : Type 0 where
  pub header : HeaderRules basis b
  pub tables : TableRules b
  pub chain : (k : ℕ) → k < chains → ChainRules b (last_class basis) k

-- two lists of bytes that differ at most in records that no chain of the first links
pub record SameButUnlinked (b b' : List ℕ) : Type 0 where
  pub size : length b ≡ length b'
  pub front : (p : ℕ) → p < header_size → byte_at b p ≡ byte_at b' p
  pub linked : (k j p : ℕ) → k < chains → 0 < link_at b k j → p < record_size
      → byte_at b (record_at (link_at b k j) + p) ≡ byte_at b' (record_at (link_at b k j) + p)
