-- The trial figures T1 to T12 of the paper, as one proposition on the definitions that the calls meet.
use Rattle.std.specs.Prelude.{◌≡◌, List, ℕ, ◌+◌, ◌<◌, ◌≤◌, length, replicate}
use Rattle.verdict.specs.Verdicts.{refused}
use Rattle.le_bytes.specs.Bytes.{read_u32}
use Rattle.book.specs.Layout.{edition, curve_place, last_class, sex_of, class_of, next_of, field_of, count_offset}
use Rattle.book.specs.Layout.{lapse_offset}
use Rattle.book.specs.Check.{check_book}
use Rattle.settings_decrements.specs.Decrements.{decrements_of}
use Rattle.valuation.specs.Arithmetic.{rounded}
use Rattle.valuation.specs.Steps.{in_force, capped, discounted}
use Rattle.valuation.specs.Portfolio.{mortality_of, divisor_of, row_at, cell_of}

-- record i has one man below class 119, with the same mortality at every class and the same lapse in every year
pub record OneMan (b : List ℕ) (i mortality lapse : ℕ) : Type 0 where
  pub one : field_of b i count_offset ≡ 1
  pub man : sex_of b i ≡ 0
  pub young : class_of b i < 119
  pub ages : class_of b (next_of b i) ≡ class_of b i + 1
  pub dies : (class : ℕ) → class ≤ last_class 1 → mortality_of b 0 class ≡ mortality
  pub leaves : (k : ℕ) → field_of b (row_at b i k) lapse_offset ≡ lapse

-- the contracts in force of record i's cell after k years in a setting, in billionths
abbrev pub in_force_after : List ℕ → ℕ → ℕ → ℕ → ℕ
in_force_after b setting i k = in_force rounded (cell_of b (decrements_of b setting) i) k

pub record TestVectors : Type 0 where
  -- the rates that a book stores for k = 1 and k = 2: -10,000 in two's complement, and 10,000
  pub t1 : (b : List ℕ) → read_u32 b curve_place ≡ 4_294_957_296 → discounted rounded (divisor_of b 1) 1 99 ≡ 100
  pub t2 : (b : List ℕ) → read_u32 b (curve_place + 4) ≡ 10_000 → discounted rounded (divisor_of b 2) 2 100 ≡ 98
  pub t3 : capped rounded 5 1001 900 ≡ 1000
  pub t4 : capped rounded 4 1001 900 ≡ 1001
  pub t5 : capped rounded 5 1000 899 ≡ 998
  pub t6 : (premium : ℕ) → capped rounded 5 premium 0 ≡ 0
  -- with edition 1's 87 percent for men
  pub t7 : (b : List ℕ) (i : ℕ) → edition b ≡ 1 → OneMan b i 1_000_000 0 → in_force_after b 0 i 1 ≡ 130_000_000
  pub t8 : (b : List ℕ) (i : ℕ) → edition b ≡ 1 → OneMan b i 1_000_000 0 → in_force_after b 1 i 1 ≡ 0
  pub t9 : (b : List ℕ) (i : ℕ) → edition b ≡ 1 → OneMan b i 1_000_000 0 → in_force_after b 2 i 1 ≡ 304_000_000
  -- without deaths, in any edition
  pub t10 : (b : List ℕ) (i : ℕ) → OneMan b i 0 333_333 → (in_force_after b 0 i 1 ≡ 666_667_000)
      × (in_force_after b 0 i 2 ≡ 444_444_888)
  -- 1,220 zero bytes, and any 1,219 bytes
  pub t11 : check_book 1 (replicate 1220 0) ≡ refused 2 0
  pub t12 : (b : List ℕ) → length b ≡ 1219 → check_book 1 b ≡ refused 1 1219
