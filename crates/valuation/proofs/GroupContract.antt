-- What Group promises holds of its reply and table as defined: both distances, and the cap. Assumes nothing.
use mathlib.Core.Path.{◌≡◌, refl, sym, subst}
use mathlib.Core.Logic.{⊎_elim}
use mathlib.Core.List.{List, ◌++◌, append_assoc}
use Prim.Native.Nat.{ℕ, zero, suc, ◌+◌, ◌*◌, ◌<◌, ◌≤◌}
use native.Mathlib.Nat.{add-zero, eq-or-lt_of_le}
use native.Mathlib.Omega.{arith}
use borrow.Author.Tests.{le-leb}
use lib.IntN.{ℤ}
use lib.ListN.{length, get_or, length-append, get_or-append}
use lib.Seq.{get_or-append-add}
use Rattle.verdict.specs.Verdicts.{count_of, Verdict}
use Rattle.std.specs.Prelude.{Ok, Err}
use Rattle.verdict.proofs.Verdicts.{ZeroAccepts, zero_accepts_need, zero_accepts_then}
use Rattle.book.specs.Layout.{last_class}
use Rattle.book.specs.Cells.{held_of_group}
use Rattle.book.specs.Reading.{ValidBook}
use Rattle.book.proofs.Numbers.{zero_accepted}
use Rattle.settings_decrements.specs.Decrements.{decrements_of}
use Rattle.valuation.specs.Arithmetic.{rounded}
use Rattle.valuation.specs.Steps.{Cell, Terms, outgo, capped_if, capped, counted_premium}
use Rattle.valuation.specs.Portfolio.{divisor_of, NoRateBelowZero, group_cells, terms_of}
use Rattle.valuation.specs.Bounds.{Within}
use Rattle.valuation.specs.CallContracts.{GroupPromise, each_cell, each_group, distance_of, half_cell, half_group}
use Rattle.valuation.specs.CallContracts.{half_distance_of}
use Rattle.valuation.specs.Replies.{group_check, group_liability, exact_group_liability, refusal_in, reply_of}
use Rattle.valuation.specs.Replies.{group_reply, year_numbers, year_table, group_table, GroupContract, GroupReply}
use Rattle.valuation.proofs.Distance.{distance, half_distance}
use Rattle.valuation.proofs.Members.{held_group}
use Rattle.valuation.proofs.Accepted.{group_range, group_valid, divisor_low, divisor_ordinary, good_terms}
use Rattle.valuation.proofs.Accepted.{good_cells}

module _ (t : Terms) (cs : List Cell) where
  pub cap_holds : (k : ℕ) → 5 ≤ k → 9 * counted_premium rounded t cs k ≤ 10 * outgo rounded t cs k
  unfolding counted_premium capped capped_if
  cap_holds k late = rw (le-leb _ _ late) (omega arith)

  pub length_years : (j : ℕ) → length (year_table t cs j) ≡ 4 * j
  unfolding year_table
  length_years zero = refl
  length_years (suc j) = rw length-append (omega (arith, length_years j))

  -- the four numbers of year k stand from place 4 k on, whatever follows the years
  pub year_at : (j k p : ℕ) (rest : List ℕ) → k < j → p < 4
      → get_or (year_table t cs j ++ rest) (4 * k + p) 0 ≡ get_or (year_numbers t cs k) p 0
  unfolding year_table
  year_at zero k p rest year four = absurd (omega arith)
  year_at (suc j) k p rest year four =
      rw (append_assoc (year_table t cs j) (year_numbers t cs j) rest)
      (⊎_elim
      (λ (same : k ≡ j). subst
      (λ (y : ℕ). get_or (year_table t cs j ++ later) (4 * y + p) 0 ≡ get_or (year_numbers t cs y) p 0) (sym same) here)
      (λ (early : k < j). year_at j k p later early four)
      (eq-or-lt_of_le (omega arith)))
    where
      later : List ℕ
      later = year_numbers t cs j ++ rest

      here : get_or (year_table t cs j ++ later) (4 * j + p) 0 ≡ get_or (year_numbers t cs j) p 0
      here =
          let place : 4 * j + p ≡ length (year_table t cs j) + p = omega (arith, length_years j) in
          rw (place, get_or-append-add) (get_or-append (year_numbers t cs j) rest 0 p four)

  pub premium_column_at : (j k : ℕ) (rest : List ℕ) → k < j
      → get_or (year_table t cs j ++ rest) (4 * k) 0 ≡ counted_premium rounded t cs k
  premium_column_at j k rest year = rw (add-zero (4 * k)) at (year_at j k 0 rest year (omega arith))

  pub outgo_column_at : (j k : ℕ) (rest : List ℕ) → k < j
      → get_or (year_table t cs j ++ rest) (4 * k + 1) 0 ≡ outgo rounded t cs k
  outgo_column_at j k rest year = year_at j k 1 rest year (omega arith)

-- refusal 0 is acceptance, of Group too
zero_accepts_reply : (v : Verdict) (l : ℤ) (n : ℕ) → ZeroAccepts v → refusal_in (reply_of v l n) ≡ 0
    → v ≡ Ok (count_of v)
unfolding ZeroAccepts
zero_accepts_reply (Ok m) l n told e = refl
zero_accepts_reply (Err r) l n told e = told e

module _ (b : List ℕ) (setting g numbers : ℕ) where
  group_told : ZeroAccepts (group_check b setting g numbers)
  unfolding ZeroAccepts group_check
  group_told = zero_accepts_then _ _
      (zero_accepts_then _ _ (zero_accepts_then _ _ (zero_accepts_need _ 13 0) (zero_accepts_need _ 14 0))
      (zero_accepts_need _ 15 0)) (zero_accepted 1 b)

  accepts : refusal_in (group_reply b setting g numbers) ≡ 0
      → group_check b setting g numbers ≡ Ok (count_of (group_check b setting g numbers))
  unfolding group_reply
  accepts = zero_accepts_reply (group_check b setting g numbers) (group_liability b setting g)
      (held_of_group b (last_class 1) g) group_told

-- of an accepted book
module _ (b : List ℕ) (setting g : ℕ) (v : ValidBook 1 b) (range : (1 ≤ g) × (g ≤ 5)) where
  -- what is promised where no divisor is below D
  group_within : (D each flat : ℕ) → GroupPromise D each flat → ((k : ℕ) → k < 50 → D ≤ divisor_of b k)
      → Within (each * held_of_group b (last_class 1) g + flat) (group_liability b setting g)
      (exact_group_liability b setting g)
  unfolding group_liability exact_group_liability
  group_within D each flat promise least =
      let w = decrements_of b setting in
      rw (held_group b w g) at
      (promise (terms_of b setting g) (good_terms D b setting g v range.0 range.1 least) (group_cells b w g)
      (good_cells b w g v range.0 range.1))

  pub group_distance : Within (distance_of (held_of_group b (last_class 1) g)) (group_liability b setting g)
      (exact_group_liability b setting g)
  group_distance = group_within 990_000 each_cell each_group distance (divisor_low b v)

  pub group_half_distance : NoRateBelowZero b
      → Within (half_distance_of (held_of_group b (last_class 1) g)) (group_liability b setting g)
      (exact_group_liability b setting g)
  group_half_distance ordinary = group_within 1_000_000 half_cell half_group half_distance
      (divisor_ordinary b v ordinary)

-- where Group accepts
module _ (b : List ℕ) (setting g : ℕ) (before : List ℕ) (n : ℕ)
    (e : group_check b setting g (length before) ≡ Ok n) where
  accepted_distance : Within (distance_of (held_of_group b (last_class 1) g)) (group_liability b setting g)
      (exact_group_liability b setting g)
  accepted_distance =
      group_distance b setting g (group_valid b setting g (length before) n e)
      (group_range b setting g (length before) n e)

  accepted_half_distance : NoRateBelowZero b
      → Within (half_distance_of (held_of_group b (last_class 1) g)) (group_liability b setting g)
      (exact_group_liability b setting g)
  accepted_half_distance =
      group_half_distance b setting g (group_valid b setting g (length before) n e)
      (group_range b setting g (length before) n e)

  group_cap : (k : ℕ) → 5 ≤ k → k < 50
      → 9 * get_or (group_table b setting g before) (4 * k) 0 ≤ 10 * get_or (group_table b setting g before) (4 * k + 1)
      0
  unfolding group_table
  group_cap k late year =
      let t = terms_of b setting g in
      let cs = group_cells b (decrements_of b setting) g in
      let premium : get_or (group_table b setting g before) (4 * k) 0 ≡ counted_premium rounded t cs k =
      rw e (premium_column_at t cs 50 k _ year) in
      let paid : get_or (group_table b setting g before) (4 * k + 1) 0 ≡ outgo rounded t cs k =
      rw e (outgo_column_at t cs 50 k _ year) in
      rw (premium, paid) (cap_holds t cs k late)

pub promised : (b : List ℕ) (setting g : ℕ) (before after : List ℕ) (reply : GroupReply)
    → reply ≡ group_reply b setting g (length before) → after ≡ group_table b setting g before
    → GroupContract b setting g before after reply
unfolding group_reply
promised b setting g before after reply reply_is table_is = record {
  reply_is = reply_is;
  table_is = table_is;
  distance = λ none. let e =
      accepts b setting g (length before) (rw reply_is at none) in rw (reply_is, e)
      (accepted_distance b setting g before _ e);
  half_distance = λ ordinary none.
      let e = accepts b setting g (length before) (rw reply_is at none) in
      rw (reply_is, e) (accepted_half_distance b setting g before _ e ordinary);
  cap = λ k none late year. rw table_is
      (group_cap b setting g before _ (accepts b setting g (length before) (rw reply_is at none)) k late year);
}
