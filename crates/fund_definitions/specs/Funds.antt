-- Two funds on the same tables (W-208): each fund's reply and half, and the caller's numbers afterwards.
use Rattle.std.specs.Prelude.{ℕ, ◌+◌, ◌<◌, ◌≡◌, List, ◌++◌, ℤ, pos, length, get_or, take, drop}
use Rattle.verdict.specs.Verdicts.{refusal_of, count_of}
use Rattle.valuation.specs.Portfolio.{NoRateBelowZero}
use Rattle.valuation.specs.Bounds.{Within}
use Rattle.valuation.specs.CallContracts.{total_distance_of, half_total_distance_of}
use Rattle.valuation.specs.Totals.{exact_total_of}
use Rattle.fund_definitions.specs.Fund.{joined_book, fund_reply, fund_half}
use Rattle.fund_definitions.specs.declared.FundsReply.{FundsReply}

-- both replies
unfoldable pub funds_reply : ℕ → List ℕ → List ℕ → List ℕ → FundsReply
funds_reply numbers table first second = record {
  first = fund_reply numbers table first;
  second = fund_reply numbers table second;
}

-- the halves of the caller's numbers: 0 to 7, and 8 to 15
abbrev pub first_half : List ℤ → List ℤ
first_half numbers = take 8 numbers

abbrev pub second_half : List ℤ → List ℤ
second_half numbers = take 8 (drop 8 numbers)

-- the caller's numbers afterwards: each fund's half, then what stood there
unfoldable pub funds_numbers : List ℕ → List ℕ → List ℕ → List ℤ → List ℤ
funds_numbers table first second before =
    fund_half (length before) table first (first_half before) ++
    fund_half (length before) table second (second_half before) ++
    drop 16 before

-- Neither fund bears on the other: with whatever other file in its place, and the same table file and caller's numbers,
-- the call gives this fund the reply and the half that it gave.
pub record FirstApart (table first : List ℕ) (before after : List ℤ) (reply : FundsReply) (other : List ℕ) : Type
    0 where
  pub reply_alike : reply.first ≡ (funds_reply (length before) table first other).first
  pub half_alike : first_half after ≡ first_half (funds_numbers table first other before)

pub record SecondApart (table second : List ℕ) (before after : List ℤ) (reply : FundsReply) (other : List ℕ) : Type
    0 where
  pub reply_alike : reply.second ≡ (funds_reply (length before) table other second).second
  pub half_alike : second_half after ≡ second_half (funds_numbers table other second before)

-- What the call promises: replies and caller's numbers equal their definitions; neither fund's reply and half depend on
-- the other's file; and, for each fund whose reply has no refusal, demand 3.
pub record FundsContract (table first second : List ℕ) (before after : List ℤ) (reply : FundsReply) : Type 0 where
  pub reply_is : reply ≡ funds_reply (length before) table first second
  pub numbers_are : after ≡ funds_numbers table first second before
  pub first_apart : (other : List ℕ) → FirstApart table first before after reply other
  pub second_apart : (other : List ℕ) → SecondApart table second before after reply other
  -- each total within 500 n + 14,250 centimes of the exact value, n being that of the fund's reply
  pub first_distance : (setting : ℕ) → setting < 8 → refusal_of reply.first ≡ 0
      → Within (total_distance_of (count_of reply.first)) (get_or after setting (pos 0))
      (exact_total_of (joined_book table first) setting)
  pub second_distance : (setting : ℕ) → setting < 8 → refusal_of reply.second ≡ 0
      → Within (total_distance_of (count_of reply.second)) (get_or after (8 + setting) (pos 0))
      (exact_total_of (joined_book table second) setting)
  -- within 250 n + 7,125 where no rate of the curve, which the table file has, is below zero
  pub first_half_distance : NoRateBelowZero (joined_book table first) → (setting : ℕ) → setting < 8
      → refusal_of reply.first ≡ 0
      → Within (half_total_distance_of (count_of reply.first)) (get_or after setting (pos 0))
      (exact_total_of (joined_book table first) setting)
  pub second_half_distance : NoRateBelowZero (joined_book table second) → (setting : ℕ) → setting < 8
      → refusal_of reply.second ≡ 0
      → Within (half_total_distance_of (count_of reply.second)) (get_or after (8 + setting) (pos 0))
      (exact_total_of (joined_book table second) setting)
