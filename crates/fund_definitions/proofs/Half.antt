-- Laws of one fund's half: refused it changes nothing, accepted its totals stand in it. Assumes nothing.
use mathlib.Core.Path.{◌≡◌, refl, sym}
use mathlib.Core.List.{List, ◌++◌}
use Prim.Native.Nat.{ℕ, ◌+◌}
use lib.IntN.{ℤ}
use lib.ListN.{length, take, drop, take-append-drop}
use lib.Seq.{take-add}
use Rattle.verdict.specs.Verdicts.{Verdict}
use Rattle.std.specs.Prelude.{Ok, Err}
use Rattle.valuation.specs.Totals.{totals_reply}
use Rattle.fund_definitions.specs.Fund.{joined_book, fund_reply, half_for, fund_half}
use Rattle.fund_definitions.specs.Valued.{FundValued}

-- eight numbers in the middle of a list, put back
pub put_back : (at : ℕ) (l : List ℤ) → take at l ++ take 8 (drop at l) ++ drop (at + 8) l ≡ l
put_back at l = rw (← take-add at 8 l) (take-append-drop (at + 8) l)

module _ (table fund : List ℕ) (at : ℕ) (before : List ℤ) where
  pub fund_refused : (reply : Verdict) → reply ≡ fund_reply (length before) table fund
      → ((n : ℕ) → reply ≡ Ok n → ⊥) → FundValued table fund at before before reply
  unfolding fund_half
  fund_refused reply reply_is never =
      record { reply_is = reply_is; numbers_are = sym (rw (← reply_is) (by reply never)) }
    where
      by : (v : Verdict) → ((n : ℕ) → v ≡ Ok n → ⊥)
          → take at before ++ half_for v (totals_reply (joined_book table fund)).totals (take 8 (drop at before))
          ++ drop
          (at + 8) before
          ≡ before
      by (Ok n) never = absurd (never n refl)
      by (Err r) never = put_back at before

  pub fund_accepted : (n : ℕ) (after : List ℤ) → Ok n ≡ fund_reply (length before) table fund
      → after ≡ take at before ++ (totals_reply (joined_book table fund)).totals ++ drop (at + 8) before
      → FundValued table fund at before after (Ok n)
  unfolding fund_half
  fund_accepted n after reply_is numbers_are = record { reply_is = reply_is; numbers_are = rw (← reply_is) numbers_are }
