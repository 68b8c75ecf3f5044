-- What Totals answers: the eight totals, n over all groups and four differences. And what is promised of a total.
use Rattle.std.specs.Prelude.{ℕ, zero, suc, ◌+◌, ◌*◌, ◌<◌, ◌≡◌, List, [], ◌∷◌, ℤ, pos, ◌+ℤ◌, ◌-ℤ◌, ◌*ℤ◌, get_or}
use Rattle.lists.specs.Sums.{sum_by, signed_sum_below}
use Rattle.verdict.specs.Verdicts.{Verdict}
use Rattle.std.specs.Prelude.{Ok, Err}
use Rattle.book.specs.Layout.{last_class}
use Rattle.book.specs.Cells.{held_in_all}
use Rattle.book.specs.Check.{check_book}
use Rattle.valuation.specs.Steps.{SignedFraction}
use Rattle.valuation.specs.Portfolio.{NoRateBelowZero}
use Rattle.valuation.specs.Bounds.{Within}
use Rattle.valuation.specs.CallContracts.{total_distance_of, half_total_distance_of}
use Rattle.valuation.specs.Replies.{group_liability, exact_group_liability}
use Rattle.valuation.specs.declared.TotalsReply.{TotalsReply}

-- the liabilities of product groups 1 to n, added
abbrev pub total_of_groups : List ℕ → ℕ → ℕ → ℤ
total_of_groups b setting n = signed_sum_below (λ j. group_liability b setting (1 + j)) n

-- the total of a setting: the five groups' liabilities added
unfoldable pub total_of : List ℕ → ℕ → ℤ
total_of b setting = total_of_groups b setting 5

-- exact values added: two, and what f gives for the indexes below n
abbrev pub plus_signed : SignedFraction → SignedFraction → SignedFraction
plus_signed x y = record { over = x.over *ℤ pos y.under +ℤ y.over *ℤ pos x.under; under = x.under * y.under }

abbrev pub exact_sum_below : (ℕ → SignedFraction) → ℕ → SignedFraction
exact_sum_below f n = sum_by (record { over = pos 0; under = 1 }) plus_signed f n

-- the total's exact value: the five exact values added
unfoldable pub exact_total_of : List ℕ → ℕ → SignedFraction
exact_total_of b setting = exact_sum_below (λ j. exact_group_liability b setting (1 + j)) 5

-- the eight totals, setting 0 first
abbrev pub totals_of : List ℕ → List ℤ
totals_of b =
    total_of b 0 ∷ total_of b 1 ∷ total_of b 2 ∷ total_of b 3 ∷ total_of b 4 ∷ total_of b 5 ∷ total_of b 6
    ∷ total_of b 7 ∷ []

-- the four differences: mortality, lapse, costs up less down, and claims less base
abbrev pub differences_of : List ℕ → List ℤ
differences_of b =
    (total_of b 1 -ℤ total_of b 2) ∷ (total_of b 3 -ℤ total_of b 4) ∷ (total_of b 5 -ℤ total_of b 6) ∷
    (total_of b 7 -ℤ total_of b 0) ∷ []

-- so many zeros
abbrev pub nothing : ℕ → List ℤ
nothing zero = []
nothing (suc j) = pos 0 ∷ nothing j

-- the reply: n over all groups, totals and differences; or the refusal, and 0 in every other field
abbrev pub totals_for : Verdict → ℕ → List ℤ → List ℤ → TotalsReply
totals_for (Ok m) n ts ds = record { refusal = 0; place = 0; n = n; totals = ts; differences = ds }
totals_for (Err r) n ts ds =
    record { refusal = r.number; place = r.place; n = 0; totals = nothing 8; differences = nothing 4 }

unfoldable pub totals_reply : List ℕ → TotalsReply
totals_reply b = totals_for (check_book 1 b) (held_in_all b (last_class 1)) (totals_of b) (differences_of b)

-- What Totals' call promises: its reply equals its definition; and, where it computes, demand 3 for each total.
pub record TotalsContract (b : List ℕ) (reply : TotalsReply) : Type 0 where
  pub reply_is : reply ≡ totals_reply b
  -- within 500 n + 14,250 centimes of the exact value, n and the total being those of the reply
  pub distance : (setting : ℕ) → setting < 8 → reply.refusal ≡ 0
      → Within (total_distance_of reply.n) (get_or reply.totals setting (pos 0)) (exact_total_of b setting)
  -- within 250 n + 7,125 where no rate of the curve is below zero
  pub half_distance : NoRateBelowZero b → (setting : ℕ) → setting < 8 → reply.refusal ≡ 0
      → Within (half_total_distance_of reply.n) (get_or reply.totals setting (pos 0)) (exact_total_of b setting)
