-- What is promised of both funds follows from the equations: an accepted fund's numbers and n are those of Totals on
-- its joined book, and keep what Totals promises. Assumes nothing.
use mathlib.Core.Path.{◌≡◌, refl, sym, ap, ◌∙◌}
use mathlib.Core.List.{List}
use Prim.Native.Nat.{ℕ, ◌+◌, ◌<◌, ◌≤◌}
use lib.IntN.{ℤ, pos}
use lib.ListN.{length, get_or}
use Rattle.verdict.specs.Verdicts.{refusal_of, count_of}
use Rattle.std.specs.Prelude.{Ok}
use Rattle.verdict.proofs.Verdicts.{then_left, then_right, ZeroAccepts}
use Rattle.valuation.specs.Portfolio.{NoRateBelowZero}
use Rattle.valuation.specs.Bounds.{Within}
use Rattle.valuation.specs.CallContracts.{total_distance_of, half_total_distance_of}
use Rattle.valuation.specs.Totals.{exact_total_of, totals_reply}
use Rattle.valuation.proofs.Total.{totals_promised}
use Rattle.fund_definitions.specs.Fund.{joined_book, fund_reply, fund_half}
use Rattle.fund_definitions.specs.Funds.{funds_reply, first_half, second_half, funds_numbers}
use Rattle.fund_definitions.specs.Funds.{FundsContract}
use Rattle.fund_definitions.specs.declared.FundsReply.{FundsReply}
use Rattle.fund_definitions.proofs.Joined.{arguments_good, zero_accepts_accepted, fund_told}
use Rattle.fund_definitions.proofs.Halves.{half_totals, first_number, second_number, first_apart, second_apart}

-- an accepted fund
module _ (numbers : ℕ) (table fund : List ℕ) (n : ℕ) (accepted : fund_reply numbers table fund ≡ Ok n) where
  accepted_capacity : 16 ≤ numbers
  unfolding fund_reply
  accepted_capacity = (arguments_good numbers table _ (then_left _ _ _ (then_left _ _ _ accepted))).0

  -- demand 3: Totals' promise of the joined book, at the numbers of the half; `far` is either distance
  at_half : (far : ℕ → ℕ) (half : List ℤ) (setting : ℕ)
      → ((totals_reply (joined_book table fund)).refusal ≡ 0
      → Within (far (totals_reply (joined_book table fund)).n)
      (get_or (totals_reply (joined_book table fund)).totals setting (pos 0))
      (exact_total_of (joined_book table fund) setting))
      → Within (far n) (get_or (fund_half numbers table fund half) setting (pos 0))
      (exact_total_of (joined_book table fund) setting)
  unfolding fund_reply
  at_half far half setting promise =
      let told = zero_accepts_accepted (totals_reply (joined_book table fund)) n (then_right _ _ _ accepted) in
      rw (half_totals numbers table fund n half accepted, ← told.1) (promise told.0)

  fund_distance : (half : List ℤ) (setting : ℕ) → setting < 8
      → Within (total_distance_of n) (get_or (fund_half numbers table fund half) setting (pos 0))
      (exact_total_of (joined_book table fund) setting)
  fund_distance half setting few =
      let b = joined_book table fund in
      at_half total_distance_of half setting ((totals_promised b (totals_reply b) refl).distance setting few)

  fund_half_distance : NoRateBelowZero (joined_book table fund) → (half : List ℤ) (setting : ℕ) → setting < 8
      → Within (half_total_distance_of n) (get_or (fund_half numbers table fund half) setting (pos 0))
      (exact_total_of (joined_book table fund) setting)
  fund_half_distance ordinary half setting few =
      let b = joined_book table fund in
      at_half half_total_distance_of half setting
      ((totals_promised b (totals_reply b) refl).half_distance ordinary setting few)

module _ (table first second : List ℕ) (before after : List ℤ) (reply : FundsReply)
    (reply_is : reply ≡ funds_reply (length before) table first second)
    (numbers_are : after ≡ funds_numbers table first second before) where
  -- an accepted fund's numbers stand in its half
  module _ (setting : ℕ) (few : setting < 8) where
    first_accepted : refusal_of reply.first ≡ 0
        → fund_reply (length before) table first ≡ Ok (count_of reply.first)
    unfolding ZeroAccepts funds_reply
    first_accepted none = rw reply_is (fund_told (length before) table first (rw reply_is at none))

    second_accepted : refusal_of reply.second ≡ 0
        → fund_reply (length before) table second ≡ Ok (count_of reply.second)
    unfolding ZeroAccepts funds_reply
    second_accepted none = rw reply_is (fund_told (length before) table second (rw reply_is at none))

    first_stands : refusal_of reply.first ≡ 0
        → get_or after setting (pos 0)
        ≡ get_or (fund_half (length before) table first (first_half before)) setting (pos 0)
    first_stands none =
        let capacity = accepted_capacity (length before) table first _ (first_accepted none) in
        rw numbers_are (first_number table before first second capacity setting few)

    second_stands : refusal_of reply.second ≡ 0
        → get_or after (8 + setting) (pos 0)
        ≡ get_or (fund_half (length before) table second (second_half before)) setting
        (pos 0)
    second_stands none =
        let capacity = accepted_capacity (length before) table second _ (second_accepted none) in
        rw numbers_are (second_number table before first second capacity setting few)

  pub funds_promised : FundsContract table first second before after reply
  funds_promised = record {
    reply_is = reply_is;
    numbers_are = numbers_are;
    first_apart = λ other. rw (reply_is, numbers_are) (first_apart table before first second other);
    second_apart = λ other. rw (reply_is, numbers_are) (second_apart table before first second other);
    first_distance = λ setting few none.
        rw (first_stands setting few none)
        (fund_distance (length before) table first _ (first_accepted setting few none) (first_half before) setting
        few);
    second_distance = λ setting few none.
        rw (second_stands setting few none)
        (fund_distance (length before) table second _ (second_accepted setting few none) (second_half before) setting
        few);
    first_half_distance = λ ordinary setting few none.
        rw (first_stands setting few none)
        (fund_half_distance (length before) table first _ (first_accepted setting few none) ordinary
        (first_half before) setting few);
    second_half_distance = λ ordinary setting few none.
        rw (second_stands setting few none)
        (fund_half_distance (length before) table second _ (second_accepted setting few none) ordinary
        (second_half before) setting few);
  }

-- Change anything in one fund's file: of two calls with the same table file and the same caller's numbers, which differ
-- in the other fund's file alone, this fund's replies and halves are alike.
pub first_alike : (table first second second' : List ℕ) (before after after' : List ℤ) (reply reply' : FundsReply)
    → FundsContract table first second before after reply → FundsContract table first second' before after' reply'
    → (reply.first ≡ reply'.first) × (first_half after ≡ first_half after')
first_alike table first second second' before after after' reply reply' p p' =
    let apart = p.first_apart second' in (
      apart.reply_alike ∙ sym (ap (λ (r : FundsReply). r.first) p'.reply_is),
      apart.half_alike ∙ sym
          (ap first_half p'.numbers_are),
    )

pub second_alike : (table first first' second : List ℕ) (before after after' : List ℤ) (reply reply' : FundsReply)
    → FundsContract table first second before after reply → FundsContract table first' second before after' reply'
    → (reply.second ≡ reply'.second) × (second_half after ≡ second_half after')
second_alike table first first' second before after after' reply reply' p p' =
    let apart = p.second_apart first' in (
      apart.reply_alike ∙ sym (ap (λ (r : FundsReply). r.second) p'.reply_is),
      apart.half_alike ∙ sym
          (ap second_half p'.numbers_are),
    )
