-- One cell on the screen: what is in force of the linked record of a subgroup code, sex and class in the fifty years.
use Rattle.std.specs.Prelude.{ℕ, ◌≡◌, not, List, eqb, length}
use Rattle.lists.specs.Each.{each}
use Rattle.verdict.specs.Verdicts.{need, ◌and_then◌, refusal_of, Verdict}
use Rattle.text_reply.specs.Replies.{buffer_for}
use Rattle.book.specs.Check.{check_book}
use Rattle.settings_decrements.specs.Decrements.{decrements_of}
use Rattle.valuation.specs.Arithmetic.{rounded}
use Rattle.valuation.specs.Steps.{in_force}
use Rattle.valuation.specs.Portfolio.{cell_of}
use Rattle.in_force_request.specs.Request.{record_at_class, asked_check, OnlyOne}

-- what the caller alone decides, then the book's own refusals, then 26 where the chain has no record of that class
unfoldable pub in_force_check : List ℕ → ℕ → ℕ → ℕ → ℕ → ℕ → Verdict
in_force_check b setting code sex class numbers =
    asked_check setting code sex numbers and_then
    check_book 1 b and_then
    need (not (eqb (record_at_class b code sex class) 0)) 26 0

-- step 1 for the cell of record i in a setting, in billionths of a contract: k = 0 to 49
unfoldable pub in_force_run : List ℕ → ℕ → ℕ → List ℕ
in_force_run b setting i = each (in_force rounded (cell_of b (decrements_of b setting) i)) 50

-- the caller's numbers afterwards: those of the fifty years, then what stood there; as they were where refused
unfoldable pub in_force_numbers : List ℕ → ℕ → ℕ → ℕ → ℕ → List ℕ → List ℕ
in_force_numbers b setting code sex class before =
    buffer_for (in_force_check b setting code sex class (length before))
    (in_force_run b setting (record_at_class b code sex class)) before

-- What the call promises: its reply and the caller's numbers equal their definitions; and, where the reply has no
-- refusal, the record is the one and only that was asked for.
pub record InForceContract (b : List ℕ) (setting code sex class : ℕ) (before after : List ℕ)
    (reply : Verdict) : Type 0 where
  pub reply_is : reply ≡ in_force_check b setting code sex class (length before)
  pub numbers_are : after ≡ in_force_numbers b setting code sex class before
  pub record_is : refusal_of reply ≡ 0 → OnlyOne b code sex class (record_at_class b code sex class)
