-- What Group answers, what its year table then holds, and what is promised of both.
use Rattle.std.specs.Prelude.{ℕ, zero, suc, ◌+◌, ◌*◌, ◌<◌, ◌≤◌, ◌≡◌, List, [], ◌∷◌, ◌++◌, leb, ltb, ℤ, pos, length}
use Rattle.std.specs.Prelude.{get_or}
use Rattle.verdict.specs.Verdicts.{Verdict, need, ◌and_then◌}
use Rattle.le_bytes.specs.Fields.{within}
use Rattle.verdict.specs.declared.Refusal.{Refusal}
use Rattle.std.specs.Prelude.{Result, Ok, Err}
use Rattle.text_reply.specs.Replies.{buffer_for}
use Rattle.book.specs.Layout.{last_class}
use Rattle.book.specs.Cells.{held_of_group}
use Rattle.book.specs.Check.{check_book}
use Rattle.settings_decrements.specs.Decrements.{decrements_of}
use Rattle.valuation.specs.Arithmetic.{rounded}
use Rattle.valuation.specs.Steps.{Cell, Terms, SignedFraction, outgo, counted_premium, discounted_outgo}
use Rattle.valuation.specs.Steps.{discounted_premium, liability, exact_liability}
use Rattle.valuation.specs.Portfolio.{NoRateBelowZero, group_cells, terms_of}
use Rattle.valuation.specs.Bounds.{Within}
use Rattle.valuation.specs.CallContracts.{distance_of, half_distance_of}
use Rattle.valuation.specs.declared.Valued.{Valued}

-- 14 setting, 15 product group, 16 a table of under 200 numbers; then the book's own refusals
unfoldable pub group_check : List ℕ → ℕ → ℕ → ℕ → Verdict
group_check b setting g numbers =
    need (ltb setting 8) 14 0 and_then
    need (within 1 5 g) 15 0 and_then
    need (leb 200 numbers) 16 0 and_then
    check_book 1 b

-- the liability of product group g in a setting, and its exact value
unfoldable pub group_liability : List ℕ → ℕ → ℕ → ℤ
group_liability b setting g = liability (terms_of b setting g) (group_cells b (decrements_of b setting) g)

unfoldable pub exact_group_liability : List ℕ → ℕ → ℕ → SignedFraction
exact_group_liability b setting g = exact_liability (terms_of b setting g) (group_cells b (decrements_of b setting) g)

-- liability and n, or the refusal
abbrev pub GroupReply : Type 0
GroupReply = Result Valued Refusal

-- The paper's values of a reply: the refusal's number and its place, 0 and 0 where there is none; liability and n, 0
-- and 0 where refused.
abbrev pub refusal_in : GroupReply → ℕ
refusal_in (Ok v) = 0
refusal_in (Err r) = r.number

abbrev pub place_in : GroupReply → ℕ
place_in (Ok v) = 0
place_in (Err r) = r.place

abbrev pub liability_in : GroupReply → ℤ
liability_in (Ok v) = v.liability
liability_in (Err r) = pos 0

abbrev pub count_in : GroupReply → ℕ
count_in (Ok v) = v.n
count_in (Err r) = 0

-- the reply: liability and n, or the first refusal
abbrev pub reply_of : Verdict → ℤ → ℕ → GroupReply
reply_of (Ok m) l n = Ok (record { liability = l; n = n })
reply_of (Err r) l n = Err r

unfoldable pub group_reply : List ℕ → ℕ → ℕ → ℕ → GroupReply
group_reply b setting g numbers =
    reply_of (group_check b setting g numbers) (group_liability b setting g) (held_of_group b (last_class 1) g)

-- the four numbers of year k: premium after cap, outgo, both discounted
abbrev pub year_numbers : Terms → List Cell → ℕ → List ℕ
year_numbers t cs k =
    counted_premium rounded t cs k ∷ outgo rounded t cs k ∷ discounted_premium rounded t cs k
    ∷ discounted_outgo rounded t
    cs k ∷ []

-- the year table, document 01's term for the cash flows by year: those of the first j years
unfoldable pub year_table : Terms → List Cell → ℕ → List ℕ
year_table t cs zero = []
year_table t cs (suc j) = year_table t cs j ++ year_numbers t cs j

-- those of the fifty years of product group g in a setting
abbrev pub group_years : List ℕ → ℕ → ℕ → List ℕ
group_years b setting g = year_table (terms_of b setting g) (group_cells b (decrements_of b setting) g) 50

-- the caller's table afterwards: the 200 numbers of the fifty years, then what stood there; as it was where refused
unfoldable pub group_table : List ℕ → ℕ → ℕ → List ℕ → List ℕ
group_table b setting g before = buffer_for (group_check b setting g (length before)) (group_years b setting g) before

-- What Group's call promises: its reply and its table equal their definitions; and, where it computes, demand 3.
pub record GroupContract (b : List ℕ) (setting g : ℕ) (before after : List ℕ) (reply : GroupReply) : Type 0 where
  pub reply_is : reply ≡ group_reply b setting g (length before)
  pub table_is : after ≡ group_table b setting g before
  -- within 500 n + 2,850 centimes of the exact value, n and the liability being those of the reply
  pub distance : refusal_in reply ≡ 0
      → Within (distance_of (count_in reply)) (liability_in reply) (exact_group_liability b setting g)
  -- within 250 n + 1,425 where no rate of the curve is below zero
  pub half_distance : NoRateBelowZero b → refusal_in reply ≡ 0
      → Within (half_distance_of (count_in reply)) (liability_in reply) (exact_group_liability b setting g)
  -- from the sixth year on nine times the counted premium of the table is at most ten times its outgo
  pub cap : (k : ℕ) → refusal_in reply ≡ 0 → 5 ≤ k → k < 50
      → 9 * get_or after (4 * k) 0 ≤ 10 * get_or after (4 * k + 1) 0
