-- The year report of a book in a setting: its text in bytes, its refusals, what the two calls answer and promise.
use Rattle.std.specs.Prelude.{List, [], ◌∷◌, ◌++◌, ◌≡◌, ℕ, ◌+◌, ◌≤◌, ltb, length}
use Rattle.verdict.specs.Verdicts.{need, ◌and_then◌, Verdict}
use Rattle.book.specs.Check.{check_book}
use Rattle.settings_decrements.specs.Decrements.{decrements_of}
use Rattle.valuation.specs.Arithmetic.{rounded}
use Rattle.valuation.specs.Steps.{outgo, counted_premium}
use Rattle.valuation.specs.Portfolio.{group_cells, terms_of}
use Rattle.buffer.specs.Text.{joined}
use Rattle.text_reply.specs.Replies.{text_refusal, text_length, length_for, text_reply, text_buffer, TextContract}
use Rattle.text_reply.specs.Replies.{TextReply}
use Rattle.report_lines.specs.Sheet.{sheet_line}

-- `group,year,premium,outgo` and the line's end
abbrev pub heading : List ℕ
heading =
    103 ∷ 114 ∷ 111 ∷ 117 ∷ 112 ∷ 44 ∷
    121 ∷ 101 ∷ 97 ∷ 114 ∷ 44 ∷
    112 ∷ 114 ∷ 101 ∷ 109 ∷ 105 ∷ 117 ∷ 109 ∷ 44 ∷
    111 ∷ 117 ∷ 116 ∷ 103 ∷ 111 ∷ 10 ∷ []

-- the line of year k of product group g: the premium after cap (step 4) and the outgo (step 3) of Group's year table
unfoldable pub year_line : List ℕ → ℕ → ℕ → ℕ → List ℕ
year_line b setting g k =
    sheet_line g k
    (counted_premium rounded (terms_of b setting g) (group_cells b (decrements_of b setting) g) k)
    (outgo rounded (terms_of b setting g) (group_cells b (decrements_of b setting) g) k)

-- the lines of product group j + 1: the years 0 to 49
unfoldable pub group_lines : List ℕ → ℕ → ℕ → List ℕ
group_lines b setting j = joined (year_line b setting (j + 1)) 50

-- the report: the heading, and the lines of product groups 1 to 5
unfoldable pub report_text : List ℕ → ℕ → List ℕ
report_text b setting = heading ++ joined (group_lines b setting) 5

-- the refusals of both calls: 14 setting; then the book's own
unfoldable pub report_check : List ℕ → ℕ → Verdict
report_check b setting = need (ltb setting 8) 14 0 and_then check_book 1 b

-- the buffer wanted, as given: the report's length, to the byte
unfoldable pub report_length : List ℕ → ℕ → ℕ
report_length b setting = length (report_text b setting)

-- What the writing call replies, given a buffer of `capacity` bytes: the report's length, or the first refusal: those
-- of both, and then 20 where the buffer is shorter than given.
abbrev pub report_reply : List ℕ → ℕ → ℕ → TextReply
report_reply b setting capacity = text_reply (report_check b setting) (report_text b setting) capacity

-- what the passed buffer then holds: the report and then what stood there, or, where refused, what stood there
abbrev pub report_buffer : List ℕ → ℕ → List ℕ → List ℕ
report_buffer b setting before = text_buffer (report_check b setting) (report_text b setting) before

-- what the telling call replies: the buffer wanted
unfoldable pub report_length_reply : List ℕ → ℕ → TextReply
report_length_reply b setting = length_for (report_check b setting) (report_length b setting)

-- What the writing call promises: its reply and the buffer equal their definitions, and the bytes written stand in it.
abbrev pub ReportContract : List ℕ → ℕ → List ℕ → List ℕ → TextReply → Type 0
ReportContract b setting before after reply =
    TextContract (report_check b setting) (report_text b setting) before after reply

-- What the telling call promises: the same refusals but 20; the figure given is the report's length, and at most 9,525.
pub record ReportLengthContract (b : List ℕ) (setting : ℕ) (reply : TextReply) : Type 0 where
  pub reply_is : reply ≡ report_length_reply b setting
  pub exact : text_refusal reply ≡ 0 → text_length reply ≡ length (report_text b setting)
  pub most : text_length reply ≤ 9_525
