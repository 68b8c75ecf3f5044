-- One fund on the tables of a table file (W-208): the book that a fund file and the table file make together, the
-- fund's reply and half. What is said of a joined book is what Totals says of it.
use Rattle.std.specs.Prelude.{cond, ℕ, ◌-◌, List, ◌++◌, leb, eqb, ℤ, length, take, drop, Ok, Err}
use Rattle.verdict.specs.Verdicts.{need, ◌and_then◌, Verdict, refused}
use Rattle.book.specs.Layout.{header_size, curve_place}
use Rattle.valuation.specs.Totals.{totals_reply}
use Rattle.valuation.specs.declared.TotalsReply.{TotalsReply}

-- sizes: what a fund file has before its records, bytes 0 to 55 of a book; and the table file, bytes 56 to 1,219
abbrev pub front_size : ℕ
front_size = curve_place

abbrev pub table_size : ℕ
table_size = header_size - curve_place

-- a fund's joined book: the first 56 bytes of its file, the table file, the rest of its file
unfoldable pub joined_book : List ℕ → List ℕ → List ℕ
joined_book table fund = take front_size fund ++ table ++ drop front_size fund

-- what a reply of Totals says: n, or the refusal
abbrev pub verdict_in : TotalsReply → Verdict
verdict_in reply = cond (eqb reply.refusal 0) (Ok reply.n) (refused reply.refusal reply.place)

-- for both funds, where so many numbers are passed: 16 under 16 of them, 24 a table file of another size
unfoldable pub check_lent : ℕ → List ℕ → Verdict
check_lent numbers table =
    need (leb 16 numbers) 16 0 and_then
    need (eqb (length table) table_size) 24 0

-- A fund's reply: that; 1 where its file ends before the records begin (place: the file's own length); then what Totals
-- names its joined book.
unfoldable pub fund_reply : ℕ → List ℕ → List ℕ → Verdict
fund_reply numbers table fund =
    check_lent numbers table and_then
    need (leb front_size (length fund)) 1 (length fund) and_then
    verdict_in (totals_reply (joined_book table fund))

-- a fund's half afterwards: the eight totals of its joined book; as it was where refused
abbrev pub half_for : Verdict → List ℤ → List ℤ → List ℤ
half_for (Ok n) totals half = totals
half_for (Err r) totals half = half

unfoldable pub fund_half : ℕ → List ℕ → List ℕ → List ℤ → List ℤ
fund_half numbers table fund half =
    half_for (fund_reply numbers table fund) (totals_reply (joined_book table fund)).totals half
