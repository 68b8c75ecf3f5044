-- The record view: the 24 bytes of one record of an accepted book, linked or not.
use Rattle.std.specs.Prelude.{ℕ, ◌+◌, ◌-◌, ◌≡◌, List, [], Bool, false, cond, length, take, drop, leb, Ok, Err}
use Rattle.std.specs.Borrow.{Bor}
use Rattle.verdict.specs.Verdicts.{need, ◌and_then◌, refusal_of, place_of, Verdict}
use Rattle.le_bytes.specs.Fields.{within}
use Rattle.book.specs.Layout.{record_size, records, record_at}
use Rattle.book.specs.Check.{check_book}
use Rattle.record_view.specs.declared.Located.{Located}
use Rattle.record_view.specs.declared.Shown.{Shown}

-- the book's own refusals, then 9 with place 0 where there is no record of that number
unfoldable pub check_record : List ℕ → ℕ → Verdict
check_record b number = check_book 1 b and_then need (within 1 (records b) number) 9 0

-- where the record stands in the book; a part of no bytes where refused
abbrev pub located_at : Verdict → ℕ → Located
located_at (Ok n) at = record { refusal = 0; place = 0; start = at; len = record_size }
located_at (Err r) at = record { refusal = r.number; place = r.place; start = 0; len = 0 }

unfoldable pub located_in : List ℕ → ℕ → Located
located_in b number = located_at (check_record b number) (record_at number)

-- the record's bytes; none where refused
abbrev pub bytes_of : Verdict → List ℕ → List ℕ
bytes_of (Ok n) bytes = bytes
bytes_of (Err r) bytes = []

unfoldable pub record_bytes : List ℕ → ℕ → List ℕ
record_bytes b number = bytes_of (check_record b number) (take record_size (drop (record_at number) b))

-- len bytes from start lie in the book
unfoldable pub lies_in : List ℕ → ℕ → ℕ → Bool
lies_in b start len = cond (leb start (length b)) (leb len (length b - start)) false

-- a part begins in the memory of the caller's book, so many bytes behind the book's own beginning
abbrev pub StandsAt : Bor (List ℕ) → ℕ → Bor (List ℕ) → Type 0
StandsAt book offset part = (part.ref_ptr.0 ≡ book.ref_ptr.0) × (part.ref_ptr.1 ≡ book.ref_ptr.1 + offset)

-- a part of the caller's book: len bytes from start, where they stand in the book; none, at its beginning, where they
-- run past its end
pub record PartOf (book : Bor (List ℕ)) (start len : ℕ) (part : Bor (List ℕ)) : Type 0 where
  pub bytes : part.now ≡ cond (lies_in book.now start len) (take len (drop start book.now)) []
  pub stands : StandsAt book (cond (lies_in book.now start len) start 0) part

-- what the record view returns: the record's bytes, where they stand in the caller's book
pub record Shows (book : Bor (List ℕ)) (number : ℕ) (r : Shown) : Type 0 where
  pub refusal_is : r.refusal ≡ refusal_of (check_record book.now number)
  pub place_is : r.place ≡ place_of (check_record book.now number)
  pub bytes : r.part.now ≡ record_bytes book.now number
  pub stands : StandsAt book (located_in book.now number).start r.part
