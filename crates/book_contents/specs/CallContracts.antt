-- What the two calls promise (W-205), in the paper's values: replies and caller's buffers equal their definitions, and
-- both round trips hold.
use Rattle.std.specs.Prelude.{cond, ℕ, ◌<◌, ◌≡◌, List, eqb, length, get_or, take, Result, Ok, Err}
use Rattle.lists.specs.Sums.{sum_below}
use Rattle.verdict.specs.Verdicts.{refusal_of, place_of, count_of, Verdict}
use Rattle.verdict.specs.declared.Refusal.{Refusal}
use Rattle.book.specs.Layout.{records, count_offset, lapse_offset, premium_offset, claims_offset}
use Rattle.book.specs.Check.{check_book}
use Rattle.book_contents.specs.declared.Values.{Values}
use Rattle.book_contents.specs.declared.ReadReply.{ReadReply}
use Rattle.book_contents.specs.Contents.{Contents, given}
use Rattle.book_contents.specs.Written.{book_of}
use Rattle.book_contents.specs.Limits.{check_contents}
use Rattle.book_contents.specs.Reading.{values_of, field_list, contents_of, check_read, no_values, InOrder}
use Rattle.text_reply.specs.Replies.{buffer_for}

-- the book's length, or the refusal
abbrev pub WriteReply : Type 0
WriteReply = Result ℕ Refusal

-- The paper's values of a reply to writing: the refusal's number and place, 0 and 0 where written; the length, 0 where
-- refused.
abbrev pub write_refusal : WriteReply → ℕ
write_refusal (Ok size) = 0
write_refusal (Err r) = r.number

abbrev pub write_place : WriteReply → ℕ
write_place (Ok size) = 0
write_place (Err r) = r.place

abbrev pub write_length : WriteReply → ℕ
write_length (Ok size) = size
write_length (Err r) = 0

-- the reply: the book's length, or the refusal
abbrev pub write_reply_for : Verdict → ℕ → WriteReply
write_reply_for (Ok m) size = Ok size
write_reply_for (Err r) size = Err r

unfoldable pub write_reply : Contents → ℕ → WriteReply
write_reply v capacity = write_reply_for (check_contents v capacity) (length (book_of v))

-- how many numbers of a list are not 0
unfoldable pub not_zero : List ℕ → ℕ
not_zero l = sum_below (λ (i : ℕ). cond (eqb (get_or l i 0) 0) 0 1) (length l)

-- Write: of contents v, with the caller's bytes from entry to exit
pub record WriteContract (v : Contents) (entry exit : List ℕ) (r : WriteReply) : Type 0 where
  pub reply_is : r ≡ write_reply v (length entry)
  -- the same in the paper's values: the refusal's number and place, and the book's length
  pub refusal_is : write_refusal r ≡ refusal_of (check_contents v (length entry))
  pub place_is : write_place r ≡ place_of (check_contents v (length entry))
  pub length_is : write_length r ≡ cond (eqb (write_refusal r) 0) (length (book_of v)) 0
  pub bytes_are : exit ≡ buffer_for (check_contents v (length entry)) (book_of v) entry
  -- what was written is accepted by the check, with n the number of counts that are not 0
  pub accepted : write_refusal r ≡ 0 → let w = check_book 1 (take (write_length r) exit) in
      (refusal_of w ≡ 0) × (count_of w ≡ not_zero v.counts)
  -- reading what was written returns what went in
  pub returned : write_refusal r ≡ 0 → contents_of (take (write_length r) exit) ≡ v

-- the reply: the values, or the refusal and 0 in every other field
abbrev pub values_for : Verdict → Values → Values
values_for (Ok m) h = h
values_for (Err r) h = no_values

abbrev pub read_for : Verdict → Values → ReadReply
read_for v h = record { refusal = refusal_of v; place = place_of v; values = values_for v h }

-- what stands against reading a book into four buffers
abbrev pub read_verdict : List ℕ → List ℕ → List ℕ → List ℕ → List ℕ → Verdict
read_verdict b counts lapses premiums claims =
    check_read b (length counts) (length lapses) (length premiums) (length claims)

-- Read: of book b, with each of the caller's lists from before to after (')
pub record ReadContract (b counts lapses premiums claims counts' lapses' premiums' claims' : List ℕ)
    (r : ReadReply) : Type 0 where
  pub reply_is : r ≡ read_for (read_verdict b counts lapses premiums claims) (values_of b)
  pub counts_are : counts'
      ≡ buffer_for (read_verdict b counts lapses premiums claims) (field_list b count_offset) counts
  pub lapses_are : lapses'
      ≡ buffer_for (read_verdict b counts lapses premiums claims) (field_list b lapse_offset) lapses
  pub premiums_are : premiums' ≡ buffer_for (read_verdict b counts lapses premiums claims) (field_list b premium_offset)
      premiums
  pub claims_are : claims'
      ≡ buffer_for (read_verdict b counts lapses premiums claims) (field_list b claims_offset) claims
  -- a refused book gives its own refusal and place, however long the buffers are
  pub book_first : 0 < refusal_of (check_book 1 b)
      → (r.refusal ≡ refusal_of (check_book 1 b)) × (r.place ≡ place_of (check_book 1 b))
  -- what was read from a book in order is written to that book's bytes again, and is not refused with space for them
  pub again : r.refusal ≡ 0 → InOrder b
      → let n = records b in
      let v = given r.values (take n counts') (take n lapses') (take n premiums') (take n claims') in
      let w = write_reply v (length b) in
      (book_of v ≡ b) × (write_refusal w ≡ 0) × (write_length w ≡ length b)
