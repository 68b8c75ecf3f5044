-- What the call that writes a practice book promises (W-214).
use Rattle.std.specs.Prelude.{ℕ, ◌≡◌, List, leb, ltb, length, take}
use Rattle.verdict.specs.Verdicts.{need, ◌and_then◌, refusal_of, count_of, Verdict}
use Rattle.book.specs.Check.{check_book}
use Rattle.book_contents.specs.CallContracts.{WriteReply, write_refusal, write_length, write_reply_for, not_zero}
use Rattle.practice_contents.specs.Drawn.{practice_contents, practice_book, practice_size}
use Rattle.text_reply.specs.Replies.{buffer_for}

-- 16 a buffer of so many bytes that is shorter than the book, then 32 the start number 0
unfoldable pub check_practice : ℕ → ℕ → Verdict
check_practice start capacity = need (leb practice_size capacity) 16 0 and_then need (ltb 0 start) 32 0

unfoldable pub practice_reply : ℕ → ℕ → WriteReply
practice_reply start capacity = write_reply_for (check_practice start capacity) practice_size

-- The call: of a start number, with the caller's bytes from entry to exit. The book is a function of the start number
-- alone: two calls with the same start number write the same bytes, whatever the buffers held (`equal_bytes` of
-- proofs/PracticeContract).
pub record PracticeContract (start : ℕ) (entry exit : List ℕ) (r : WriteReply) : Type 0 where
  pub reply_is : r ≡ practice_reply start (length entry)
  pub bytes_are : exit ≡ buffer_for (check_practice start (length entry)) (practice_book start) entry
  -- what was written is accepted by the check, with n the number of counts that are not 0
  pub accepted : write_refusal r ≡ 0 → let v = check_book 1 (take (write_length r) exit) in
      (refusal_of v ≡ 0) × (count_of v ≡ not_zero (practice_contents start).counts)
