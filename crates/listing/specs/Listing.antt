-- The listing of a book, and what the call that writes it replies and promises.
use Rattle.std.specs.Prelude.{List, ◌≡◌, ℕ, ◌≤◌, length}
use Rattle.book.specs.Check.{check_book}
use Rattle.valuation.specs.Totals.{totals_reply}
use Rattle.text_reply.specs.Replies.{text_length, text_reply, text_buffer, TextReply}
use Rattle.listing_text.specs.Lines.{listing_text}

-- the listing of a book: the totals and the n are those that Totals replies
unfoldable pub listing_of : List ℕ → List ℕ
listing_of b = listing_text (totals_reply b).totals (totals_reply b).n

-- What the call replies, given a buffer of `capacity` bytes: the listing's length, or the first refusal: the book's,
-- and then 20 where the buffer is shorter than the listing.
abbrev pub listing_reply : List ℕ → ℕ → TextReply
listing_reply b capacity = text_reply (check_book 1 b) (listing_of b) capacity

-- what the passed buffer then holds: the listing and then what stood there, or, where refused, what stood there
abbrev pub listing_buffer : List ℕ → List ℕ → List ℕ
listing_buffer b before = text_buffer (check_book 1 b) (listing_of b) before

-- What the call promises: its reply and the buffer equal their definitions.
pub record ListingContract (b before after : List ℕ) (reply : TextReply) : Type 0 where
  pub reply_is : reply ≡ listing_reply b (length before)
  pub buffer_is : after ≡ listing_buffer b before
  -- follows from the two: the bytes written stand in the buffer
  pub within : text_length reply ≤ length after
  -- a buffer of 512 bytes takes every listing
  pub short : length (listing_of b) ≤ 512
