-- What the call promises is the way of a call that writes a text, and that no listing is long. The bytes of unlinked
-- records have no effect on it. Assumes nothing.
use mathlib.Core.List.{List}
use mathlib.Core.Path.{◌≡◌}
use Prim.Native.Nat.{ℕ, ◌≤◌}
use native.Mathlib.Omega.{arith}
use lib.ListN.{length}
use Rattle.verdict.specs.declared.Refusal.{Refusal}
use Rattle.std.specs.Prelude.{Ok, Err}
use Rattle.book.specs.Check.{check_book}
use Rattle.book.specs.Rules.{SameButUnlinked}
use Rattle.book.proofs.Unlinked.{unlinked_same}
use Rattle.valuation.specs.Totals.{totals_reply}
use Rattle.valuation.specs.declared.TotalsReply.{TotalsReply}
use Rattle.valuation.proofs.Unlinked.{totals_same}
use Rattle.buffer.specs.Text.{spelled, decimal, signed, ended, signed_ended, joined, Wrote}
use Rattle.buffer.proofs.Digits.{trial, from_start}
use Rattle.text_reply.specs.Replies.{TextContract, TextReply}
use Rattle.text_reply.proofs.Replies.{text_written}
use Rattle.listing_text.specs.Lines.{listing_line, line_of, listing_text}
use Rattle.listing.specs.Listing.{listing_of, listing_reply, listing_buffer, ListingContract}

pub listing_promised : (b before after : List ℕ) (reply : TextReply)
    → TextContract (check_book 1 b) (listing_of b) before after reply → length (listing_of b) ≤ 512
    → ListingContract b before after reply
listing_promised b before after reply w short =
    record { reply_is = w.reply_is; buffer_is = w.buffer_is; within = w.within; short = omega (arith, short) }

-- eight lines of a figure 0 and an n of 0: Totals replies these of a refused book
pub refused_short : (b : List ℕ) (r : Refusal) → check_book 1 b ≡ Err r → length (listing_of b) ≤ 512
unfolding listing_of totals_reply listing_text joined line_of listing_line ended signed_ended signed decimal spelled
refused_short b r e = rw e (omega arith)

-- the lines of Totals' reply are the book's listing
pub listing_written : (b : List ℕ) (reply : TotalsReply) {entry exit : List ℕ} {r : ℕ} → reply ≡ totals_reply b
    → Wrote entry 0 (listing_text reply.totals reply.n) exit r × (r ≤ 512)
    → Wrote entry 0 (listing_of b) exit r × (length (listing_of b) ≤ 512)
unfolding listing_of
listing_written b reply is w = let told = rw is at w.0 in (told, omega (arith, trial told, w.1))

-- the listing written where it fits
pub listing_fits : (b before : List ℕ) {after : List ℕ} {n r : ℕ} → check_book 1 b ≡ Ok n
    → length (listing_of b) ≤ length before
    → Wrote before 0 (listing_of b) after r × (length (listing_of b) ≤ 512)
    → ListingContract b before after (Ok r)
listing_fits b before e fits w =
    listing_promised b before _ _
    (text_written _ _ before _ e fits (trial w.0) (from_start w.0 fits)) w.1

module _ (b b' : List ℕ) (s : SameButUnlinked b b') where
  pub reply_same : (capacity : ℕ) → listing_reply b capacity ≡ listing_reply b' capacity
  unfolding listing_of
  reply_same capacity = rw (unlinked_same b b' s 1, totals_same b b' s)

  pub buffer_same : (before : List ℕ) → listing_buffer b before ≡ listing_buffer b' before
  unfolding listing_of
  buffer_same before = rw (unlinked_same b b' s 1, totals_same b b' s)
