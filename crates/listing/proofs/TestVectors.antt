-- The paper's listing and the line of its refusal T11, byte by byte; T11 itself. Assumes nothing.
use mathlib.Core.List.{List, [], ◌∷◌}
use mathlib.Core.Path.{◌≡◌, refl}
use Prim.Native.Nat.{ℕ}
use lib.Dec.{lit≤}
use lib.IntN.{ℤ, negsuc}
use lib.ListN.{replicate}
use Rattle.verdict.specs.Verdicts.{first_refusal, refused}
use Rattle.book.proofs.TestVectors.{t11}
use Rattle.buffer.specs.Text.{spelled, decimal, signed, ended, signed_ended, refusal_text, joined}
use Rattle.buffer.proofs.Digits.{decimal_one, decimal_thousands}
use Rattle.text_reply.specs.Replies.{with_capacity, text_reply, text_buffer}
use Rattle.listing_text.specs.Lines.{listing_line, line_of, listing_text}
use Rattle.listing.specs.Listing.{listing_reply, listing_buffer}

-- the totals of the paper's book, whose contracts stay at class 120: -5000000 five times, -4900000, -5100000, -4800000
abbrev pub paper_totals : List ℤ
paper_totals =
    negsuc 4999999 ∷ negsuc 4999999 ∷ negsuc 4999999 ∷ negsuc 4999999 ∷ negsuc 4999999 ∷
    negsuc 4899999 ∷ negsuc 5099999 ∷ negsuc 4799999 ∷ []

-- To compute the digits of such numbers takes the checker too much. It can for their thousands, and a law has the rest.
thousands : (decimal 5000 ≡ 53 ∷ 48 ∷ 48 ∷ 48 ∷ []) × (decimal 4900 ≡ 52 ∷ 57 ∷ 48 ∷ 48 ∷ [])
    × (decimal 5100 ≡ 53 ∷ 49 ∷ 48 ∷ 48 ∷ []) × (decimal 4800 ≡ 52 ∷ 56 ∷ 48 ∷ 48 ∷ [])
unfolding decimal spelled
thousands = (refl, refl, refl, refl)

-- a line here is a line of the listing
pub paper_listing : listing_text paper_totals 1 ≡
    48 ∷ 32 ∷ 45 ∷ 53 ∷ 48 ∷ 48 ∷ 48 ∷ 48 ∷ 48 ∷ 48 ∷ 32 ∷ 49 ∷ 10 ∷
    49 ∷ 32 ∷ 45 ∷ 53 ∷ 48 ∷ 48 ∷ 48 ∷ 48 ∷ 48 ∷ 48 ∷ 32 ∷ 49 ∷ 10 ∷
    50 ∷ 32 ∷ 45 ∷ 53 ∷ 48 ∷ 48 ∷ 48 ∷ 48 ∷ 48 ∷ 48 ∷ 32 ∷ 49 ∷ 10 ∷
    51 ∷ 32 ∷ 45 ∷ 53 ∷ 48 ∷ 48 ∷ 48 ∷ 48 ∷ 48 ∷ 48 ∷ 32 ∷ 49 ∷ 10 ∷
    52 ∷ 32 ∷ 45 ∷ 53 ∷ 48 ∷ 48 ∷ 48 ∷ 48 ∷ 48 ∷ 48 ∷ 32 ∷ 49 ∷ 10 ∷
    53 ∷ 32 ∷ 45 ∷ 52 ∷ 57 ∷ 48 ∷ 48 ∷ 48 ∷ 48 ∷ 48 ∷ 32 ∷ 49 ∷ 10 ∷
    54 ∷ 32 ∷ 45 ∷ 53 ∷ 49 ∷ 48 ∷ 48 ∷ 48 ∷ 48 ∷ 48 ∷ 32 ∷ 49 ∷ 10 ∷
    55 ∷ 32 ∷ 45 ∷ 52 ∷ 56 ∷ 48 ∷ 48 ∷ 48 ∷ 48 ∷ 48 ∷ 32 ∷ 49 ∷ 10 ∷ []
unfolding listing_text joined line_of listing_line ended signed_ended signed
paper_listing =
    rw (
      decimal_thousands 5000 (lit≤ tt),
      decimal_thousands 4900 (lit≤ tt),
      decimal_thousands 5100 (lit≤ tt),
      decimal_thousands 4800 (lit≤ tt),
      thousands.0,
      thousands.1,
      thousands.2,
      thousands.3,
      decimal_one 0 (lit≤ tt),
      decimal_one 1 (lit≤ tt),
      decimal_one 2 (lit≤ tt),
      decimal_one 3 (lit≤ tt),
      decimal_one 4 (lit≤ tt),
      decimal_one 5 (lit≤ tt),
      decimal_one 6 (lit≤ tt),
      decimal_one 7 (lit≤ tt),
    )

-- `refused 2 0`
pub refused_line : refusal_text 2 0 ≡
    114 ∷ 101 ∷ 102 ∷ 117 ∷ 115 ∷ 101 ∷ 100 ∷ 32 ∷ 50 ∷ 32 ∷ 48 ∷ 10 ∷ []
unfolding refusal_text ended decimal spelled
refused_line = refl

-- T11: 1,220 zero bytes are refused with 2 at 0, whatever the buffer, which stays as it was
pub t11_reply : (capacity : ℕ) → listing_reply (replicate 1220 0) capacity ≡ refused 2 0
unfolding text_reply with_capacity first_refusal
t11_reply capacity = rw t11

pub t11_buffer : (before : List ℕ) → listing_buffer (replicate 1220 0) before ≡ before
unfolding text_buffer with_capacity first_refusal
t11_buffer before = rw t11
