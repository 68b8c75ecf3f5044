-- What the two calls promise follows from their replies and buffers. Assumes nothing.
use mathlib.Core.Bool.{cond}
use mathlib.Core.Path.{◌≡◌, refl, sym, ap, ◌∙◌}
use mathlib.Core.List.{List, ◌++◌}
use Prim.Native.Nat.{ℕ, ◌<◌}
use native.Mathlib.Nat.{le_refl}
use native.Mathlib.Omega.{arith}
use borrow.Author.Tests.{ne_eqb}
use lib.Dec.{eqb}
use lib.ListN.{length, take}
use lib.Seq.{take-append-le, take_all}
use Rattle.verdict.specs.Verdicts.{refusal_of, place_of, count_of, Verdict}
use Rattle.std.specs.Prelude.{Ok, Err}
use Rattle.verdict.proofs.Verdicts.{ZeroAccepts}
use Rattle.book.specs.Layout.{chains, records, count_offset, lapse_offset, premium_offset, claims_offset}
use Rattle.book.specs.Check.{check_book}
use Rattle.book_contents.specs.CallContracts.{WriteReply, write_refusal, write_place, write_length, write_reply_for}
use Rattle.book_contents.specs.declared.ReadReply.{ReadReply}
use Rattle.book_contents.specs.Contents.{Contents, given, records_before}
use Rattle.book_contents.specs.Written.{book_of}
use Rattle.book_contents.specs.Limits.{check_contents, Shaped}
use Rattle.book_contents.specs.Reading.{values_of, firsts_of, field_list, contents_of, OfBytes, InOrder}
use Rattle.book_contents.specs.CallContracts.{write_reply, WriteContract, read_for, read_verdict, ReadContract}
use Rattle.book_contents.proofs.Accepted.{written_accepted}
use Rattle.book_contents.proofs.Back.{read_written}
use Rattle.book_contents.proofs.Again.{written_again, taken_again}
use Rattle.book_contents.proofs.Projection.{sound_size, book_refused, read_sound}
use Rattle.book_contents.proofs.ZeroAccepts.{zero_accepts_contents, zero_accepts_read}
use Rattle.text_reply.specs.Replies.{buffer_for}

-- the first numbers of a list, where another follows
take_first : (l m : List ℕ) (n : ℕ) → length l ≡ n → take n (l ++ m) ≡ l
take_first l m n e = rw (← e) (take-append-le (length l) l m (le_refl _) ∙ take_all (length l) l (le_refl _))

-- the paper's values of a reply are those of the verdict, and the length where it has no refusal
refusal_for : (w : Verdict) (size : ℕ) → write_refusal (write_reply_for w size) ≡ refusal_of w
refusal_for (Ok m) size = refl
refusal_for (Err r) size = refl

place_for : (w : Verdict) (size : ℕ) → write_place (write_reply_for w size) ≡ place_of w
place_for (Ok m) size = refl
place_for (Err r) size = refl

length_for_lem : (w : Verdict) (size : ℕ) → ZeroAccepts w
    → write_length (write_reply_for w size) ≡ cond (eqb (write_refusal (write_reply_for w size)) 0) size 0
unfolding ZeroAccepts
length_for_lem (Ok m) size told = refl
length_for_lem (Err r) size told =
    rw (ne_eqb r.number 0 (λ e. let z : ◌≡◌ {A = ℕ} 0 1 = cc (told e) in absurd (omega arith)))

-- a reply without a refusal is that of accepted contents, with the book's length
written_for : (w : Verdict) (size : ℕ) → ZeroAccepts w → write_refusal (write_reply_for w size) ≡ 0
    → (w ≡ Ok (count_of w)) × (write_length (write_reply_for w size) ≡ size)
unfolding ZeroAccepts
written_for (Ok m) size told e = (refl, refl)
written_for (Err r) size told e = let z : ◌≡◌ {A = ℕ} 0 1 = cc (told e) in absurd (omega arith)

module _ (v : Contents) (entry exit : List ℕ) (r : WriteReply) (s : Shaped v.values)
    (reply : r ≡ write_reply v (length entry))
    (bytes : exit ≡ buffer_for (check_contents v (length entry)) (book_of v) entry) where
  -- what is written was not refused, and is the book
  written : write_refusal r ≡ 0
      → (check_contents v (length entry) ≡ Ok (count_of (check_contents v (length entry))))
      × (take (write_length r) exit ≡ book_of v)
  unfolding write_reply
  written none =
      let w = written_for _ (length (book_of v)) (zero_accepts_contents v (length entry)) (rw reply at none) in
      (w.0, rw (bytes, w.0, reply) (take_first (book_of v) _ _ (sym w.1)))

  pub write_promised : WriteContract v entry exit r
  unfolding write_reply
  write_promised =
      record {
        reply_is = reply;
        refusal_is = rw reply (refusal_for (check_contents v (length entry)) (length (book_of v)));
        place_is = rw reply (place_for (check_contents v (length entry)) (length (book_of v)));
        length_is = rw reply (length_for_lem _ _ (zero_accepts_contents v (length entry)));
        bytes_are = bytes;
        accepted = λ none.
            let w = written none in
            rw (w.1, written_accepted v _ _ w.0) (refl, refl);
        returned = λ none. let w = written none in rw w.1 (read_written v _ _ s w.0);
      }

module _ (b counts lapses premiums claims counts' lapses' premiums' claims' : List ℕ) (r : ReadReply)
    (bytes : OfBytes b)
    (reply : r ≡ read_for (read_verdict b counts lapses premiums claims) (values_of b))
    (counts_are : counts' ≡ buffer_for (read_verdict b counts lapses premiums claims) (field_list b count_offset)
    counts)
    (lapses_are : lapses' ≡ buffer_for (read_verdict b counts lapses premiums claims) (field_list b lapse_offset)
    lapses)
    (premiums_are : premiums' ≡ buffer_for (read_verdict b counts lapses premiums claims) (field_list b premium_offset)
    premiums)
    (claims_are : claims' ≡ buffer_for (read_verdict b counts lapses premiums claims)
    (field_list b claims_offset) claims) where
  -- a reply with refusal 0 is that of an accepted reading
  read_good : r.refusal ≡ 0
      → read_verdict b counts lapses premiums claims ≡ Ok
      (count_of (read_verdict b counts lapses premiums claims))
  unfolding ZeroAccepts
  read_good e = zero_accepts_read b _ _ _ _ (sym (ap (λ (q : ReadReply). q.refusal) reply) ∙ e)

  -- what a buffer holds, up to N
  list_back : (offset m : ℕ) (entry exit : List ℕ) → records b ≡ records_before (firsts_of b) chains
      → read_verdict b counts lapses premiums claims ≡ Ok m
      → exit ≡ buffer_for (read_verdict b counts lapses premiums claims) (field_list b offset) entry
      → take (records b) exit ≡ field_list b offset
  list_back offset m entry exit all g e =
      rw (e, g) (take_first (field_list b offset) _ (records b) (sound_size b offset ∙ sym all))

  handed_back : InOrder b → r.refusal ≡ 0
      → given r.values (take (records b) counts') (take (records b) lapses') (take (records b) premiums')
      (take (records b) claims') ≡ contents_of b
  unfolding contents_of
  handed_back o e =
      let g = read_good e in
      let values : r.values ≡ values_of b = ap (λ (q : ReadReply). q.values) (rw g at reply) in
      rw (
        values,
        list_back count_offset _ counts counts' o.all g counts_are,
        list_back lapse_offset _ lapses lapses' o.all g lapses_are,
        list_back premium_offset _ premiums premiums' o.all g premiums_are,
        list_back claims_offset _ claims claims' o.all g claims_are,
      )

  book_first : (w : Verdict) → check_book 1 b ≡ w → 0 < refusal_of w
      → (r.refusal ≡ refusal_of w) × (r.place ≡ place_of w)
  book_first (Ok n) h some = absurd (omega arith)
  book_first (Err r) h some = rw (reply, book_refused b _ _ _ _ r h) (refl, refl)

  -- what was read of a book in order, given to Write with space for the book
  rewritten : r.refusal ≡ 0 → InOrder b → let w = write_reply (contents_of b) (length b) in
      (book_of (contents_of b) ≡ b) × (write_refusal w ≡ 0) × (write_length w ≡ length b)
  unfolding write_reply
  rewritten e o =
      let sound = read_sound b _ _ _ _ _ (read_good e) in
      let same = written_again b _ bytes sound o in
      let taken = taken_again b _ bytes sound o in
      (same, rw taken, rw taken (ap length same))

  pub read_promised : ReadContract b counts lapses premiums claims counts' lapses' premiums' claims' r
  read_promised =
      record {
        reply_is = reply;
        counts_are = counts_are;
        lapses_are = lapses_are;
        premiums_are = premiums_are;
        claims_are = claims_are;
        book_first = book_first (check_book 1 b) refl;
        again = λ e o. rw (handed_back o e) (rewritten e o);
      }
