-- What the call promises follows from its reply and from the bytes that were written; and equal start numbers give
-- equal bytes. Assumes nothing.
use mathlib.Core.Path.{◌≡◌, refl, sym, ap, subst, ◌∙◌}
use mathlib.Core.List.{List}
use Prim.Native.Nat.{ℕ, ◌≤◌}
use native.Mathlib.Omega.{arith}
use borrow.Author.Tests.{leb-true}
use lib.ListN.{length, take, drop}
use lib.Seq.{take_at}
use Rattle.verdict.specs.Verdicts.{count_of, Verdict}
use Rattle.std.specs.Prelude.{Ok, Err}
use Rattle.verdict.proofs.Verdicts.{need_true, then_left, ZeroAccepts, zero_accepts_need, zero_accepts_then}
use Rattle.book_contents.specs.CallContracts.{WriteReply}
use Rattle.book_contents.specs.Contents.{Contents}
use Rattle.book_contents.specs.Written.{book_size}
use Rattle.book_contents.specs.CallContracts.{write_refusal, write_length, write_reply_for, write_reply, WriteContract}
use Rattle.book_contents.proofs.Fit.{fit_good}
use Rattle.generator.specs.Draws.{seeded}
use Rattle.practice_contents.specs.Drawn.{practice_contents, practice_book, practice_size}
use Rattle.practice_contents.proofs.Drawn.{drawn_fit, drawn_size, practice_accepted, practice_length}
use Rattle.practice_book.specs.Practice.{check_practice, practice_reply, PracticeContract}
use Rattle.text_reply.specs.Replies.{buffer_for}

-- refusal 0 is acceptance, of this call too
practice_told : (start capacity : ℕ) → ZeroAccepts (check_practice start capacity)
unfolding ZeroAccepts check_practice
practice_told start capacity = zero_accepts_then _ _ (zero_accepts_need _ 15 0) (zero_accepts_need _ 31 0)

zero_accepts_reply : (v : Verdict) (n : ℕ) → ZeroAccepts v → write_refusal (write_reply_for v n) ≡ 0
    → (v ≡ Ok (count_of v)) × (write_length (write_reply_for v n) ≡ n)
unfolding ZeroAccepts
zero_accepts_reply (Ok m) n told e = (refl, refl)
zero_accepts_reply (Err r) n told e = let z : ◌≡◌ {A = ℕ} 0 1 = cc (told e) in absurd (omega arith)

-- what was asked for stands at the start of the caller's buffer
front_is : (v : Verdict) (m : ℕ) (l entry : List ℕ) (n : ℕ) → v ≡ Ok m → length l ≡ n
    → take n (buffer_for v l entry) ≡ l
front_is v m l entry n e size = rw e (take_at l (drop (length l) entry) n size)

module _ (start : ℕ) (entry exit : List ℕ) (r : WriteReply) (reply_is : r ≡ practice_reply start (length entry))
    (bytes_are : exit ≡ buffer_for (check_practice start (length entry)) (practice_book start) entry) where
  -- without a refusal the book stands in the buffer
  written : write_refusal r ≡ 0 → (write_length r ≡ practice_size) × (take practice_size exit ≡ practice_book start)
  unfolding practice_reply
  written none =
      let v = check_practice start (length entry) in
      let told = zero_accepts_reply v practice_size (practice_told start (length entry)) (rw reply_is at none) in (
        rw reply_is told.1,
        ap (take practice_size) bytes_are
            ∙ front_is v _ (practice_book start) entry practice_size told.0 (practice_length start),
      )

  pub promised : PracticeContract start entry exit r
  promised = record {
    reply_is = reply_is;
    bytes_are = bytes_are;
    accepted = λ none. rw ((written none).0, (written none).1, practice_accepted start) (refl, refl);
  }

-- what Write promises of equal contents
pub of_same : {u v : Contents} {entry exit : List ℕ} {r : WriteReply} → u ≡ v → WriteContract u entry exit r
    → WriteContract v entry exit r
of_same {u} {v} {entry} {exit} {r} e w = subst (λ (x : Contents). WriteContract x entry exit r) e w

-- what Write promises of the drawn contents is, with space and a start number above 0, what the call promises
pub write_promised : (start n : ℕ) {entry exit : List ℕ} {r : WriteReply}
    → check_practice start (length entry) ≡ Ok n
    → WriteContract (practice_contents start) entry exit r → PracticeContract start entry exit r
unfolding check_practice practice_reply write_reply
write_promised start n {entry} {exit} {r} e w =
    let capacity : practice_size ≤ length entry = leb-true _ _ (need_true _ _ _ _ (then_left _ _ _ e)) in
    let fits : book_size (practice_contents start).values.first ≤ length entry =
    omega (arith, drawn_size (seeded start)) in
    let good = fit_good (practice_contents start) (length entry) (drawn_fit _) fits in
    promised start entry exit r (rw e (rw (good, practice_length start) at w.reply_is))
    (rw e (rw good at w.bytes_are))

-- Equal start numbers give equal bytes: two calls, with buffers of any length and content.
pub equal_bytes : (start : ℕ) {entry exit entry' exit' : List ℕ} {r r' : WriteReply}
    → PracticeContract start entry exit r → PracticeContract start entry' exit' r'
    → write_refusal r ≡ 0 → write_refusal r' ≡ 0 → take practice_size exit ≡ take practice_size exit'
equal_bytes start {entry} {exit} {entry'} {exit'} {r} {r'} p p' none none' =
    (written start entry exit r p.reply_is p.bytes_are none).1
    ∙ sym (written start entry' exit' r' p'.reply_is p'.bytes_are none').1
