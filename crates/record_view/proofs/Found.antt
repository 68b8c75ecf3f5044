-- Laws of the record view: what is located is the record, and its bytes are the record's. Assumes nothing.
use mathlib.Core.Path.{◌≡◌, refl, ◌∙◌}
use mathlib.Core.List.{List}
use Prim.Native.Nat.{ℕ, ◌+◌, ◌-◌, ◌≤◌, zero-le}
use native.Mathlib.Omega.{arith}
use mathlib.Core.Bool.{true}
use borrow.Author.Tests.{le-leb}
use lib.ListN.{length, take, drop}
use denote.Ref.{Bor}
use Rattle.verdict.specs.Verdicts.{refusal_of, place_of, Verdict}
use Rattle.std.specs.Prelude.{Ok, Err}
use Rattle.verdict.proofs.Verdicts.{need_true, then_left, then_right}
use Rattle.le_bytes.proofs.Ranges.{within_means}
use Rattle.book.specs.Layout.{record_size, records, record_at}
use Rattle.book.specs.Reading.{ValidBook}
use Rattle.book.proofs.Valid.{valid}
use Rattle.record_view.specs.RecordView.{check_record, located_at, located_in, bytes_of, record_bytes, lies_in}
use Rattle.record_view.specs.RecordView.{PartOf, Shows}
use Rattle.record_view.specs.declared.Located.{Located}

module _ (b : List ℕ) (number m : ℕ) (e : check_record b number ≡ Ok m) where
  pub record_valid : ValidBook 1 b
  unfolding check_record
  record_valid = valid 1 b _ (then_left _ _ _ e)

  pub record_number : (1 ≤ number) × (number ≤ records b)
  unfolding check_record
  record_number = within_means _ _ _ (need_true _ _ _ _ (then_right _ _ _ e))

-- what is located lies in the book, and its bytes are the record's: by the verdict
module _ (b : List ℕ) (number : ℕ) where
  abbrev at : Verdict → Located
  at v = located_at v (record_at number)

  located_lies : (v : Verdict) → check_record b number ≡ v → lies_in b (at v).start (at v).len ≡ true
  unfolding lies_in
  located_lies (Ok m) e =
      let h : record_at number + 24 ≤ length b =
      omega (arith, (record_valid b number m e).header.size, record_number b number m e) in
      rw (le-leb (record_at number) (length b) (omega arith), le-leb 24 (length b - record_at number) (omega arith))
  located_lies (Err r) e = rw (le-leb 0 (length b) zero-le, le-leb 0 (length b - 0) zero-le)

  located_bytes : (v : Verdict)
      → take (at v).len (drop (at v).start b) ≡ bytes_of v (take record_size (drop (record_at number) b))
  located_bytes (Ok m) = refl
  located_bytes (Err r) = refl

  located_refusal : (v : Verdict) → (at v).refusal ≡ refusal_of v
  located_refusal (Ok m) = refl
  located_refusal (Err r) = refl

  located_place : (v : Verdict) → (at v).place ≡ place_of v
  located_place (Ok m) = refl
  located_place (Err r) = refl

-- what is located, with the part that stands there, is what the record view shows
pub shown : (book : Bor (List ℕ)) (number : ℕ) (r : Located) (t : Bor (List ℕ)) → r ≡ located_in book.now number
    → PartOf book r.start r.len t
    → Shows book number (record { refusal = r.refusal; place = r.place; part = t })
unfolding located_in record_bytes
shown book number r t e f =
    let b = book.now in
    let v = check_record b number in
    let lies : lies_in b r.start r.len ≡ true = rw e (located_lies b number v refl) in
    record {
      refusal_is = rw e (located_refusal b number v);
      place_is = rw e (located_place b number v);
      bytes = f.bytes ∙ rw (lies, e) (located_bytes b number v);
      stands = (f.stands.0, f.stands.1 ∙ rw (lies, e));
    }
