-- Every book that is written has all its records linked and in chain order. Assumes nothing.
use mathlib.Core.Path.{◌≡◌, ap, ◌∙◌}
use mathlib.Core.Logic.{⊎_elim}
use mathlib.Core.List.{List}
use Prim.Native.Nat.{ℕ, ◌+◌, ◌<◌, ◌≤◌}
use native.Mathlib.Nat.{eq-or-lt_of_le}
use native.Mathlib.Omega.{arith}
use Rattle.std.specs.Prelude.{Ok}
use Rattle.book.specs.Layout.{chains, head_of, next_of, link_at}
use Rattle.buffer.proofs.Digits.{le_or_lt}
use Rattle.book_contents.specs.Contents.{Contents, size_of, records_before}
use Rattle.book_contents.specs.Written.{book_of}
use Rattle.book_contents.specs.Limits.{check_contents, Fit, Shaped}
use Rattle.book_contents.specs.Reading.{firsts_of, values_of, contents_of, InOrder}
use Rattle.book_contents.proofs.Stands.{stands_self}
use Rattle.book_contents.proofs.Laid.{Laid, stands_laid}
use Rattle.book_contents.proofs.Fit.{fit}
use Rattle.book_contents.proofs.Linked.{head_none, head_some, next_last, next_more}
use Rattle.book_contents.proofs.Linked.{records_is, head_is, next_of_entry, link_in, link_entry}
use Rattle.book_contents.proofs.Back.{read_written}

module _ (b : List ℕ) (v : Contents) (f : Fit v) (x : Laid b v) where
  head_right : (k : ℕ) → k < chains → 0 < head_of b k → head_of b k ≡ records_before v.values.first k + 1
  head_right k few some =
      let head = head_is b v f x k few in
      ⊎_elim
      (λ (z : size_of v.values.first k ≤ 0). absurd
      (omega (arith, head, head_none v.values.first k (omega arith))))
      (λ (s : 0 < size_of v.values.first k). omega (arith, head, head_some v.values.first k s))
      (le_or_lt (size_of v.values.first k) 0)

  next_right : (k j : ℕ) → k < chains → 0 < link_at b k j → 0 < next_of b (link_at b k j)
      → next_of b (link_at b k j) ≡ link_at b k j + 1
  next_right k j few some more =
      let h = link_entry b v f x k few j some in
      let here = link_in b v f x k few j h in
      let next = ap (next_of b) here ∙ next_of_entry b v f x k j few h in
      ⊎_elim
      (λ (e : j + 1 ≡ size_of v.values.first k). absurd (omega (arith, next, next_last v.values.first k j e)))
      (λ (l : j + 1 < size_of v.values.first k). omega (arith, here, next, next_more v.values.first k j l))
      (eq-or-lt_of_le (omega arith))

pub written_ordered : (v : Contents) (capacity n : ℕ) → Shaped v.values → check_contents v capacity ≡ Ok n
    → InOrder (book_of v)
unfolding contents_of values_of
written_ordered v capacity n s e =
    let b = book_of v in
    let f = fit v capacity n e in
    let x = stands_laid b v (stands_self b) in
    let firsts : firsts_of b ≡ v.values.first =
    ap (λ (w : Contents). w.values.first) (read_written v capacity n s e) in
    record {
      heads = λ k few some. rw firsts (head_right b v f x k few some);
      nexts = next_right b v f x;
      all = rw firsts (records_is b v f x);
    }
