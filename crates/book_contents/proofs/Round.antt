-- The two calls together: what the writing call takes, the reading call gives back from its book. Assumes nothing.
use mathlib.Core.Path.{◌≡◌, ap}
use Prim.Native.Nat.{ℕ, ◌≤◌}
use borrow.Author.Tests.{le-leb}
use Rattle.std.specs.Prelude.{Ok}
use Rattle.verdict.proofs.Verdicts.{need_good, then_good}
use Rattle.book.specs.Layout.{chains}
use Rattle.book_contents.specs.Contents.{Contents, records_before}
use Rattle.book_contents.specs.Written.{book_of}
use Rattle.book_contents.specs.Limits.{check_contents, Shaped}
use Rattle.book_contents.specs.Reading.{firsts_of, values_of, contents_of, check_read}
use Rattle.book_contents.proofs.Accepted.{written_accepted}
use Rattle.book_contents.proofs.Back.{read_written}

-- Buffers that take the lists are enough for the reading call: it refuses no book that was written.
pub written_read : (v : Contents) (capacity n counts lapses premiums claims : ℕ) → Shaped v.values
    → check_contents v capacity ≡ Ok n
    → records_before v.values.first chains ≤ counts → records_before v.values.first chains ≤ lapses
    → records_before v.values.first chains ≤ premiums → records_before v.values.first chains ≤ claims
    → check_read (book_of v) counts lapses premiums claims ≡ Ok 0
unfolding check_read contents_of values_of
written_read v capacity n counts lapses premiums claims s e c l p q =
    let firsts : firsts_of (book_of v) ≡ v.values.first =
    ap (λ (w : Contents). w.values.first) (read_written v capacity n s e) in
    then_good _ _ _ _
    (then_good _ _ _ _
    (then_good _ _ _ _
    (then_good _ _ _ _ (written_accepted v capacity n e) (need_good _ _ _ (rw firsts (le-leb _ _ c))))
    (need_good _ _ _ (rw firsts (le-leb _ _ l))))
    (need_good _ _ _ (rw firsts (le-leb _ _ p))))
    (need_good _ _ _ (rw firsts (le-leb _ _ q)))
