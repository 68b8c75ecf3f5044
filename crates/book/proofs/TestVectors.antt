-- Trial figures T11 and T12, on the definition of the check. Assumes nothing.
use mathlib.Core.Path.{◌≡◌, refl}
use mathlib.Core.List.{List}
use Prim.Native.Nat.{ℕ}
use native.Mathlib.Omega.{arith}
use lib.ListN.{length, replicate}
use Rattle.verdict.specs.Verdicts.{first_refusal, need, refused}
use Rattle.le_bytes.specs.Fields.{within}
use Rattle.book.specs.Check.{check_header, check_book}
use Rattle.book.proofs.Whole.{book_short}

-- 1,220 zero bytes
pub t11 : check_book 1 (replicate 1220 0) ≡ refused 2 0
unfolding check_book check_header within need first_refusal
t11 = refl

-- any 1,219 bytes
pub t12 : (b : List ℕ) → length b ≡ 1219 → check_book 1 b ≡ refused 1 1219
t12 b h = rw (book_short 1 b (omega arith), h)
