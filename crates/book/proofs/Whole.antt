-- Laws of the whole check and of the header's. Assumes nothing.
use mathlib.Core.Path.{◌≡◌, refl}
use mathlib.Core.List.{List}
use Prim.Native.Nat.{ℕ, ◌<◌, ◌≤◌}
use native.Mathlib.Omega.{arith}
use borrow.Author.Tests.{leb-true, eqb-true, le-leb, lt-leb}
use lib.ListN.{length}
use Rattle.verdict.specs.Verdicts.{first_refusal, need, ◌and_then◌, Verdict, refused}
use Rattle.std.specs.Prelude.{Ok, Err}
use Rattle.verdict.specs.declared.Refusal.{Refusal}
use Rattle.verdict.proofs.Verdicts.{need_true, then_left, then_right}
use Rattle.book.specs.Layout.{header_size, most_size, last_class}
use Rattle.book.specs.Check.{check_header, check_tables, check_chains, check_book}
use Rattle.book.specs.Reading.{Sized}

module _ (basis : ℕ) (b : List ℕ) where
  pub book_short : length b < header_size → check_book basis b ≡ refused 1 (length b)
  unfolding check_book need first_refusal
  book_short h = rw (lt-leb _ _ h)

  pub book_bad : header_size ≤ length b → (r : Refusal)
      → (check_header basis (length b) b and_then check_tables b) ≡ Err r → check_book basis b ≡ Err r
  unfolding check_book need first_refusal
  book_bad h r e = rw (le-leb _ _ h, e)

  pub book_good : header_size ≤ length b → (m : ℕ) → (check_header basis (length b) b and_then check_tables b) ≡
      Ok m
      → check_book basis b ≡ check_chains b (last_class basis)
  unfolding check_book need first_refusal
  book_good h m e = rw (le-leb _ _ h, e)

  pub header_sized : (m : ℕ) → check_header basis (length b) b ≡ Ok m → Sized b
  unfolding check_header
  header_sized m e = record {
    size = eqb-true _ _ (need_true _ _ _ _ (then_right _ _ _ e));
    few = leb-true _ _ (need_true _ _ _ _ (then_right _ _ _ (then_left _ _ _ (then_left _ _ _ e))));
  }

  -- what is longer than any book is refused by its header
  pub book_long : most_size < length b → check_book basis b ≡ check_header basis (length b) b
  unfolding check_book need first_refusal
  book_long h =
      rw (le-leb header_size (length b) (omega arith))
      (by (check_header basis (length b) b) (λ m e. omega (arith, (header_sized m e).size, (header_sized m e).few)))
    where
      by : (v : Verdict) → ((m : ℕ) → v ≡ Ok m → ⊥)
          → (Ok 0 and_then v and_then check_tables b and_then check_chains b (last_class basis)) ≡ v
      by (Ok m) never = absurd (never m refl)
      by (Err r) never = refl
