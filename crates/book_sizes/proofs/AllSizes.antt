-- The number of records of the chains, as a sum over their first classes. Assumes nothing.
use mathlib.Core.Path.{◌≡◌, refl}
use mathlib.Core.List.{List}
use Prim.Native.Nat.{ℕ, zero, suc, ◌+◌, ◌-◌, ◌≤◌}
use native.Mathlib.Omega.{arith}
use native.Mathlib.Numerals.{add-one}
use lib.ListN.{length, take}
use lib.Seq.{take_all}
use Rattle.std.specs.List.{sum_by}
use Rattle.std.proofs.lemmas.List.Sums.{fold_more}
use Rattle.lists.specs.Sums.{sum_by as sum_of}
use Rattle.book_contents.specs.Contents.{no_class, size_of, records_before}

-- of the first chains, so many of them
pub sizes_before : (first : List ℕ) (n : ℕ) → n ≤ length first
    → sum_by (λ (class : ℕ). no_class - class) (take n first) ≡ records_before first n
unfolding sum_of size_of
sizes_before first zero few = refl
sizes_before first (suc n) few =
    rw (
      ← add-one n,
      fold_more (λ (a class : ℕ). a + (no_class - class)) 0 first n 0 (omega arith),
      sizes_before first n (omega arith),
    ) refl

pub all_sizes : (first : List ℕ) (n : ℕ) → length first ≡ n
    → sum_by (λ (class : ℕ). no_class - class) first ≡ records_before first n
all_sizes first n e =
    let whole : take n first ≡ first = take_all n first (omega arith) in
    rw whole at (sizes_before first n (omega arith))
