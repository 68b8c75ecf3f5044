-- A refusal of the book has a number from 1 to 13 or 23, on basis 2 also 21: 0 stands for acceptance and for nothing
-- else.
-- Assumes nothing.
use mathlib.Core.Path.{◌≡◌, refl}
use mathlib.Core.List.{List}
use mathlib.Core.Bool.{Bool, true, false, cond}
use Prim.Native.Nat.{ℕ, zero, suc, ◌+◌, zero-le}
use native.Mathlib.Omega.{arith}
use borrow.Author.Tests.{le-leb}
use lib.Dec.{T, leb, eqb}
use Rattle.le_bytes.specs.Bytes.{byte_at}
use Rattle.verdict.specs.Verdicts.{need, first_refusal, plus, join, join_all, count_of, refusal_of, ◌and_then◌, Verdict}
use Rattle.le_bytes.specs.Fields.{check_field, check_fields}
use Rattle.std.specs.Prelude.{Ok, Err}
use Rattle.book.specs.Layout.{last_class, lowest_class, edition, head_of, next_of}
use Rattle.book.specs.Cells.{holds}
use Rattle.book.specs.Check.{check_spare, check_percents, check_by_edition, check_header, check_tables, check_owner}
use Rattle.book.specs.Check.{check_class, check_amounts, check_link, check_from, check_chain, check_chains, check_book}

-- a number from 1 to 13, or 23; 21 only where some class is below the lowest
abbrev listed : ℕ → ℕ → Bool
listed last q =
    cond (cond (leb 1 q) (leb q 13) false) true
    (cond (eqb q 23) true (cond (eqb q 21) (leb 1 (lowest_class last)) false))

-- accepted, or refused with such a number
abbrev pub Numbered : ℕ → Verdict → Type 0
Numbered last (Ok n) = Unit {0}
Numbered last (Err r) = T (listed last r.number)

module _ (last : ℕ) where
  by_need : (ok : Bool) (q p : ℕ) → T (listed last q) → Numbered last (need ok q p)
  unfolding need
  by_need true q p h = tt
  by_need false q p h = h

  by_then : (v w : Verdict) → Numbered last v → Numbered last w → Numbered last (v and_then w)
  unfolding first_refusal
  by_then (Ok n) w hv hw = hw
  by_then (Err r) w hv hw = hv

  by_plus : (n : ℕ) (v : Verdict) → Numbered last v → Numbered last (plus n v)
  by_plus n (Ok m) h = tt
  by_plus n (Err r) h = h

  by_join : (v w : Verdict) → Numbered last v → Numbered last w → Numbered last (join v w)
  by_join (Ok n) w hv hw = by_plus n w hw
  by_join (Err r) w hv hw = hv

  by_all : (f : ℕ → Verdict) (left k : ℕ) → ((j : ℕ) → Numbered last (f j)) → Numbered last (join_all f k left)
  unfolding join_all
  by_all f zero k each = tt
  by_all f (suc left) k each = by_join (f k) (join_all f (k + 1) left) (each k) (by_all f left (k + 1) each)

  by_test : (ok : Bool) (q p : ℕ) → T (listed last q) → (w : Verdict) → Numbered last w
      → Numbered last (w and_then need ok q p)
  by_test ok q p l w h = by_then w (need ok q p) h (by_need ok q p l)

  by_pick : (t : Bool) (v w : Verdict) → Numbered last v → Numbered last w → Numbered last (cond t v w)
  by_pick true v w hv hw = hv
  by_pick false v w hv hw = hw

  -- no class is below 0
  by_lowest : (lowest x p : ℕ) → lowest ≡ lowest_class last → Numbered last (need (leb lowest x) 21 p)
  unfolding need
  by_lowest zero x p e = rw (le-leb 0 x zero-le) tt
  by_lowest (suc lowest) x p e = by_need (leb (suc lowest) x) 21 p (rw (← e, le-leb 1 (suc lowest) (omega arith)) tt)

  module _ (b : List ℕ) where
    by_field : (q lift span at : ℕ) → T (listed last q) → Numbered last (check_field b q lift span at)
    unfolding check_field
    by_field q lift span at h = by_need _ q at h

    by_fields : (q lift span at count : ℕ) → T (listed last q) → Numbered last (check_fields b q lift span at count)
    unfolding check_fields
    by_fields q lift span at count h = by_all _ count 0 (λ j. by_field q lift span _ h)

    by_edition : Numbered last (check_by_edition b)
    unfolding check_by_edition check_percents check_spare
    by_edition = by_pick (eqb (edition b) 2) _ _ (by_test _ 23 7 tt _ (by_need _ 23 6 tt)) (by_need _ 4 6 tt)

    by_header : (basis size : ℕ) → Numbered last (check_header basis size b)
    unfolding check_header
    by_header basis size =
        by_test _ 5 _ tt _
        (by_then _ _
        (by_test _ 4 4 tt _
        (by_test _ 4 2 tt _
        (by_test _ 3 1 tt _ (by_need _ 2 0 tt))))
        by_edition)

    by_tables : Numbered last (check_tables b)
    unfolding check_tables
    by_tables =
        by_then _ _
        (by_then _ _ (by_fields 6 _ _ _ _ tt) (by_fields 7 _ _ _ _ tt))
        (by_fields 8 _ _ _ _ tt)

    by_amounts : (at : ℕ) → Numbered last (check_amounts b at)
    unfolding check_amounts
    by_amounts at =
        by_then _ _
        (by_then _ _
        (by_then _ _ (by_field 12 _ _ _ tt) (by_field 12 _ _ _ tt))
        (by_field 12 _ _ _ tt))
        (by_field 12 _ _ _ tt)

    by_owner : (k at : ℕ) → Numbered last (check_owner b k at)
    unfolding check_owner
    by_owner k at =
        by_test _ 10 _ tt _
        (by_test _ 10 _ tt _
        (by_test _ 10 _ tt _ (by_need _ 10 _ tt)))

    by_class : (class at : ℕ) → Numbered last (check_class b (lowest_class last) class at)
    unfolding check_class
    by_class class at = by_test _ 11 _ tt _ (by_lowest (lowest_class last) _ _ refl)

    by_link : (k left i : ℕ) → Numbered last (check_link b last k left i)
    unfolding check_link
    by_link k left i =
        by_test _ 9 _ tt _
        (by_test _ 13 _ tt _
        (by_then _ _ (by_then _ _ (by_owner k _) (by_class _ _)) (by_amounts _)))

    by_from : (k left i : ℕ) → Numbered last (check_from b last k left i)
    unfolding check_from
    by_from k zero i = by_then _ _ (by_link k zero i) tt
    by_from k (suc left) i =
        by_then _ _ (by_link k (suc left) i)
        (by_plus (holds b i) (check_from b last k left (next_of b i)) (by_from k left (next_of b i)))

    by_chain : (k : ℕ) → Numbered last (check_chain b last k)
    unfolding check_chain
    by_chain k =
        by_pick (eqb (head_of b k) 0) (Ok 0) _ tt (by_then _ _ (by_need _ 9 _ tt) (by_from k _ (head_of b k)))

-- on basis 1 the rule of 21 never bites, and 11 alone is left of the class's two
pub class_on_basis_1 : (b : List ℕ) (class at : ℕ)
    → check_class b (lowest_class (last_class 1)) class at ≡ need (eqb (byte_at b (at + 2)) class) 11 (at + 2)
unfolding check_class need first_refusal
class_on_basis_1 b class at = rw (le-leb 0 (byte_at b (at + 2)) zero-le)

-- on basis 1 a number from 1 to 13 or 23, on basis 2 one of these or 21
pub numbered : (b : List ℕ) (basis : ℕ) → Numbered (last_class basis) (check_book basis b)
unfolding check_book check_chains
numbered b basis =
    let last = last_class basis in
    by_then last _ _
    (by_then last _ _ (by_then last _ _ (by_need last _ 1 _ tt) (by_header last b basis _)) (by_tables last b))
    (by_all last _ _ 0 (by_chain last b))

-- refusal 0 is acceptance
pub zero_accepted : (basis : ℕ) (b : List ℕ) → refusal_of (check_book basis b) ≡ 0
    → check_book basis b ≡ Ok (count_of (check_book basis b))
zero_accepted basis b = by (check_book basis b) (numbered b basis)
  where
    by : (v : Verdict) → Numbered (last_class basis) v → refusal_of v ≡ 0 → v ≡ Ok (count_of v)
    by (Ok n) h e = refl
    by (Err r) h e = absurd (rw e at h)
