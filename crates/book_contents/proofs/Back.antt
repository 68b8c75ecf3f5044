-- Reading what was written returns what went in. Assumes nothing.
use mathlib.Core.Path.{◌≡◌, ap, ◌∙◌}
use mathlib.Core.Logic.{⊎_elim}
use mathlib.Core.List.{List}
use Prim.Native.Nat.{ℕ, ◌+◌, ◌-◌, ◌*◌, ◌<◌, ◌≤◌}
use native.Mathlib.Omega.{arith}
use borrow.Author.Tests.{eq-eqb, ne_eqb}
use lib.IntN.{pos}
use lib.ListN.{get_or}
use Rattle.le_bytes.specs.Bytes.{read_u32}
use Rattle.std.specs.Prelude.{Ok}
use Rattle.book.specs.Layout.{chains, head_of, cost_place, curve_place, mortality_place, count_offset, lapse_offset}
use Rattle.book.specs.Layout.{premium_offset, claims_offset}
use Rattle.buffer.proofs.Digits.{le_or_lt}
use Rattle.book_contents.specs.Contents.{Contents, no_class, size_of}
use Rattle.book_contents.specs.Written.{number_of, book_of}
use Rattle.book_contents.specs.Limits.{check_contents, Fit, Shaped}
use Rattle.book_contents.specs.Reading.{signed_of, first_in, firsts_of, field_list, values_of, contents_of}
use Rattle.book_contents.proofs.Stands.{stands_self, each_whole}
use Rattle.book_contents.proofs.Numbers.{four_read, curve_small, curve_back}
use Rattle.book_contents.proofs.Laid.{Laid, stands_laid}
use Rattle.book_contents.proofs.Fit.{fit}
use Rattle.book_contents.proofs.Linked.{head_none, head_some, edition_is, men_is, women_is, year_is, head_is}
use Rattle.book_contents.proofs.Linked.{class_of_entry, count_of_entry}
use Rattle.book_contents.proofs.Linked.{lapse_of_entry, premium_of_entry, claims_of_entry, link_in}
use Rattle.book_contents.proofs.Lists.{lists_whole}
use Rattle.lists.specs.Each.{each}

module _ (b : List ℕ) (v : Contents) (f : Fit v) (x : Laid b v) where
  first_is : (k : ℕ) → k < chains → first_in b k ≡ get_or v.values.first k 0
  unfolding first_in size_of
  first_is k few =
      ⊎_elim
      (λ (z : size_of v.values.first k ≤ 0).
      let none : head_of b k ≡ 0 = head_is b v f x k few ∙ head_none v.values.first k (omega arith) in
      rw (eq-eqb _ _ none) (omega (arith, f.first k)))
      (λ (s : 0 < size_of v.values.first k).
      let head : head_of b k ≡ number_of v.values.first k 0 = head_is b v f x k few
      ∙ head_some v.values.first k s in
      rw (ne_eqb (head_of b k) 0 (λ z. absurd (omega arith)), head) (omega (arith, class_of_entry b v f x k 0 few s)))
      (le_or_lt (size_of v.values.first k) 0)

  sizes : (k : ℕ) → k < chains → no_class - first_in b k ≡ size_of v.values.first k
  unfolding size_of
  sizes k few = rw (first_is k few)

  counts_back : field_list b count_offset ≡ v.counts
  counts_back =
      lists_whole b v.values.first sizes count_offset v.counts f.counts_size
      (λ k j few h. rw (link_in b v f x k few j h) (count_of_entry b v f x k j few h))

  lapses_back : field_list b lapse_offset ≡ v.lapses
  lapses_back =
      lists_whole b v.values.first sizes lapse_offset v.lapses f.lapses_size
      (λ k j few h. rw (link_in b v f x k few j h) (lapse_of_entry b v f x k j few h))

  premiums_back : field_list b premium_offset ≡ v.premiums
  premiums_back =
      lists_whole b v.values.first sizes premium_offset v.premiums f.premiums_size
      (λ k j few h. rw (link_in b v f x k few j h) (premium_of_entry b v f x k j few h))

  claims_back : field_list b claims_offset ≡ v.claims
  claims_back =
      lists_whole b v.values.first sizes claims_offset v.claims f.claims_size
      (λ k j few h. rw (link_in b v f x k few j h) (claims_of_entry b v f x k j few h))

  module _ (s : Shaped v.values) where
    cost_back : each (λ (j : ℕ). read_u32 b (cost_place + 4 * j)) 5 ≡ v.values.cost
    cost_back = each_whole _ 0 5 _ s.cost (λ j l. four_read b _ _ (omega (arith, f.cost j)) (x.cost j l))

    curve_back_all : each (λ (j : ℕ). signed_of (read_u32 b (curve_place + 4 * j))) 49 ≡ v.values.curve
    curve_back_all =
        each_whole _ (pos 0) 49 _ s.curve
        (λ j l. ap signed_of (four_read b _ _ (curve_small _ (f.curve j)) (x.curve j l)) ∙ curve_back _ (f.curve j))

    mortality_back : each (λ (j : ℕ). read_u32 b (mortality_place + 4 * j)) 242 ≡ v.values.mortality
    mortality_back = each_whole _ 0 242 _ s.mortality
        (λ j l. four_read b _ _ (omega (arith, f.mortality j)) (x.mortality j l))

    first_back : firsts_of b ≡ v.values.first
    unfolding firsts_of
    first_back = each_whole (first_in b) 0 14 v.values.first s.first first_is

    values_back : contents_of b ≡ v
    unfolding contents_of values_of
    values_back =
        rw (
          edition_is b v f x,
          men_is b v f x,
          women_is b v f x,
          year_is b v f x,
          cost_back,
          curve_back_all,
          mortality_back,
          first_back,
          counts_back,
          lapses_back,
          premiums_back,
          claims_back,
        )

-- Reading the book of values that are not refused gives those values.
pub read_written : (v : Contents) (capacity n : ℕ) → Shaped v.values → check_contents v capacity ≡ Ok n
    → contents_of (book_of v) ≡ v
read_written v capacity n s e =
    values_back (book_of v) v (fit v capacity n e) (stands_laid (book_of v) v (stands_self (book_of v))) s
