-- The lists of a book: how long they are, and where an entry stands in them. Assumes nothing.
use mathlib.Core.Path.{◌≡◌, refl, sym, ap, ◌∙◌}
use mathlib.Core.List.{List}
use Prim.Native.Nat.{ℕ, zero, suc, ◌+◌, ◌-◌, ◌<◌, ◌≤◌}
use native.Mathlib.Omega.{arith}
use lib.ListN.{length, get_or, length-append}
use Rattle.lists.specs.Sums.{sum_by}
use Rattle.book.specs.Layout.{chains, field_of, link_at}
use Rattle.buffer.specs.Text.{joined}
use Rattle.book_contents.specs.Contents.{no_class, size_of, records_before}
use Rattle.book_contents.specs.Reading.{first_in, firsts_of, list_in, field_list}
use Rattle.book_contents.proofs.Stands.{stands_self, stands_whole, stands_part, stands_joined}
use Rattle.lists.proofs.Each.{each_length, each_at}

-- the first classes of a book, one by one
pub firsts_at : (b : List ℕ) (k : ℕ) → k < chains → get_or (firsts_of b) k 0 ≡ first_in b k
unfolding firsts_of
firsts_at b k few = each_at (first_in b) 0 chains k few

pub firsts_size : (b : List ℕ) (k : ℕ) → k < chains → no_class - first_in b k ≡ size_of (firsts_of b) k
unfolding size_of
firsts_size b k few = rw (firsts_at b k few)

module _ (b first : List ℕ) (sizes : (k : ℕ) → k < chains → no_class - first_in b k ≡ size_of first k) (offset : ℕ)
  where
    pub list_size : (k : ℕ) → k < chains → length (list_in b offset k) ≡ size_of first k
    unfolding list_in
    list_size k few = each_length _ (no_class - first_in b k) ∙ sizes k few

    pub lists_size : (n : ℕ) → n ≤ chains → length (joined (list_in b offset) n) ≡ records_before first n
    unfolding joined sum_by
    lists_size zero h = refl
    lists_size (suc n) h =
        omega (
          arith,
          length-append (joined (list_in b offset) n) (list_in b offset n),
          lists_size n (omega arith),
          list_size n (omega arith),
        )

    list_at : (k j : ℕ) → k < chains → j < size_of first k → get_or (list_in b offset k) j 0 ≡ field_of b
        (link_at b k j)
        offset
    unfolding list_in
    list_at k j few h = each_at (λ (i : ℕ). field_of b (link_at b k i) offset) 0 (no_class - first_in b k) j
        (omega (arith, sizes k few))

    -- entry j of chain k, in the lists of all chains
    pub lists_at : (k j : ℕ) → k < chains → j < size_of first k
        → get_or (field_list b offset) (records_before first k + j) 0 ≡ field_of b (link_at b k j) offset
    unfolding field_list
    lists_at k j few h =
        let place : records_before first k + j ≡ 0 + length (joined (list_in b offset) k) + j =
        omega (arith, lists_size k (omega arith)) in
        ap (λ (p : ℕ). get_or (field_list b offset) p 0) place
        ∙ stands_part (field_list b offset) (list_in b offset) 0 chains k few (stands_self (field_list b offset)) j
        (omega (arith, list_size k few))
        ∙ list_at k j few h

    -- a list that has each entry at its place, and no others, is the book's
    pub lists_whole : (l : List ℕ) → length l ≡ records_before first chains
        → ((k j : ℕ) → k < chains → j < size_of first k → field_of b (link_at b k j) offset ≡ get_or l
        (records_before first k + j) 0)
        → field_list b offset ≡ l
    unfolding field_list
    lists_whole l size same =
        stands_whole l (field_list b offset) (lists_size chains (omega arith) ∙ sym size)
        (stands_joined l (list_in b offset) 0 chains
        (λ k few j h.
        let inside : j < size_of first k = omega (arith, list_size k few) in
        let place : 0 + length (joined (list_in b offset) k) + j ≡ records_before first k + j =
        omega (arith, lists_size k (omega arith)) in
        ap (λ (p : ℕ). get_or l p 0) place ∙ sym (same k j few inside) ∙ sym (list_at k j few inside)))
