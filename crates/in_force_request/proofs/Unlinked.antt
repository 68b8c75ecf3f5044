-- Records that no chain links have no effect on which record is asked for. Assumes nothing.
use mathlib.Core.Path.{◌≡◌, refl, sym, ap, ◌∙◌}
use mathlib.Core.Bool.{Bool, true, false, cond}
use mathlib.Core.List.{List, [], ◌∷◌}
use Prim.Native.Nat.{ℕ, zero, suc, ◌+◌, ◌<◌}
use native.Mathlib.Nat.{zero-add, suc-add, pos_of_ne-zero}
use borrow.Author.Tests.{eqb-false}
use lib.Dec.{eqb}
use Rattle.book.specs.Layout.{last_class, chains, head_of, next_of, record_after, link_from}
use Rattle.book.specs.Rules.{SameButUnlinked}
use Rattle.book.specs.Reading.{ValidBook}
use Rattle.book.proofs.Links.{link_next}
use Rattle.book.proofs.Same.{SameRecord, class_same, next_same, head_same, record_same}
use Rattle.valuation.specs.Portfolio.{links_from, chain_links}
use Rattle.valuation.proofs.Unlinked.{Kept}
use Rattle.in_force_request.specs.Request.{of_class}
use Rattle.in_force_request.proofs.Records.{link_all, link_standing}

-- steps along a chain, one after the other
link_add : (b : List ℕ) (m i j : ℕ) → link_from b (link_from b i m) j ≡ link_from b i (m + j)
unfolding link_from
link_add b zero i j = ap (link_from b i) (sym (zero-add j))
link_add b (suc m) i j = link_add b m (record_after b i) j ∙ ap (link_from b i) (sym (suc-add m j))

module _ (b b' : List ℕ) (class : ℕ) where
  -- the same record is found where the linked ones have the same bytes
  found_same : (m i : ℕ) → ((j : ℕ) → 0 < link_from b i j → SameRecord b b' (link_from b i j))
      → of_class b class (links_from b i m) ≡ of_class b' class (links_from b' i m)
  unfolding of_class links_from link_from
  found_same zero i same = refl
  found_same (suc m) i same =
      by (eqb i 0) refl
      (λ some.
      found_same m (next_of b i) (λ j l. rw (link_next b i j some) at (same (suc j) (rw (link_next b i j some) l))))
    where
      by : (t : Bool) → eqb i 0 ≡ t
          → (0 < i → of_class b class (links_from b (next_of b i) m)
          ≡ of_class b' class (links_from b' (next_of b i) m))
          → of_class b class (cond t [] (i ∷ links_from b (next_of b i) m))
          ≡ of_class b' class (cond t [] (i ∷ links_from b' (next_of b' i) m))
      by true e later = refl
      by false e later =
          let some : 0 < i = pos_of_ne-zero (eqb-false _ _ e) in
          let here = same 0 some in
          rw (later some, class_same b b' i here, next_same b b' i here)

module _ (b b' : List ℕ) (s : SameButUnlinked b b') (k : ℕ) (few : k < chains) (class : ℕ) where
  pub chain_same : of_class b class (chain_links b k) ≡ of_class b' class (chain_links b' k)
  chain_same =
      rw (← head_same b b' s k few)
      (found_same b b' class (last_class 1 + 1) (head_of b k) (λ j l. record_same b b' s k j few l))

  -- the record of the class, with what is linked behind it, is kept
  pub record_kept : ValidBook 1 b → 0 < of_class b class (chain_links b k)
      → Kept b b' k (of_class b class (chain_links b k))
  record_kept v got = (
    link_standing b v k few class got,
    link_all b v k few class got (λ x. (j : ℕ) → 0 < link_from b x j → SameRecord b b' (link_from b x j))
        (λ m _ j l.
        rw (link_add b m (head_of b k) j) (record_same b b' s k (m + j) few (rw (link_add b m (head_of b k) j) at l))),
  )
