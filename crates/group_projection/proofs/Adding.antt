-- Laws of the sums over the cells of a chain, and over the chains of a product group. Assumes nothing.
use mathlib.Core.Path.{◌≡◌, refl, sym, ap, ◌∙◌}
use mathlib.Core.List.{List, [], ◌∷◌, ◌++◌}
use Prim.Native.Nat.{ℕ, zero, suc, ◌+◌, ◌-◌, ◌*◌, ◌≤◌, ◌<◌}
use native.Mathlib.Numerals.{add-one}
use native.Mathlib.Omega.{arith}
use mathlib.Core.Bool.{Bool, true, false}
use borrow.Author.Tests.{lt-ltb, eqb-true, eqb-false}
use lib.Dec.{eqb}
use lib.ListN.{length, get_or, replicate, length-replicate, get_or-replicate}
use Rattle.lists.specs.AtMost.{AtMost}
use Rattle.lists.proofs.AtMost.{most_higher}
use Rattle.lists.specs.Sums.{sum_by, sum_from}
use Rattle.lists.proofs.Sums.{sum_more}
use Rattle.book.specs.Layout.{head_of, class_of, next_of}
use Rattle.book.specs.Cells.{holds, held_from, held_in}
use Rattle.book.specs.Reading.{ChainFrom, Standing, ValidBook}
use Rattle.book.proofs.Cells.{held_none}
use Rattle.book.proofs.Links.{after_some}
use Rattle.book.proofs.Valid.{chain_class, chain_next}
use Rattle.settings_decrements.specs.Decrements.{Decrements}
use Rattle.valuation.specs.Arithmetic.{rounded}
use Rattle.valuation.specs.Steps.{held, sum_cells, premium_sum, claims_sum}
use Rattle.valuation.specs.Portfolio.{row_at, links_from, chain_links, links_of, cells_of}
use Rattle.valuation.proofs.Rows.{chain_standing}
use Rattle.valuation.proofs.Members.{counted, links_counted, held_links}
use Rattle.cell_projection.specs.Tables.{added, added_all}
use Rattle.cell.specs.States.{premium_by, claims_by, premium_at, claims_at}
use Rattle.cell_projection.proofs.Years.{length_added, added_at, added_most}

-- the sum over a list of what f gives
unfoldable pub sum_over : (ℕ → ℕ) → List ℕ → ℕ
sum_over f [] = 0
sum_over f (i ∷ links) = f i + sum_over f links

module _ (f : ℕ → ℕ → ℕ) where
  pub added_append : (l m t : List ℕ) → added_all f (l ++ m) t ≡ added_all f m (added_all f l t)
  unfolding added_all
  added_append [] m t = refl
  added_append (i ∷ l) m t = added_append l m (added (f i) 500 t)

  -- each year's number has the year's sum over the records added
  sum_at : (l t : List ℕ) (k : ℕ) → k < 500 → k < length t
      → get_or (added_all f l t) k 0 ≡ get_or t k 0 + sum_over (λ i. f i k) l
  unfolding added_all sum_over
  sum_at [] t k h n = omega arith
  sum_at (i ∷ l) t k h n =
      omega (
        arith,
        sum_at l (added (f i) 500 t) k h (omega (arith, length_added (f i) 500 t)),
        added_at (f i) 500 t k h
            n,
      )

  -- from nothing, each year's number is the year's sum
  pub sum_from_zero : (l t : List ℕ) → t ≡ added_all f l (replicate 500 0) → (k : ℕ) → k < 500
      → get_or t k 0 ≡ sum_over (λ i. f i k) l
  sum_from_zero l t e k h =
      ap (λ (u : List ℕ). get_or u k 0) e
      ∙ omega (
        arith,
        sum_at l (replicate 500 0) k h (omega (arith, length-replicate {A = ℕ} 500 0)),
        get_or-replicate
            {A = ℕ} 500 k 0 0 h,
      )

-- sums of what agrees
pub sum_same : (f g : ℕ → ℕ) → ((i : ℕ) → f i ≡ g i) → (l : List ℕ) → sum_over f l ≡ sum_over g l
unfolding sum_over
sum_same f g h [] = refl
sum_same f g h (i ∷ l) = rw (h i, sum_same f g h l)

-- the year sums of the valuation are sums over the records
pub premium_sum_is : (b : List ℕ) (w : Decrements) (k : ℕ) (l : List ℕ)
    → sum_over (λ i. premium_at b w i k) l ≡ premium_sum rounded (cells_of b w l) k
unfolding sum_over premium_sum sum_cells cells_of premium_at premium_by
premium_sum_is b w k [] = refl
premium_sum_is b w k (i ∷ l) = rw (premium_sum_is b w k l)

pub claims_sum_is : (b : List ℕ) (w : Decrements) (k : ℕ) (l : List ℕ)
    → sum_over (λ i. claims_at b w i k) l ≡ claims_sum rounded (cells_of b w l) k
unfolding sum_over claims_sum sum_cells cells_of claims_at claims_by
claims_sum_is b w k [] = refl
claims_sum_is b w k (i ∷ l) = rw (claims_sum_is b w k l)

-- What a run over a chain keeps, with `above` records after record i: the cells from i on, added to the table t, give
-- what the whole chain gives of t₀; and t is bounded.
abbrev pub Carry : (ℕ → ℕ → ℕ) → List ℕ → ℕ → ℕ → List ℕ → ℕ → ℕ → List ℕ → Type 0
Carry f b left head t₀ above i t =
    (added_all f (counted b above i) t ≡ added_all f (counted b left head) t₀)
    × AtMost (1_000_000_000_000_000 + 1_000_000_000_000 * (left - above)) 500 t

module _ (f : ℕ → ℕ → ℕ) (b : List ℕ) (left head : ℕ) (t₀ : List ℕ) where
  pub carry_start : AtMost 1_000_000_000_000_000 500 t₀ → Carry f b left head t₀ left head t₀
  carry_start a = (refl, most_higher a (omega arith))

  pub carry_more : (above rest i : ℕ) (t u : List ℕ) → above ≡ rest + 1 → above ≤ left
      → Carry f b left head t₀ above i t
      → ((k : ℕ) → f i k ≤ 1_000_000_000_000) → u ≡ added (f i) 500 t → Carry f b left head t₀ rest (next_of b i) u
  unfolding counted added_all
  carry_more above rest i t u s hi c le e =
      let p : above ≡ suc rest = s ∙ add-one rest in (
        rw e (rw p at c.0),
        rw e (most_higher (added_most (f i) 1_000_000_000_000 500 (λ j l. le j) c.1) (omega arith)),
      )

  pub carry_end : (above i : ℕ) (t u : List ℕ) → above ≡ 0 → Carry f b left head t₀ above i t → u ≡ added (f i) 500 t
      → u ≡ added_all f (counted b left head) t₀
  unfolding counted added_all
  carry_end above i t u z c e = e ∙ (rw z at c.0)

-- n along a chain
pub cells_more : (b : List ℕ) (n above rest i m : ℕ) → above ≡ rest + 1 → 0 < i → m ≡ holds b i
    → n + held_from b i (above + 1) ≡ (n + m) + held_from b (next_of b i) (rest + 1)
unfolding held_from
cells_more b n above rest i m s some e =
    rw (add-one above, s, add-one rest, after_some b i some, e) (omega arith)

pub cells_end : (b : List ℕ) (n above i m : ℕ) → above ≡ 0 → m ≡ holds b i → n + held_from b i (above + 1) ≡ n + m
unfolding held_from
cells_end b n above i m z e = rw (z, e) (omega arith)

-- the n of the records from record i on, of which there is at most one for each class
pub chain_cells : (b : List ℕ) (w : Decrements) (k left i : ℕ) → ChainFrom b 120 k left i → left ≤ 120
    → held_from b i (left + 1) ≡ held_from b i 121
chain_cells b w k left i c h =
    sym (held_links b w (left + 1) i)
    ∙ ap (λ (l : List ℕ). held (cells_of b w l))
    (links_counted b k left i (left + 1) c (omega arith) ∙ sym (links_counted b k left i 121 c (omega arith)))
    ∙ held_links b w 121 i

-- the record after one below the last class is that of the next row
pub row_next : (b : List ℕ) (k head own above i : ℕ) → ChainFrom b 120 k above i → 0 < above → i ≡ row_at b head own
    → next_of b i ≡ row_at b head (own + 1)
unfolding row_at
row_next b k head own above i c more e =
    let young : class_of b i < 120 = omega (arith, chain_class b 120 k above i c) in
    rw (add-one own, ← e, lt-ltb (class_of b i) 120 young)

-- the linked records of an empty chain, and of one that is not
pub links_empty : (b : List ℕ) (k : ℕ) → head_of b k ≡ 0 → chain_links b k ≡ []
unfolding links_from
links_empty b k e = rw e

pub cells_empty : (b : List ℕ) (k : ℕ) → head_of b k ≡ 0 → held_in b 120 k ≡ 0
unfolding held_in
cells_empty b k e = rw (e, held_none b 121)

module _ (b : List ℕ) (v : ValidBook 1 b) (k : ℕ) (few : k < 14) (head class : ℕ) (head_is : head ≡ head_of b k)
    (some : head ≡ 0 → ⊥) (class_is : class ≡ class_of b head) where
  pub head_chain : ChainFrom b 120 k (120 - class) head
  head_chain = rw (class_is, head_is) (v.chain k few (λ z. some (head_is ∙ z)))

  pub head_links : chain_links b k ≡ counted b (120 - class) head
  head_links = rw (← head_is) (links_counted b k (120 - class) head 121 head_chain (omega arith))

-- f is bounded at every linked record
abbrev pub Small : (ℕ → ℕ → ℕ) → List ℕ → Type 0
Small f b = (k i : ℕ) → k < 14 → Standing b 120 k i → (j : ℕ) → f i j ≤ 1_000_000_000_000

module _ (f : ℕ → ℕ → ℕ) (b : List ℕ) (small : Small f b) (k : ℕ) (few : k < 14) where
  counted_most : (left i : ℕ) {m : ℕ} {t : List ℕ} → left ≤ 120 → ChainFrom b 120 k left i → AtMost m 500 t
      → AtMost (m + 1_000_000_000_000 * (left + 1)) 500 (added_all f (counted b left i) t)
  unfolding counted added_all
  counted_most zero i h c a =
      most_higher (added_most (f i) 1_000_000_000_000 500 (λ n l. small k i few (chain_standing b k 0 i c h) n) a)
      (omega arith)
  counted_most (suc left) i h c a =
      most_higher
      (counted_most left (next_of b i) (omega arith) (chain_next b 120 k (suc left) left i (omega arith) c)
      (added_most (f i) 1_000_000_000_000 500 (λ n l. small k i few (chain_standing b k (suc left) i c h) n) a))
      (omega arith)

  pub links_most : ValidBook 1 b → {m : ℕ} {t : List ℕ} → AtMost m 500 t
      → AtMost (m + 121_000_000_000_000) 500 (added_all f (chain_links b k) t)
  unfolding added_all
  links_most v {m} {t} a = by_head (eqb (head_of b k) 0) refl
    where
      by_head : (x : Bool) → eqb (head_of b k) 0 ≡ x
          → AtMost (m + 121_000_000_000_000) 500 (added_all f (chain_links b k) t)
      by_head true e = rw (links_empty b k (eqb-true _ _ e)) (most_higher a (omega arith))
      by_head false e =
          let some : head_of b k ≡ 0 → ⊥ = eqb-false _ _ e in
          rw (head_links b v k few (head_of b k) _ refl some refl)
          (most_higher (counted_most (120 - class_of b (head_of b k)) (head_of b k) (omega arith)
          (head_chain b v k few (head_of b k) _ refl some refl) a) (omega arith))

-- the table before the first chain
unfoldable pub zeros : List ℕ
zeros = replicate 500 0

-- What a run over the chains of a group keeps, before chain k of those up to `to`.
abbrev pub Gather : (ℕ → ℕ → ℕ) → List ℕ → ℕ → ℕ → List ℕ → ℕ → List ℕ → Type 0
Gather f b from to t₀ k t =
    (added_all f (links_of b k (to - k)) t ≡ added_all f (links_of b from (to - from)) t₀)
    × AtMost (121_000_000_000_000 * (k - from)) 500 t

module _ (f : ℕ → ℕ → ℕ) (b : List ℕ) (small : Small f b) (v : ValidBook 1 b) (from to : ℕ) (t₀ : List ℕ) where
  pub gather_more : (k : ℕ) (t u : List ℕ) → Gather f b from to t₀ k t → from ≤ k → k < to → to ≤ 14
      → u ≡ added_all f (chain_links b k) t → Gather f b from to t₀ (k + 1) u
  unfolding links_of
  gather_more k t u g lo hi le e =
      let s : to - k ≡ suc (to - (k + 1)) = omega arith in (
        rw e (sym (added_append f (chain_links b k) (links_of b (k + 1) (to - (k + 1))) t) ∙ (rw s at g.0)),
        rw e (most_higher (links_most f b small k (omega arith) v g.1) (omega arith)),
      )

  pub gather_end : (k : ℕ) (t : List ℕ) → k ≡ to → Gather f b from to t₀ k t
      → t ≡ added_all f (links_of b from (to - from)) t₀
  unfolding links_of added_all
  gather_end k t e g =
      let z : to - to ≡ 0 = omega arith in
      rw z at (rw e at g.0)

-- n over the chains of a group: of none, and with one more
pub group_held_none : (b : List ℕ) (from : ℕ) → 0 ≡ sum_from (held_in b 120) from (from - from)
unfolding sum_by
group_held_none b from = let z : from - from ≡ 0 = omega arith in rw z refl

pub group_held_more : (b : List ℕ) (from k n m : ℕ) → from ≤ k → n ≡ sum_from (held_in b 120) from (k - from)
    → m ≡ held_in b 120 k → n + m ≡ sum_from (held_in b 120) from (k + 1 - from)
group_held_more b from k n m h en em =
    let next : k + 1 - from ≡ k - from + 1 = omega arith in
    let chain : from + (k - from) ≡ k = omega arith in
    rw next (sum_more 0 ◌+◌ _ (k - from) n m _ en (rw chain em) refl)
