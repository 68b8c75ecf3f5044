-- Which record is asked for: it stands in its chain, has the code, the sex and the class, and is the only linked one
-- that does, for the classes of a chain rise. Assumes nothing.
use mathlib.Core.Path.{◌≡◌, refl, sym, ap, ◌∙◌}
use mathlib.Core.Bool.{Bool, true, false, cond}
use mathlib.Core.List.{List, [], ◌∷◌}
use Prim.Native.Nat.{ℕ, zero, suc, ◌+◌, ◌-◌, ◌<◌, ◌≤◌}
use native.Mathlib.Numerals.{add-one}
use native.Mathlib.Omega.{arith}
use borrow.Author.Tests.{eq-eqb, ne_eqb, eqb-true, eqb-false}
use lib.Dec.{eqb}
use Rattle.book.specs.Layout.{last_class, chains, head_of, code_of, sex_of, class_of, next_of, link_from, link_at}
use Rattle.book.specs.Rules.{Rules}
use Rattle.book.specs.Reading.{ChainFrom, Standing, ValidBook}
use Rattle.book.proofs.Links.{link_none, link_next}
use Rattle.book.proofs.Valid.{chain_here, chain_end, chain_next}
use Rattle.book.proofs.Exact.{empty_chain}
use Rattle.valuation.specs.Portfolio.{links_from, chain_links}
use Rattle.valuation.proofs.Rows.{chain_standing}
use Rattle.valuation.proofs.Members.{counted, links_counted}
use Rattle.std.specs.Prelude.{Some, None}
use Rattle.in_force_request.specs.Request.{chain_of, of_class, if_any, record_at_class, OnlyOne}

module _ (b : List ℕ) (class : ℕ) where
  -- by the class of the first record
  of_here : (i : ℕ) (links : List ℕ) → class_of b i ≡ class → of_class b class (i ∷ links) ≡ i
  unfolding of_class
  of_here i links is = rw (eq-eqb (class_of b i) class is)

  of_next : (i : ℕ) (links : List ℕ) → (class_of b i ≡ class → ⊥)
      → of_class b class (i ∷ links) ≡ of_class b class links
  unfolding of_class
  of_next i links other = rw (ne_eqb (class_of b i) class other)

  of_none : of_class b class [] ≡ 0
  unfolding of_class
  of_none = refl

  -- the same of record i and the left records after it
  pub counted_here : (left i : ℕ) → class_of b i ≡ class → of_class b class (counted b left i) ≡ i
  unfolding counted
  counted_here zero i is = of_here i [] is
  counted_here (suc left) i is = of_here i (counted b left (next_of b i)) is

  pub counted_end : (left i : ℕ) → left ≡ 0 → (class_of b i ≡ class → ⊥) → of_class b class (counted b left i) ≡ 0
  unfolding counted
  counted_end left i z other = rw z (of_next i [] other ∙ of_none)

  pub counted_on : (left rest i : ℕ) → left ≡ rest + 1 → (class_of b i ≡ class → ⊥)
      → of_class b class (counted b left i) ≡ of_class b class (counted b rest (next_of b i))
  unfolding counted
  counted_on left rest i s other =
      let t : left ≡ suc rest = s ∙ add-one rest in
      rw t (of_next i (counted b rest (next_of b i)) other)

  of_either : (P : ℕ → Type 0) (i : ℕ) (links : List ℕ) → (class_of b i ≡ class → P i)
      → ((class_of b i ≡ class → ⊥) → P (of_class b class links)) → P (of_class b class (i ∷ links))
  unfolding of_class
  of_either P i links here later = by (eqb (class_of b i) class) refl
    where
      by : (t : Bool) → eqb (class_of b i) class ≡ t → P (cond t i (of_class b class links))
      by true e = here (eqb-true _ _ e)
      by false e = later (eqb-false _ _ e)

  -- what is found has the class
  pub found_class : (links : List ℕ) → 0 < of_class b class links → class_of b (of_class b class links) ≡ class
  found_class [] some = absurd (omega (arith, of_none))
  found_class (i ∷ links) some =
      of_either (λ x. 0 < x → class_of b x ≡ class) i links (λ is _. is) (λ _ more. found_class links more) some

  -- along chain k from record i on, with left records after it
  module _ (k : ℕ) where
    abbrev found : ℕ → ℕ → ℕ
    found left i = of_class b class (counted b left i)

    first : (left i : ℕ) → ChainFrom b (last_class 1) k left i → 0 < i
    first left i h = (chain_here b (last_class 1) k left i h).first

    rest : (left i : ℕ) → ChainFrom b (last_class 1) k (suc left) i → ChainFrom b (last_class 1) k left (next_of b i)
    rest left i h = chain_next b (last_class 1) k (suc left) left i (omega arith) h

    -- what holds of all records that are linked from there on holds of the one that is found
    found_all : (P : ℕ → Type 0) (left i : ℕ) → ChainFrom b (last_class 1) k left i
        → ((j : ℕ) → 0 < link_from b i j → P (link_from b i j)) → 0 < found left i → P (found left i)
    unfolding counted link_from
    found_all P zero i h each =
        of_either (λ x. 0 < x → P x) i [] (λ _ _. each 0 (first 0 i h)) (λ _ more. absurd (omega (arith, of_none)))
    found_all P (suc left) i h each =
        let some = first (suc left) i h in
        of_either (λ x. 0 < x → P x) i (counted b left (next_of b i)) (λ _ _. each 0 some)
        (λ _. found_all P left (next_of b i) (rest left i h)
        (λ j l. rw (link_next b i j some) at (each (suc j) (rw (link_next b i j some) l))))

    -- it stands in the chain
    found_standing : (left i : ℕ) → left ≤ last_class 1 → ChainFrom b (last_class 1) k left i → 0 < found left i
        → Standing b (last_class 1) k (found left i)
    unfolding counted
    found_standing zero i fits h =
        of_either (λ x. 0 < x → Standing b (last_class 1) k x) i [] (λ _ _. chain_standing b k 0 i h fits)
        (λ _ more. absurd (omega (arith, of_none)))
    found_standing (suc left) i fits h =
        of_either (λ x. 0 < x → Standing b (last_class 1) k x) i (counted b left (next_of b i))
        (λ _ _. chain_standing b k (suc left) i h fits)
        (λ _. found_standing left (next_of b i) (omega arith) (rest left i h))

    -- where a linked record has the class, one is found
    found_some : (j left i : ℕ) → ChainFrom b (last_class 1) k left i → 0 < link_from b i j
        → class_of b (link_from b i j) ≡ class → 0 < found left i
    unfolding counted link_from
    found_some zero zero i h l e = of_either (λ x. 0 < x) i [] (λ _. first 0 i h) (λ other. absurd (other e))
    found_some zero (suc left) i h l e =
        of_either (λ x. 0 < x) i _ (λ _. first (suc left) i h) (λ other. absurd (other e))
    found_some (suc j) zero i h l e =
        let none : link_from b (next_of b i) j ≡ 0 = rw (chain_end b (last_class 1) k 0 i refl h) (link_none b j) in
        absurd (omega (arith, link_next b i j (first 0 i h)))
    found_some (suc j) (suc left) i h l e =
        let next = link_next b i j (first (suc left) i h) in
        of_either (λ x. 0 < x) i _ (λ _. first (suc left) i h)
        (λ _. found_some j left (next_of b i) (rest left i h) (rw next at l) (rw next at e))

-- chain k of an accepted book
module _ (b : List ℕ) (v : ValidBook 1 b) (k : ℕ) (few : k < chains) (class : ℕ) where
  -- the chain's record of the class
  abbrev found_in : ℕ
  found_in = of_class b class (chain_links b k)

  abbrev above : ℕ
  above = last_class 1 - class_of b (head_of b k)

  pub chain_empty : head_of b k ≡ 0 → found_in ≡ 0
  unfolding links_from
  chain_empty none = rw none (of_none b class)

  pub chain_list : (head_of b k ≡ 0 → ⊥) → found_in ≡ of_class b class (counted b above (head_of b k))
  chain_list some =
      ap (of_class b class)
      (links_counted b k above (head_of b k) (last_class 1 + 1) (v.chain k few some) (omega arith))

  -- where a record is found the chain is not empty
  module _ (got : 0 < found_in) where
    not_empty : head_of b k ≡ 0 → ⊥
    not_empty none = absurd (omega (arith, chain_empty none))

    pub link_all : (P : ℕ → Type 0) → ((j : ℕ) → 0 < link_at b k j → P (link_at b k j)) → P found_in
    link_all P each =
        let list = chain_list not_empty in
        rw list (found_all b class k P above (head_of b k) (v.chain k few not_empty) each (rw list at got))

    pub link_standing : Standing b (last_class 1) k found_in
    link_standing =
        let list = chain_list not_empty in
        rw list (found_standing b class k above (head_of b k) (omega arith) (v.chain k few not_empty) (rw list at got))

  link_some : (j : ℕ) → 0 < link_at b k j → class_of b (link_at b k j) ≡ class → 0 < found_in
  link_some j l e =
      let some : head_of b k ≡ 0 → ⊥ = λ none. empty_chain b k j none l in
      rw (chain_list some) (found_some b class k j above (head_of b k) (v.chain k few some) l e)

-- Classes rise along a chain: no two of its linked records have the same.
module _ (b : List ℕ) (r : Rules 1 b) (k : ℕ) (few : k < chains) where
  pub one_of_class : (j j' : ℕ) → 0 < link_at b k j → 0 < link_at b k j'
      → class_of b (link_at b k j) ≡ class_of b (link_at b k j') → j ≡ j'
  one_of_class j j' l l' same = omega (arith, (r.chain k few).rising j l, (r.chain k few).rising j' l')

  -- so the one that is found is the only one
  link_only : ValidBook 1 b → (class j : ℕ) → 0 < link_at b k j → class_of b (link_at b k j) ≡ class
      → link_at b k j ≡ of_class b class (chain_links b k)
  link_only v class j l e =
      let got = link_some b v k few class j l e in
      link_all b v k few class got (λ x. class_of b x ≡ class → link_at b k j ≡ x)
      (λ j' l' e'. ap (link_at b k) (one_of_class j j' l l' (e ∙ sym e')))
      (found_class b class (chain_links b k) got)

-- the record that is asked for
module _ (b : List ℕ) (v : ValidBook 1 b) (r : Rules 1 b) (code sex class : ℕ)
    (codes : (1 ≤ code) × (code ≤ 7)) (sexes : sex ≤ 1) where
  abbrev asked_few : chain_of code sex < chains
  asked_few = omega arith

  -- a linked record with the code, the sex and the class is the one
  asked_only : (k j : ℕ) → k < chains → 0 < link_at b k j → code_of b (link_at b k j) ≡ code
      → sex_of b (link_at b k j) ≡ sex
      → class_of b (link_at b k j) ≡ class → link_at b k j ≡ record_at_class b code sex class
  unfolding record_at_class
  asked_only k j few l e f g =
      let owner = (r.chain k few).linked j l in
      let chain : k ≡ chain_of code sex = omega (arith, owner.code, owner.sex) in
      rw (← chain) (link_only b r k few v class j l g)

  pub only_one : 0 < record_at_class b code sex class → OnlyOne b code sex class (record_at_class b code sex class)
  unfolding record_at_class
  only_one some =
      let owner = (link_standing b v (chain_of code sex) asked_few class some).0 in
      record {
        code_is = omega (arith, owner.code);
        sex_is = omega (arith, owner.sex);
        class_is = found_class b class (chain_links b (chain_of code sex)) some;
        only = asked_only;
      }

  -- where there is none, no linked record has all three
  pub none_linked : record_at_class b code sex class ≡ 0 → (k j : ℕ) → k < chains → 0 < link_at b k j
      → code_of b (link_at b k j) ≡ code → sex_of b (link_at b k j) ≡ sex → class_of b (link_at b k j) ≡ class → ⊥
  none_linked none k j few l e f g = absurd (omega (arith, asked_only k j few l e f g))

-- a number of a record, or none
pub if_some : (n i : ℕ) → if_any n ≡ Some i → (n ≡ i) × (0 < n)
if_some zero i e = cc
if_some (suc n) i e = (cc e, omega arith)

pub if_none : (n : ℕ) → if_any n ≡ None → n ≡ 0
if_none zero e = refl
if_none (suc n) e = cc
