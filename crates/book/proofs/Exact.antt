-- A book is accepted exactly where it keeps the rules, and then n is the number of its linked records that hold
-- contracts.
-- No record is linked twice. Assumes nothing.
use mathlib.Core.Path.{◌≡◌, refl, sym, ap, ◌∙◌}
use mathlib.Core.Logic.{⊎_elim}
use mathlib.Core.List.{List}
use mathlib.Core.Bool.{Bool, true, false, cond}
use Prim.Native.Nat.{ℕ, zero, suc, ◌+◌, ◌-◌, ◌<◌, ◌≤◌, zero-le}
use native.Mathlib.Nat.{pos_of_ne-zero, add-zero, eq-or-lt_of_le}
use native.Mathlib.Omega.{arith}
use borrow.Author.Tests.{le-leb, eq-eqb, ne_eqb, eqb-true, eqb-false}
use lib.Dec.{leb, eqb}
use lib.ListN.{length}
use Rattle.lists.specs.Sums.{sum_by, sum_from}
use Rattle.lists.proofs.Sums.{sum_start, sum_first}
use Rattle.verdict.specs.Verdicts.{◌and_then◌, need, join_all, Verdict}
use Rattle.std.specs.Prelude.{Ok}
use Rattle.verdict.proofs.Verdicts.{need_good, then_good}
use Rattle.le_bytes.proofs.Ranges.{within_good, field_good, fields_good}
use Rattle.book.specs.Layout.{header_size, last_class, lowest_class, edition, chains, records, head_place, head_of}
use Rattle.book.specs.Layout.{record_at, class_of, next_of, field_of, link_from, link_at}
use Rattle.book.specs.Check.{check_spare, check_percents, check_by_edition, check_header, check_tables, check_owner}
use Rattle.book.specs.Check.{check_class, check_amounts, ends_right, check_link, check_from, check_chain, check_chains}
use Rattle.book.specs.Check.{check_book}
use Rattle.book.specs.Cells.{held_from, held_in, held_in_all}
use Rattle.book.specs.Rules.{HeaderRules, TableRules, RecordRules, ChainRules, Rules}
use Rattle.book.specs.Reading.{ChainFrom, ValidBook}
use Rattle.book.proofs.Cells.{held_none}
use Rattle.book.proofs.Links.{after_some, link_none, link_next}
use Rattle.book.proofs.Valid.{valid, chain_here, chain_class, chain_end, chain_next}

-- From acceptance to the rules.
module _ (b : List ℕ) (last k : ℕ) where
  links_rules : (j left i : ℕ) → 0 < i → ChainFrom b last k left i → 0 < link_from b i j
      → RecordRules b last k (link_from b i j)
  unfolding link_from
  links_rules zero left i some h l = chain_here b last k left i h
  links_rules (suc j) zero i some h l =
      let none : link_from b (next_of b i) j ≡ 0 = rw (chain_end b last k 0 i refl h) (link_none b j) in
      absurd (omega (arith, link_next b i j some))
  links_rules (suc j) (suc left) i some h l =
      let rest : ChainFrom b last k left (next_of b i) = chain_next b last k (suc left) left i (omega arith) h in
      rw (link_next b i j some)
      (links_rules j left (next_of b i) (chain_here b last k left (next_of b i) rest).first rest
      (rw (link_next b i j some) at l))

  links_rising : (j left i : ℕ) → 0 < i → left ≤ last → ChainFrom b last k left i → 0 < link_from b i j
      → class_of b (link_from b i j) ≡ class_of b i + j
  unfolding link_from
  links_rising zero left i some fits h l = sym (add-zero (class_of b i))
  links_rising (suc j) zero i some fits h l =
      let none : link_from b (next_of b i) j ≡ 0 = rw (chain_end b last k 0 i refl h) (link_none b j) in
      absurd (omega (arith, link_next b i j some))
  links_rising (suc j) (suc left) i some fits h l =
      let rest : ChainFrom b last k left (next_of b i) = chain_next b last k (suc left) left i (omega arith) h in
      let later : class_of b (link_from b (next_of b i) j) ≡ class_of b (next_of b i) + j
      = links_rising j left (next_of b i) (chain_here b last k left (next_of b i) rest).first (omega arith) rest
      (rw (link_next b i j some) at l) in
      rw (link_next b i j some)
      (omega (arith, later, chain_class b last k (suc left) i h, chain_class b last k left (next_of b i) rest))

-- an empty chain links nothing
pub empty_chain : (b : List ℕ) (k j : ℕ) → head_of b k ≡ 0 → 0 < link_at b k j → ⊥
empty_chain b k j none l =
    let z : link_from b (head_of b k) j ≡ 0 = rw none (link_none b j) in
    absurd (omega arith)

module _ (basis : ℕ) (b : List ℕ) (v : ValidBook basis b) (k : ℕ) (few : k < chains) where
  -- a chain with a linked record is not empty
  chain_whole : (j : ℕ) → 0 < link_at b k j
      → ChainFrom b (last_class basis) k (last_class basis - class_of b (head_of b k)) (head_of b k)
  chain_whole j l = v.chain k few (λ none. empty_chain b k j none l)

  chain_some : (j : ℕ) → 0 < link_at b k j → 0 < head_of b k
  chain_some j l = pos_of_ne-zero (λ none. empty_chain b k j none l)

  chain_rules : ChainRules b (last_class basis) k
  chain_rules = record {
    linked = λ j l. links_rules b (last_class basis) k j _ (head_of b k) (chain_some j l) (chain_whole j l) l;
    rising = λ j l. links_rising b (last_class basis) k j _ (head_of b k) (chain_some j l) (omega arith)
        (chain_whole j l)
        l;
  }

pub accepted_rules : (basis : ℕ) (b : List ℕ) (n : ℕ) → check_book basis b ≡ Ok n → Rules basis b
accepted_rules basis b n e =
    let v = valid basis b n e in
    record { header = v.header; tables = v.tables; chain = chain_rules basis b v }

-- From the rules to acceptance.
by_edition_good : (basis : ℕ) (b : List ℕ) → HeaderRules basis b → check_by_edition b ≡ Ok 0
unfolding check_by_edition check_percents check_spare
by_edition_good basis b h =
    ⊎_elim
    (λ (two : edition b ≡ 2).
    rw (eq-eqb (edition b) 2 two)
    (then_good _ _ _ _
    (need_good _ _ _ (within_good _ _ _ (h.percent_low two 0 (omega arith)) (h.percent_high two 0 (omega arith))))
    (need_good _ _ _ (within_good _ _ _ (h.percent_low two 1 (omega arith)) (h.percent_high two 1 (omega arith))))))
    (λ (below : edition b < 2).
    let other : edition b ≡ 2 → ⊥ = λ two. absurd (omega arith) in
    rw (ne_eqb (edition b) 2 other) (need_good _ _ _ (eq-eqb _ _ (h.spare (omega arith)))))
    (eq-or-lt_of_le h.edition_high)

header_good : (basis : ℕ) (b : List ℕ) → HeaderRules basis b → check_header basis (length b) b ≡ Ok 0
unfolding check_header
header_good basis b h =
    then_good _ _ _ _
    (then_good _ _ _ _
    (then_good _ _ _ _
    (then_good _ _ _ _
    (then_good _ _ _ _
    (need_good _ _ _ (within_good _ _ _ h.edition_low h.edition_high))
    (need_good _ _ _ (eq-eqb _ _ h.basis_is)))
    (need_good _ _ _ (within_good _ _ _ h.year_low h.year_high)))
    (need_good _ _ _ (le-leb _ _ h.few)))
    (by_edition_good basis b h))
    (need_good _ _ _ (eq-eqb _ _ h.size))

tables_good : (b : List ℕ) → TableRules b → check_tables b ≡ Ok 0
unfolding check_tables
tables_good b t =
    then_good _ _ _ _
    (then_good _ _ _ _ (fields_good b _ _ _ _ _ t.cost) (fields_good b _ _ _ _ _ t.curve))
    (fields_good b _ _ _ _ _ t.mortality)

module _ (b : List ℕ) (last k : ℕ) where
  owner_good : (i : ℕ) → RecordRules b last k i → check_owner b k (record_at i) ≡ Ok 0
  unfolding check_owner
  owner_good i r =
      then_good _ _ _ _
      (then_good _ _ _ _
      (then_good _ _ _ _ (need_good _ _ _ (eq-eqb _ _ r.code)) (need_good _ _ _ (eq-eqb _ _ r.sex)))
      (need_good _ _ _ (eq-eqb _ _ r.spare)))
      (need_good _ _ _ (eq-eqb _ _ r.spare_two))

  amounts_good : (i : ℕ) → RecordRules b last k i → check_amounts b (record_at i) ≡ Ok 0
  unfolding check_amounts field_of
  amounts_good i r =
      then_good _ _ _ _
      (then_good _ _ _ _
      (then_good _ _ _ _ (field_good _ _ _ _ _ r.count) (field_good _ _ _ _ _ r.lapse))
      (field_good _ _ _ _ _ r.premium))
      (field_good _ _ _ _ _ r.claims)

  class_good : (left i : ℕ) → RecordRules b last k i → left + class_of b i ≡ last
      → check_class b (lowest_class last) (last - left) (record_at i) ≡ Ok 0
  unfolding check_class class_of
  class_good left i r c =
      let e : class_of b i ≡ last - left = omega arith in
      then_good _ _ _ _ (need_good _ _ _ (le-leb _ _ r.class_low)) (need_good _ _ _ (eq-eqb _ _ e))

  ends_good : (left i : ℕ) → RecordRules b last k i → left + class_of b i ≡ last → ends_right left (next_of b i) ≡ true
  unfolding ends_right
  ends_good zero i r c = eq-eqb _ _ (r.ends (omega arith))
  ends_good (suc left) i r c =
      let more : next_of b i ≡ 0 → ⊥ = λ z. let e = r.goes_on z in absurd (omega arith) in
      rw (ne_eqb (suc left) 0 (λ z. absurd (omega arith)), ne_eqb (next_of b i) 0 more)

  link_good : (left i : ℕ) → RecordRules b last k i → left + class_of b i ≡ last → next_of b i ≤ records b
      → check_link b last k left i ≡ Ok 0
  unfolding check_link
  link_good left i r c inside =
      then_good _ _ _ _
      (then_good _ _ _ _
      (then_good _ _ _ _ (then_good _ _ _ _ (owner_good i r) (class_good left i r c)) (amounts_good i r))
      (need_good _ _ _ (ends_good left i r c)))
      (need_good _ _ _ (le-leb _ _ inside))

  pub from_good : (left i m : ℕ) → 0 < i → left + class_of b i ≡ last → left < m
      → ((j : ℕ) → 0 < link_from b i j → RecordRules b last k (link_from b i j))
      → ((j : ℕ) → 0 < link_from b i j → class_of b (link_from b i j) ≡ class_of b i + j)
      → check_from b last k left i ≡ Ok (held_from b i m)
  unfolding check_from held_from link_from
  from_good left i zero some c h linked rising = absurd (omega arith)
  from_good zero i (suc m) some c h linked rising =
      let r : RecordRules b last k i = linked 0 some in
      let end : next_of b i ≡ 0 = r.ends (omega arith) in
      then_good _ _ _ _ (link_good 0 i r c (rw end zero-le)) (rw (after_some b i some, end, held_none b m, add-zero))
  from_good (suc left) i (suc m) some c h linked rising =
      let r : RecordRules b last k i = linked 0 some in
      let more : 0 < next_of b i = pos_of_ne-zero (λ z. let e = r.goes_on z in absurd (omega arith)) in
      let next : RecordRules b last k (next_of b i) =
      rw (link_next b i 0 some) at (linked 1 (rw (link_next b i 0 some) more)) in
      let class : class_of b (next_of b i) ≡ class_of b i + 1 =
      rw (link_next b i 0 some) at (rising 1 (rw (link_next b i 0 some) more)) in
      let rest : check_from b last k left (next_of b i) ≡ Ok (held_from b (next_of b i) m)
      = from_good left (next_of b i) m more (omega arith) (omega arith)
      (λ j l. rw (link_next b i j some) at (linked (suc j) (rw (link_next b i j some) l)))
      (λ j l. let e = rw (link_next b i j some) at (rising (suc j) (rw (link_next b i j some) l)) in omega arith) in
      then_good _ _ _ _ (link_good (suc left) i r c next.inside) (rw (rest, after_some b i some))

  chain_good : ChainRules b last k → check_chain b last k ≡ Ok (held_in b last k)
  unfolding check_chain held_in link_from
  chain_good c = by_head (eqb (head_of b k) 0) refl
    where
      by_head : (t : Bool) → eqb (head_of b k) 0 ≡ t
          → cond t (Ok 0)
          (need (leb (head_of b k) (records b)) 9 (head_place k) and_then check_from b last k
          (last - class_of b (head_of b k)) (head_of b k))
          ≡ Ok (held_from b (head_of b k) (last + 1))
      by_head true e = let none : head_of b k ≡ 0 = eqb-true _ _ e in rw (none, held_none b (last + 1))
      by_head false e =
          let some : 0 < head_of b k = pos_of_ne-zero (eqb-false _ _ e) in
          let r : RecordRules b last k (head_of b k) = c.linked 0 some in
          then_good _ _ _ _ (need_good _ _ _ (le-leb _ _ r.inside))
          (from_good (last - class_of b (head_of b k)) (head_of b k) (last + 1) some (omega (arith, r.class_high))
          (omega arith) c.linked c.rising)

-- accepted runs, their counts added
all_counted : (f : ℕ → Verdict) (g : ℕ → ℕ) (left k : ℕ) → ((j : ℕ) → k ≤ j → j < k + left → f j ≡ Ok (g j))
    → join_all f k left ≡ Ok (sum_from g k left)
unfolding join_all sum_by
all_counted f g zero k each = refl
all_counted f g (suc left) k each =
    rw (
      each k (omega arith) (omega arith),
      all_counted f g left (k + 1) (λ j lo hi. each j (omega arith) (omega arith)),
    )
    (ap Ok (sym (sum_first g k left)))

-- a book that keeps the rules is accepted, and n is as defined
pub rules_accepted : (basis : ℕ) (b : List ℕ) → Rules basis b
    → check_book basis b ≡ Ok (held_in_all b (last_class basis))
unfolding check_book check_chains held_in_all
rules_accepted basis b r =
    let long : header_size ≤ length b = omega (arith, r.header.size) in
    then_good _ _ _ _
    (then_good _ _ _ _
    (then_good _ _ _ _ (need_good _ _ _ (le-leb _ _ long)) (header_good basis b r.header))
    (tables_good b r.tables))
    (all_counted _ _ chains 0 (λ k lo hi. chain_good b (last_class basis) k (r.chain k (omega arith)))
    ∙ ap Ok (sum_start (held_in b (last_class basis)) chains))

-- n of an accepted book is the number of its linked records that hold contracts
pub accepted_held : (basis : ℕ) (b : List ℕ) (n : ℕ) → check_book basis b ≡ Ok n
    → n ≡ held_in_all b (last_class basis)
accepted_held basis b n e = let f = rules_accepted basis b (accepted_rules basis b n e) in cc

-- A record is linked at most once: equal numbers are the same place of the same chain. So n counts no record twice.
module _ (basis : ℕ) (b : List ℕ) (r : Rules basis b) (k k' j j' : ℕ) (few : k < chains) (few' : k' < chains)
    (some : 0 < link_at b k j) (same : link_at b k j ≡ link_at b k' j') where
  pub one_chain : k ≡ k'
  one_chain =
      let x = (r.chain k few).linked j some in
      let y = rw (← same) at ((r.chain k' few').linked j' (rw (← same) some)) in
      omega (arith, x.code, x.sex, y.code, y.sex)

  pub one_place : j ≡ j'
  one_place =
      let y : class_of b (link_at b k j) ≡ class_of b (head_of b k) + j' =
      rw (same, one_chain) ((r.chain k' few').rising j' (rw (← same) some)) in
      omega (arith, y, (r.chain k few).rising j some)
