-- Bytes of unlinked records have no effect: two books that differ in nothing else have the same verdict. Assumes
-- nothing.
use mathlib.Core.Path.{◌≡◌, refl, ◌∙◌}
use mathlib.Core.List.{List}
use mathlib.Core.Bool.{Bool, true, false, cond}
use Prim.Native.Nat.{ℕ, zero, suc, ◌+◌, ◌-◌, ◌<◌}
use native.Mathlib.Nat.{pos_of_ne-zero}
use native.Mathlib.Omega.{arith}
use borrow.Author.Tests.{eqb-true, eqb-false, ne_eqb}
use lib.Dec.{leb, eqb}
use lib.ListN.{length}
use Rattle.verdict.specs.Verdicts.{first_refusal, need, plus, refusal_of, place_of, ◌and_then◌, Verdict, refused}
use Rattle.std.specs.Prelude.{Ok, Err}
use Rattle.verdict.proofs.Verdicts.{all_same}
use Rattle.le_bytes.proofs.Same.{u16_same, field_same, fields_same}
use Rattle.book.specs.Layout.{last_class, chains, records, head_place, head_of, cost_place, curve_place}
use Rattle.book.specs.Layout.{mortality_place, most_rate, curve_lift, curve_span, record_at, class_of, next_of}
use Rattle.book.specs.Layout.{link_from}
use Rattle.book.specs.Layout.{link_at}
use Rattle.book.specs.Check.{check_tables, check_owner, check_class, check_amounts, ends_right, check_link, check_from}
use Rattle.book.specs.Check.{check_chain, check_chains, check_book}
use Rattle.book.specs.Cells.{holds}
use Rattle.book.specs.Rules.{SameButUnlinked}
use Rattle.book.proofs.Links.{link_next}
use Rattle.book.proofs.Same.{SameRecord, class_same, next_same, field_of_same, front_same, count_same, head_same}
use Rattle.book.proofs.Same.{record_same, header_same}

-- a verdict that refuses, and what comes after it
abbrev Refuses : Verdict → Type 0
Refuses v = v ≡ refused (refusal_of v) (place_of v)

refuses_left : (v w : Verdict) → Refuses v → Refuses (v and_then w)
unfolding first_refusal
refuses_left (Ok n) w e = cc
refuses_left (Err r) w e = refl

refuses_right : (v w : Verdict) → Refuses w → Refuses (v and_then w)
unfolding first_refusal
refuses_right (Ok n) w e = e
refuses_right (Err r) w e = refl

hidden : (v w w' : Verdict) → Refuses v → (v and_then w) ≡ (v and_then w')
unfolding first_refusal
hidden (Ok n) w w' e = cc
hidden (Err r) w w' e = refl

module _ (b b' : List ℕ) (last k : ℕ) (count : records b ≡ records b') where
  module _ (i : ℕ) (same : SameRecord b b' i) where
    holds_same : holds b i ≡ holds b' i
    unfolding holds
    holds_same = rw (field_of_same b b' i same 8 (omega arith))

    owner_same : check_owner b k (record_at i) ≡ check_owner b' k (record_at i)
    unfolding check_owner
    owner_same =
        rw (
          same (record_at i) (omega arith) (omega arith),
          same (record_at i + 1) (omega arith) (omega arith),
          same (record_at i + 3) (omega arith) (omega arith),
          u16_same b b' _ _ same (record_at i + 6) (omega arith) (omega arith),
        )

    amounts_same : check_amounts b (record_at i) ≡ check_amounts b' (record_at i)
    unfolding check_amounts
    amounts_same =
        rw (
          field_same b b' _ _ same 12 0 100000 (record_at i + 8) (omega arith) (omega arith),
          field_same b b' _ _ same 12 0 1000000 (record_at i + 12) (omega arith) (omega arith),
          field_same b b' _ _ same 12 0 10000000 (record_at i + 16) (omega arith) (omega arith),
          field_same b b' _ _ same 12 0 10000000 (record_at i + 20) (omega arith) (omega arith),
        )

    link_same : (left : ℕ) → check_link b last k left i ≡ check_link b' last k left i
    unfolding check_link check_class
    link_same left =
        rw (owner_same, same (record_at i + 2) (omega arith) (omega arith), amounts_same, next_same b b' i same, count)

  -- a record that ends its chain too early is refused
  link_early : (left i : ℕ) → next_of b i ≡ 0 → Refuses (check_link b last k (suc left) i)
  unfolding check_link need ends_right
  link_early left i none =
      refuses_left _ _ (refuses_right _ _ (rw (ne_eqb (suc left) 0 (λ z. absurd (omega arith)), none)))

  -- one step: where the chain goes on, the rest is the same; where it ends too early, the rest is not asked
  step_same : (left i : ℕ) (t : Bool) → eqb (next_of b i) 0 ≡ t → SameRecord b b' i
      → (0 < next_of b i → check_from b last k left (next_of b i) ≡ check_from b' last k left (next_of b i))
      → check_from b last k (suc left) i ≡ check_from b' last k (suc left) i
  unfolding check_from
  step_same left i true e here rest =
      hidden (check_link b last k (suc left) i) _ (plus (holds b' i) (check_from b' last k left (next_of b' i)))
      (link_early left i (eqb-true _ _ e))
      ∙ rw (link_same i here (suc left))
  step_same left i false e here rest =
      rw (
        link_same i here (suc left),
        holds_same i here,
        rest (pos_of_ne-zero (eqb-false _ _ e)),
        next_same b b' i
            here,
      )

  from_same : (left i : ℕ) → 0 < i → ((j : ℕ) → 0 < link_from b i j → SameRecord b b' (link_from b i j))
      → check_from b last k left i ≡ check_from b' last k left i
  unfolding check_from link_from
  from_same zero i some same = rw (link_same i (same 0 some) 0, holds_same i (same 0 some))
  from_same (suc left) i some same =
      step_same left i (eqb (next_of b i) 0) refl (same 0 some)
      (λ more. from_same left (next_of b i) more
      (λ j l. rw (link_next b i j some) at (same (suc j) (rw (link_next b i j some) l))))

  chain_same : head_of b k ≡ head_of b' k → ((j : ℕ) → 0 < link_at b k j → SameRecord b b' (link_at b k j))
      → check_chain b last k ≡ check_chain b' last k
  unfolding check_chain link_from
  chain_same head same = rw (← head) (by_head (eqb (head_of b k) 0) refl)
    where
      chain : List ℕ → Verdict
      chain c = need (leb (head_of b k) (records c)) 9 (head_place k) and_then check_from c last k
          (last - class_of c (head_of b k)) (head_of b k)

      by_head : (t : Bool) → eqb (head_of b k) 0 ≡ t → cond t (Ok 0) (chain b) ≡ cond t (Ok 0) (chain b')
      by_head true e = refl
      by_head false e =
          let some : 0 < head_of b k = pos_of_ne-zero (eqb-false _ _ e) in
          rw (
            count,
            class_same b b' (head_of b k) (same 0 some),
            from_same (last - class_of b' (head_of b k)) (head_of b k)
                some same,
          )

module _ (b b' : List ℕ) (s : SameButUnlinked b b') where
  tables_same : check_tables b ≡ check_tables b'
  unfolding check_tables
  tables_same =
      rw (
        fields_same b b' _ _ (front_same b b' s) 6 0 most_rate cost_place 5 (omega arith) (omega arith),
        fields_same b b' _ _ (front_same b b' s) 7 curve_lift curve_span curve_place 49 (omega arith) (omega arith),
        fields_same b b' _ _ (front_same b b' s) 8 0 most_rate mortality_place 242 (omega arith) (omega arith),
      )

  pub unlinked_same : (basis : ℕ) → check_book basis b ≡ check_book basis b'
  unfolding check_book check_chains
  unlinked_same basis =
      rw (
        s.size,
        header_same b b' (λ p lo hi. s.front p (omega arith)) basis (length b'),
        tables_same,
        all_same (check_chain b (last_class basis)) (check_chain b' (last_class basis)) chains 0
            (λ k lo hi. chain_same b b' (last_class basis) k (count_same b b' s) (head_same b b' s k (omega arith))
            (λ j l. record_same b b' s k j (omega arith) l)),
      )
