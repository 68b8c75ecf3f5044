-- Laws of the steps that lower classes: one record, a chain, the whole book. Assumes nothing.
use mathlib.Core.Path.{◌≡◌, refl, sym, ap, ◌∙◌}
use mathlib.Core.List.{List}
use mathlib.Core.Bool.{Bool, true, false, cond}
use Prim.Native.Nat.{ℕ, zero, suc, ◌+◌, ◌-◌, ◌<◌, ◌≤◌}
use native.Mathlib.Nat.{pos_of_ne-zero}
use native.Mathlib.Numerals.{add-one}
use native.Mathlib.Omega.{arith}
use borrow.Author.Tests.{ne_eqb, eqb-true, eqb-false}
use lib.Dec.{eqb}
use lib.ListN.{length, set, length-set}
use lib.Seq.{get_or-set_same, get_or-set_other}
use Rattle.le_bytes.specs.Bytes.{byte_at}
use Rattle.book.specs.Layout.{chains, head_of, record_at, class_of, next_of, link_from, link_at}
use Rattle.book.specs.Rules.{Rules}
use Rattle.book.specs.Reading.{Inside}
use Rattle.book.proofs.Links.{after_some, link_more}
use Rattle.age_basis_definitions.specs.Conversion.{some_below, class_at, link_class_at, chain_class_at}
use Rattle.age_basis_classes.specs.Steps.{Lowered}
use Rattle.age_basis_definitions.proofs.Places.{some_more, class_here, class_elsewhere}
use Rattle.age_basis_definitions.proofs.Exact.{link_inside, link_steps, link_lowest}

-- A pass along chain k stands at record i: it is so many steps along, and has lowered the classes of the records
-- passed.
pub record Walk (b : List ℕ) (k i : ℕ) (before after : List ℕ) : Type 0 where
  pub steps : ℕ
  pub few : steps ≤ 122
  pub here : i ≡ link_at b k steps
  pub passed : Lowered b (λ p. some_below (link_class_at b p k) steps) before after

-- what is ahead of it: the classes from record i's on
abbrev pub ahead : List ℕ → ℕ → ℕ
ahead b i = cond (eqb i 0) 0 (122 - class_of b i)

module _ (b : List ℕ) where
  -- one record
  pub lowered_one : (i : ℕ) (before : List ℕ) → 0 < i → record_at i + 2 < length before
      → Lowered b (λ p. class_at p i) before (set before (record_at i + 2) (byte_at b (record_at i + 2) - 1))
  lowered_one i before some inside = record {
    size = length-set before _ _;
    bytes = λ p h. by_place p (eqb p (record_at i + 2)) refl;
  }
    where
      by_place : (p : ℕ) (t : Bool) → eqb p (record_at i + 2) ≡ t
          → byte_at (set before (record_at i + 2) (byte_at b (record_at i + 2) - 1)) p
          ≡ cond (class_at p i) (byte_at b p - 1) (byte_at before p)
      by_place p true e =
          let here : p ≡ record_at i + 2 = eqb-true _ _ e in
          rw (class_here p i some here, here) (get_or-set_same before _ _ 0 inside)
      by_place p false e =
          let other = eqb-false _ _ e in
          rw (class_elsewhere p i (λ _. other)) (get_or-set_other before _ p _ 0 other)

  -- nothing lowered yet
  pub lowered_none : (f : ℕ → ℕ → Bool) (before : List ℕ) → Lowered b (λ p. some_below (f p) 0) before before
  unfolding some_below
  lowered_none f before = record { size = refl; bytes = λ p h. refl }

  -- one step more
  pub lowered_more : (f : ℕ → ℕ → Bool) (n : ℕ) (before mid after : List ℕ)
      → Lowered b (λ p. some_below (f p) n) before mid → Lowered b (λ p. f p n) mid after
      → Lowered b (λ p. some_below (f p) (n + 1)) before after
  unfolding some_below
  lowered_more f n before mid after l m =
      record {
        size = m.size ∙ l.size;
        bytes = λ p h. m.bytes p (omega (arith, l.size)) ∙ rw (l.bytes p h, add-one n) (both p (f p n));
      }
    where
      both : (p : ℕ) (t : Bool) → cond t (byte_at b p - 1) (cond (some_below (f p) n) (byte_at b p - 1)
          (byte_at before p))
          ≡ cond (cond t true (some_below (f p) n)) (byte_at b p - 1) (byte_at before p)
      both p true = refl
      both p false = refl

  -- along chain k
  module _ (k : ℕ) where
    -- past the end of the chain there is no class
    none_past : (j : ℕ) → link_at b k j ≡ 0 → (d : ℕ) → link_at b k (j + d) ≡ 0
    none_past j e zero = ap (link_at b k) (omega arith) ∙ e
    none_past j e (suc d) = ap (link_at b k) (omega arith) ∙ link_more b _ (j + d) ∙ rw (none_past j e d)

    chain_done : (j : ℕ) (before after : List ℕ) → link_at b k j ≡ 0 → j ≤ 122
        → Lowered b (λ p. some_below (link_class_at b p k) j) before after
        → Lowered b (λ p. chain_class_at b p k) before after
    unfolding chain_class_at
    chain_done j before after z few l =
        let all : 122 ≡ j + (122 - j) = omega arith in
        let same : (p : ℕ) → some_below (link_class_at b p k) 122 ≡ some_below (link_class_at b p k) j
        = λ p.
        ap (some_below (link_class_at b p k)) all
        ∙ some_more (link_class_at b p k) j (122 - j) (λ d. rw (none_past j z d)) in
        record { size = l.size; bytes = λ p h. l.bytes p h ∙ rw (same p) }

    pub project_start : (i : ℕ) (before : List ℕ) → i ≡ head_of b k → Walk b k i before before
    unfolding link_from
    project_start i before e = record {
      steps = 0;
      few = omega arith;
      here = e;
      passed = lowered_none (λ p. link_class_at b p k) before;
    }

  module _ (r : Rules 2 b) where
    -- a step of the pass, and its end
    module _ (k : ℕ) (few : k < chains) (i : ℕ) (before mid : List ℕ) (w : Walk b k i before mid) where
      pub project_end : i ≡ 0 → Lowered b (λ p. chain_class_at b p k) before mid
      project_end z = chain_done k w.steps before mid (sym w.here ∙ z) w.few w.passed

      module _ (some : i ≡ 0 → ⊥) where
        link_some : 0 < link_at b k w.steps
        link_some = rw (← w.here) (pos_of_ne-zero some)

        pub project_ready : Inside b i × (1 ≤ class_of b i)
        project_ready =
            let x = link_inside b r k w.steps few link_some in
            rw w.here ((link_some, omega arith), link_lowest b r k w.steps few link_some)

        module _ (next : ℕ) (next_is : next ≡ next_of b i) where
          next_here : next ≡ link_at b k (w.steps + 1)
          next_here =
              next_is ∙ rw (add-one w.steps, link_more, ← w.here) (sym (after_some b i (pos_of_ne-zero some)))

          pub project_more : (after : List ℕ) → Lowered b (λ p. class_at p i) mid after → Walk b k next before after
          project_more after m = record {
            steps = w.steps + 1;
            few = omega (arith, link_steps b r k w.steps few link_some);
            here = next_here;
            passed = lowered_more (λ p. link_class_at b p k) w.steps before mid after w.passed
                (record { size = m.size; bytes = λ p h. rw (← w.here) (m.bytes p h) });
          }

          pub project_falls : ahead b next < ahead b i
          project_falls = rw (ne_eqb i 0 some) (by_next (eqb next 0) refl)
            where
              here_class : class_of b i ≡ class_of b (head_of b k) + w.steps
              here_class = rw w.here ((r.chain k few).rising w.steps link_some)

              high : class_of b i ≤ 121
              high = rw w.here ((r.chain k few).linked w.steps link_some).class_high

              by_next : (t : Bool) → eqb next 0 ≡ t → cond t 0 (122 - class_of b next) < 122 - class_of b i
              by_next true e = omega (arith, high)
              by_next false e =
                  let more : 0 < link_at b k (w.steps + 1) = rw (← next_here) (pos_of_ne-zero (eqb-false _ _ e)) in
                  let class : class_of b next ≡ class_of b (head_of b k) + (w.steps + 1)
                  = rw next_here ((r.chain k few).rising (w.steps + 1) more) in
                  omega (arith, high, here_class)
