-- Records that no chain links have no effect on Group, neither on its reply nor on its table, and none on Totals.
-- Assumes nothing.
use mathlib.Core.Path.{◌≡◌, refl, sym, ap, ◌∙◌}
use mathlib.Core.List.{List, [], ◌∷◌}
use mathlib.Core.Logic.{⊎_elim}
use mathlib.Core.Bool.{Bool, true, false, cond}
use Prim.Native.Nat.{ℕ, zero, suc, ◌+◌, ◌-◌, ◌*◌, ◌<◌, ◌≤◌}
use native.Mathlib.Nat.{pos_of_ne-zero, eq-or-lt_of_le}
use native.Mathlib.Omega.{arith}
use borrow.Author.Tests.{ltb-true, eqb-false}
use lib.Dec.{eqb, ltb}
use lib.ListN.{length}
use Rattle.lists.proofs.Sums.{sum_same}
use Rattle.verdict.specs.Verdicts.{Verdict}
use Rattle.std.specs.Prelude.{Ok, Err}
use Rattle.le_bytes.proofs.Same.{u32_same}
use Rattle.text_reply.specs.Replies.{buffer_for}
use Rattle.book.specs.Layout.{record_size, last_class, chains, head_of, sex_of, class_of, next_of, field_of}
use Rattle.book.specs.Layout.{count_offset}
use Rattle.book.specs.Layout.{lapse_offset, premium_offset, claims_offset, curve_place, link_from}
use Rattle.book.specs.Cells.{first_chain, chains_of, held_of_group, held_in_all}
use Rattle.book.specs.Check.{check_book}
use Rattle.book.specs.Rules.{SameButUnlinked}
use Rattle.book.specs.Reading.{Standing, ValidBook}
use Rattle.book.proofs.Links.{link_next}
use Rattle.book.proofs.Same.{SameRecord, sex_same, class_same, next_same, field_of_same, front_same, head_same}
use Rattle.book.proofs.Same.{record_same}
use Rattle.book.proofs.Valid.{valid}
use Rattle.book.proofs.Exact.{accepted_held}
use Rattle.book.proofs.Unlinked.{unlinked_same}
use Rattle.settings_decrements.specs.Decrements.{percent_of, mortality_weight, decrements_of, lapse_in}
use Rattle.settings_decrements.specs.Decrements.{Decrements}
use Rattle.valuation.specs.Arithmetic.{rounded}
use Rattle.valuation.specs.Steps.{Cell, Terms, held, outgo, counted_premium, discounted_outgo, discounted_premium}
use Rattle.valuation.specs.Steps.{total_outgo, total_premium, liability}
use Rattle.valuation.specs.Portfolio.{mortality_of, cost_rate_of, divisor_of, one_less, onward, row_at, cell_of}
use Rattle.valuation.specs.Portfolio.{links_from, chain_links, links_of, cells_of, group_cells, terms_of}
use Rattle.valuation.specs.Replies.{group_check, group_liability, reply_of, group_reply, year_table, group_table}
use Rattle.valuation.specs.Totals.{total_of, totals_of, differences_of, totals_for, totals_reply}
use Rattle.valuation.proofs.Rows.{chain_standing, next_standing}
use Rattle.valuation.proofs.Members.{cells_append, held_group}
use Rattle.valuation.proofs.Accepted.{group_range, group_valid, chains_few}

-- The figures depend on the terms through their values in the fifty years alone.
record SameTerms (t t' : Terms) : Type 0 where
  claims : (k : ℕ) → k < 50 → t.claims_weight k ≡ t'.claims_weight k
  costs : (k : ℕ) → k < 50 → t.cost_weight k ≡ t'.cost_weight k
  rate : t.cost_rate ≡ t'.cost_rate
  divides : (k : ℕ) → k < 50 → t.divisor k ≡ t'.divisor k

module _ (t t' : Terms) (cs : List Cell) (s : SameTerms t t') where
  module _ (k : ℕ) (year : k < 50) where
    outgo_same : outgo rounded t cs k ≡ outgo rounded t' cs k
    unfolding outgo
    outgo_same = rw (s.claims k year, s.rate, s.costs k year)

    premium_same : counted_premium rounded t cs k ≡ counted_premium rounded t' cs k
    unfolding counted_premium
    premium_same = rw outgo_same

    discounted_outgo_same : discounted_outgo rounded t cs k ≡ discounted_outgo rounded t' cs k
    unfolding discounted_outgo
    discounted_outgo_same = rw (s.divides k year, outgo_same)

    discounted_premium_same : discounted_premium rounded t cs k ≡ discounted_premium rounded t' cs k
    unfolding discounted_premium
    discounted_premium_same = rw (s.divides k year, premium_same)

  liability_same : liability t cs ≡ liability t' cs
  unfolding liability total_outgo total_premium
  liability_same = rw (sum_same 0 ◌+◌ _ _ 50 discounted_outgo_same, sum_same 0 ◌+◌ _ _ 50 discounted_premium_same)

  years_same : (j : ℕ) → j ≤ 50 → year_table t cs j ≡ year_table t' cs j
  unfolding year_table
  years_same zero h = refl
  years_same (suc j) h =
      rw (
        years_same j (omega arith),
        premium_same j (omega arith),
        outgo_same j (omega arith),
        discounted_premium_same j
            (omega arith),
        discounted_outgo_same j (omega arith),
      )

-- The record of the next year.
module _ (b b' : List ℕ) (i : ℕ) (same : SameRecord b b' i) where
  onward_same : onward b i ≡ onward b' i
  onward_same = rw (class_same b b' i same, next_same b b' i same)

-- record i is linked in chain k, and from there on both lists have the same records
abbrev pub Kept : List ℕ → List ℕ → ℕ → ℕ → Type 0
Kept b b' k i = Standing b (last_class 1) k i × ((j : ℕ) → 0 < link_from b i j → SameRecord b b' (link_from b i j))

module _ (b b' : List ℕ) (k i : ℕ) (h : Kept b b' k i) where
  kept_here : SameRecord b b' i
  unfolding link_from
  kept_here = h.1 0 h.0.0.first

  kept_next : class_of b i < last_class 1 → Kept b b' k (next_of b i)
  kept_next young =
      let some = h.0.0.first in (
        next_standing b k i h.0 young,
        λ j l. rw (link_next b i j some) at
            (h.1 (suc j) (rw (link_next b i j some) l)),
      )

  -- a record that has a next is below the last class
  kept_more : 0 < next_of b i → Kept b b' k (next_of b i)
  kept_more more =
      let r = h.0.0 in
      kept_next (⊎_elim (λ (last : class_of b i ≡ last_class 1). absurd (omega (arith, r.ends last)))
      (λ (young : class_of b i < last_class 1). young) (eq-or-lt_of_le r.class_high))

  kept_onward : Kept b b' k (onward b i)
  kept_onward = by_class (ltb (class_of b i) (last_class 1)) refl
    where
      by_class : (t : Bool) → ltb (class_of b i) (last_class 1) ≡ t → Kept b b' k (cond t (next_of b i) i)
      by_class true e = kept_next (ltb-true _ _ e)
      by_class false e = h

module _ (b b' : List ℕ) (k i : ℕ) (h : Kept b b' k i) where
  kept_row : (y : ℕ) → Kept b b' k (row_at b i y)
  unfolding row_at
  kept_row zero = h
  kept_row (suc y) = kept_onward b b' k _ (kept_row y)

  row_same : (y : ℕ) → row_at b i y ≡ row_at b' i y
  unfolding row_at
  row_same zero = refl
  row_same (suc y) = onward_same b b' (row_at b i y) (kept_here b b' k _ (kept_row y)) ∙ ap (onward b') (row_same y)

  row_class_same : (y : ℕ) → class_of b (row_at b i y) ≡ class_of b' (row_at b' i y)
  row_class_same y = rw (← row_same y) (class_same b b' (row_at b i y) (kept_here b b' k _ (kept_row y)))

  row_field_same : (y offset : ℕ) → offset + 4 ≤ record_size
      → field_of b (row_at b i y) offset ≡ field_of b' (row_at b' i y) offset
  row_field_same y offset inside =
      rw (← row_same y) (field_of_same b b' (row_at b i y) (kept_here b b' k _ (kept_row y)) offset inside)

-- Terms and cells.
module _ (b b' : List ℕ) (s : SameButUnlinked b b') where
  mortality_same : (sex class : ℕ) → sex ≤ 1 → class ≤ last_class 1 → mortality_of b sex class ≡ mortality_of b' sex
      class
  unfolding mortality_of
  mortality_same sex class two old = u32_same b b' _ _ (front_same b b' s) _ (omega arith) (omega arith)

  terms_same : (setting g : ℕ) → g ≤ 5 → SameTerms (terms_of b setting g) (terms_of b' setting g)
  unfolding terms_of cost_rate_of divisor_of
  terms_same setting g hi = record {
    claims = λ k year. refl;
    costs = λ k year. refl;
    rate = u32_same b b' _ _ (front_same b b' s) _ (omega arith) (omega arith);
    divides = λ k year. rw
        (u32_same b b' _ _ (front_same b b' s) (curve_place + 4 * (k - 1)) (omega arith) (omega arith));
  }

  pub decrements_same : (setting : ℕ) → decrements_of b setting ≡ decrements_of b' setting
  unfolding decrements_of mortality_weight percent_of
  decrements_same setting =
      rw (
        front_same b b' s 0 (omega arith) (omega arith),
        front_same b b' s 6 (omega arith) (omega arith),
        front_same b b' s 7 (omega arith) (omega arith),
      )

  module _ (w : Decrements) where
    pub cell_same : (k i : ℕ) → Kept b b' k i → cell_of b w i ≡ cell_of b' w i
    unfolding cell_of
    cell_same k i h = λ d. record {
      count = field_of_same b b' i here count_offset (omega arith) d;
      survival = λ y. survival y d;
      persistency = λ y. ap (λ (rate : ℕ). one_less rate (lapse_in w y))
          (row_field_same b b' k i h y lapse_offset (omega arith)) d;
      premium = λ y. row_field_same b b' k i h y premium_offset (omega arith) d;
      claims = λ y. row_field_same b b' k i h y claims_offset (omega arith) d;
    }
      where
        here : SameRecord b b' i
        here = kept_here b b' k i h

        survival : (y : ℕ) → (cell_of b w i).survival y ≡ (cell_of b' w i).survival y
        survival y =
            rw (
              mortality_same (sex_of b i) (class_of b (row_at b i y)) (omega (arith, h.0.0.sex))
                  (kept_row b b' k i h y).0.0.class_high,
              row_class_same b b' k i h y,
              sex_same b b' i here,
            )

    -- from record i on, which may be none
    from_same : (k m i : ℕ) → (0 < i → Kept b b' k i) → cells_of b w (links_from b i m) ≡ cells_of b' w
        (links_from b' i m)
    unfolding cells_of links_from
    from_same k zero i h = refl
    from_same k (suc m) i h = by_end (eqb i 0) refl (λ some. from_same k m (next_of b i) (kept_more b b' k i (h some)))
      where
        by_end : (t : Bool) → eqb i 0 ≡ t
            → (0 < i → cells_of b w (links_from b (next_of b i) m) ≡ cells_of b' w (links_from b' (next_of b i) m))
            → cells_of b w (cond t [] (i ∷ links_from b (next_of b i) m)) ≡ cells_of b' w
            (cond t [] (i ∷ links_from b' (next_of b' i) m))
        by_end true e rest = refl
        by_end false e rest =
            let some : 0 < i = pos_of_ne-zero (eqb-false _ _ e) in
            rw (cell_same k i (h some), rest some, next_same b b' i (kept_here b b' k i (h some)))

    module _ (v : ValidBook 1 b) where
      head_kept : (k : ℕ) → k < chains → 0 < head_of b k → Kept b b' k (head_of b k)
      head_kept k few some = (
        chain_standing b k _ (head_of b k) (v.chain k few (λ none. absurd (omega arith))) (omega arith),
        λ j l. record_same b b' s k j few l,
      )

      chains_same : (left k : ℕ) → k + left ≤ chains → cells_of b w (links_of b k left) ≡ cells_of b' w
          (links_of b' k left)
      unfolding cells_of links_of
      chains_same zero k few = refl
      chains_same (suc left) k few =
          rw (
            cells_append b w (chain_links b k) (links_of b (k + 1) left),
            cells_append b' w (chain_links b' k) (links_of b' (k + 1) left),
            from_same k (last_class 1 + 1) (head_of b k) (head_kept k (omega arith)),
            head_same b b' s k (omega arith),
            chains_same left (k + 1) (omega arith),
          )

-- A group of an accepted book.
module _ (b b' : List ℕ) (s : SameButUnlinked b b') (setting g : ℕ) (v : ValidBook 1 b)
    (range : (1 ≤ g) × (g ≤ 5)) where
  group_terms_same : SameTerms (terms_of b setting g) (terms_of b' setting g)
  group_terms_same = terms_same b b' s setting g range.1

  group_cells_same : group_cells b (decrements_of b setting) g ≡ group_cells b' (decrements_of b' setting) g
  group_cells_same =
      rw (decrements_same b b' s setting)
      (chains_same b b' s (decrements_of b' setting) v (chains_of g) (first_chain g) (chains_few g range.1))

  group_liability_same : group_liability b setting g ≡ group_liability b' setting g
  unfolding group_liability
  group_liability_same =
      rw group_cells_same (liability_same _ _ (group_cells b' (decrements_of b' setting) g) group_terms_same)

  group_years_same : year_table (terms_of b setting g) (group_cells b (decrements_of b setting) g) 50 ≡ year_table
      (terms_of b' setting g) (group_cells b' (decrements_of b' setting) g) 50
  group_years_same =
      rw group_cells_same (years_same _ _ (group_cells b' (decrements_of b' setting) g) group_terms_same 50
      (omega arith))

  group_held_same : held_of_group b (last_class 1) g ≡ held_of_group b' (last_class 1) g
  group_held_same =
      sym (held_group b (decrements_of b setting) g) ∙ ap held group_cells_same ∙ held_group b'
      (decrements_of b' setting)
      g

-- Group's reply and table.
module _ (b b' : List ℕ) (s : SameButUnlinked b b') (setting g numbers : ℕ) where
  verdict_same : group_check b setting g numbers ≡ group_check b' setting g numbers
  unfolding group_check
  verdict_same = rw (unlinked_same b b' s 1)

  pub reply_same : group_reply b setting g numbers ≡ group_reply b' setting g numbers
  unfolding group_reply
  reply_same = rw (← verdict_same) (by_verdict (group_check b setting g numbers) refl)
    where
      by_verdict : (v : Verdict) → group_check b setting g numbers ≡ v
          → reply_of v (group_liability b setting g) (held_of_group b (last_class 1) g) ≡ reply_of v
          (group_liability b' setting g) (held_of_group b' (last_class 1) g)
      by_verdict (Ok n) e =
          let v = group_valid b setting g numbers n e in
          let range = group_range b setting g numbers n e in
          rw (group_liability_same b b' s setting g v range, group_held_same b b' s setting g v range)
      by_verdict (Err r) e = refl

pub table_same : (b b' : List ℕ) → SameButUnlinked b b' → (setting g : ℕ) (before : List ℕ)
    → group_table b setting g before ≡ group_table b' setting g before
unfolding group_table
table_same b b' s setting g before =
    rw (← verdict_same b b' s setting g (length before)) (by_verdict (group_check b setting g (length before)) refl)
  where
    years : List ℕ → List ℕ
    years c = year_table (terms_of c setting g) (group_cells c (decrements_of c setting) g) 50

    by_verdict : (v : Verdict) → group_check b setting g (length before) ≡ v
        → buffer_for v (years b) before ≡ buffer_for v (years b') before
    by_verdict (Ok n) e =
        rw (group_years_same b b' s setting g (group_valid b setting g (length before) n e)
        (group_range b setting g (length before) n e))
    by_verdict (Err r) e = refl

-- Totals' reply.
module _ (b b' : List ℕ) (s : SameButUnlinked b b') where
  total_same : ValidBook 1 b → (setting : ℕ) → total_of b setting ≡ total_of b' setting
  unfolding total_of
  total_same v setting =
      sum_same _ _ _ _ 5 (λ j h. group_liability_same b b' s setting (1 + j) v (omega arith, omega arith))

  pub totals_same : totals_reply b ≡ totals_reply b'
  unfolding totals_reply
  totals_same = rw (← (unlinked_same b b' s 1)) (by_verdict (check_book 1 b) refl)
    where
      by_verdict : (v : Verdict) → check_book 1 b ≡ v
          → totals_for v (held_in_all b (last_class 1)) (totals_of b) (differences_of b) ≡ totals_for v
          (held_in_all b' (last_class 1)) (totals_of b') (differences_of b')
      by_verdict (Ok n) e =
          let t = total_same (valid 1 b n e) in
          rw (
            ← (accepted_held 1 b n e),
            ← (accepted_held 1 b' n (sym (unlinked_same b b' s 1) ∙ e)),
            t 0,
            t 1,
            t 2,
            t 3,
            t 4,
            t 5,
            t 6,
            t 7,
          )
      by_verdict (Err r) e = refl
