-- An accepted book is valid, and what a pass along its chains takes from that. Assumes nothing.
use mathlib.Core.Path.{◌≡◌, sym, ◌∙◌}
use mathlib.Core.List.{List}
use Prim.Native.Nat.{ℕ, zero, suc, ◌+◌, ◌-◌, ◌<◌, ◌≤◌, zero-le}
use native.Mathlib.Nat.{pos_of_ne-zero, sub-zero}
use native.Mathlib.Numerals.{add-one}
use native.Mathlib.Omega.{arith}
use lib.ListN.{length}
use borrow.Author.Tests.{leb-true, eqb-true, eq-eqb, ne_eqb}
use Rattle.std.specs.Prelude.{Ok}
use Rattle.verdict.proofs.Verdicts.{need_true, then_left, then_right, plus_right, all_each}
use Rattle.le_bytes.proofs.Ranges.{within_means, field_bound, fields_bound}
use Rattle.book.specs.Layout.{last_class, lowest_class, edition, records, spare_bytes, percent_at, most_percent}
use Rattle.book.specs.Layout.{chains, head_of, class_of, next_of, field_of, most_rate, curve_lift, curve_span}
use Rattle.book.specs.Layout.{cost_place}
use Rattle.book.specs.Layout.{curve_place, mortality_place}
use Rattle.book.specs.Check.{check_spare, check_percents, check_by_edition, check_header, check_tables, check_owner}
use Rattle.book.specs.Check.{check_class, check_amounts, ends_right, check_link, check_from, check_chain, check_chains}
use Rattle.book.specs.Check.{check_book}
use Rattle.book.specs.Rules.{HeaderRules, TableRules, RecordRules}
use Rattle.book.specs.Reading.{ChainFrom, ValidBook}
use Rattle.book.proofs.Chains.{link_owner, link_class, link_amounts, link_ends, link_inside, link_some}

module _ (b : List ℕ) (last k : ℕ) where
  -- the class of an accepted record is left below the last
  link_class_is : (left i m : ℕ) → check_link b last k left i ≡ Ok m → class_of b i ≡ last - left
  unfolding check_class class_of
  link_class_is left i m e = eqb-true _ _ (need_true _ _ _ _ (then_right _ _ _ (link_class b last k left i m e)))

  -- and not below the lowest
  link_class_low : (left i m : ℕ) → check_link b last k left i ≡ Ok m → lowest_class last ≤ class_of b i
  unfolding check_class class_of
  link_class_low left i m e = leb-true _ _ (need_true _ _ _ _ (then_left _ _ _ (link_class b last k left i m e)))

  -- where the chain ends
  link_end_is : (i m : ℕ) → check_link b last k 0 i ≡ Ok m → next_of b i ≡ 0
  unfolding ends_right
  link_end_is i m e = eqb-true _ _ (link_ends b last k 0 i m e)

  -- an accepted record keeps every rule of a record
  record_rules : (left i m : ℕ) → 0 < i → i ≤ records b → left ≤ last → check_link b last k left i ≡ Ok m
      → (class_of b i ≡ last → next_of b i ≡ 0) → (next_of b i ≡ 0 → class_of b i ≡ last) → RecordRules b last k i
  unfolding check_owner check_amounts field_of
  record_rules left i m some inside fits e ends goes_on =
      let o = link_owner b last k left i m e in
      let o₁ = then_left _ _ _ o in
      let o₂ = then_left _ _ _ o₁ in
      let a = link_amounts b last k left i m e in
      let a₁ = then_left _ _ _ a in
      let a₂ = then_left _ _ _ a₁ in
      record {
        first = some;
        inside = inside;
        code = eqb-true _ _ (need_true _ _ _ _ (then_left _ _ _ o₂));
        sex = eqb-true _ _ (need_true _ _ _ _ (then_right _ _ _ o₂));
        spare = eqb-true _ _ (need_true _ _ _ _ (then_right _ _ _ o₁));
        spare_two = eqb-true _ _ (need_true _ _ _ _ (then_right _ _ _ o));
        class_low = link_class_low left i m e;
        class_high = omega (arith, link_class_is left i m e);
        count = field_bound _ _ _ _ _ _ (then_left _ _ _ a₂);
        lapse = field_bound _ _ _ _ _ _ (then_right _ _ _ a₂);
        premium = field_bound _ _ _ _ _ _ (then_right _ _ _ a₁);
        claims = field_bound _ _ _ _ _ _ (then_right _ _ _ a);
        ends = ends;
        goes_on = goes_on;
      }

  from_valid : (left i n : ℕ) → 0 < i → i ≤ records b → left ≤ last → check_from b last k left i ≡ Ok n
      → ChainFrom b last k left i
  unfolding check_from ChainFrom
  from_valid zero i n some inside fits e =
      let l = then_left _ _ _ e in
      let class : class_of b i ≡ last = link_class_is 0 i _ l ∙ sub-zero last in
      (record_rules 0 i _ some inside fits l (λ _. link_end_is i _ l) (λ _. class), class)
  from_valid (suc left) i n some inside fits e =
      let l = then_left _ _ _ e in
      let class : class_of b i ≡ last - suc left = link_class_is (suc left) i _ l in
      let next : 0 < next_of b i = link_some b last k (suc left) i _ l (omega arith) in (
        record_rules (suc left) i _ some inside fits l (λ h. absurd (omega arith)) (λ h. absurd (omega arith)),
        class,
        from_valid left (next_of b i) _ next (link_inside b last k (suc left) i _ l) (omega arith)
            (plus_right _ _ _ (then_right _ _ _ e)),
      )

  chain_valid : (n : ℕ) → (head_of b k ≡ 0 → ⊥) → check_chain b last k ≡ Ok n
      → ChainFrom b last k (last - class_of b (head_of b k)) (head_of b k)
  unfolding check_chain
  chain_valid n some e =
      let w = rw (ne_eqb _ _ some) at e in
      from_valid _ _ n (pos_of_ne-zero some) (leb-true _ _ (need_true _ _ _ _ (then_left _ _ _ w))) (omega arith)
      (then_right _ _ _ w)

-- bytes 6 and 7, by the edition
module _ (b : List ℕ) (n : ℕ) (e : check_by_edition b ≡ Ok n) where
  spare_rule : edition b ≡ 1 → spare_bytes b ≡ 0
  unfolding check_by_edition check_spare
  spare_rule one =
      let other : edition b ≡ 2 → ⊥ = λ two. absurd (omega arith) in
      eqb-true _ _ (need_true _ _ _ _ (rw (ne_eqb (edition b) 2 other) at e))

  percent_rule : edition b ≡ 2 → (sex : ℕ) → sex ≤ 1 → (1 ≤ percent_at b sex) × (percent_at b sex ≤ most_percent)
  unfolding check_by_edition check_percents
  percent_rule two zero h =
      let men = within_means _ _ (percent_at b 0)
      (need_true _ _ _ _ (then_left _ _ _ (rw (eq-eqb (edition b) 2 two) at e))) in
      (omega (arith, men.0), omega (arith, men.1))
  percent_rule two (suc zero) h =
      let women = within_means _ _ (percent_at b 1)
      (need_true _ _ _ _ (then_right _ _ _ (rw (eq-eqb (edition b) 2 two) at e))) in
      (omega (arith, women.0), omega (arith, women.1))
  percent_rule two (suc (suc sex)) h = absurd (omega arith)

header_rules : (basis : ℕ) (b : List ℕ) (n : ℕ) → check_header basis (length b) b ≡ Ok n → HeaderRules basis b
unfolding check_header
header_rules basis b n e =
    let h₅ = then_left _ _ _ e in
    let h₄ = then_left _ _ _ h₅ in
    let h₃ = then_left _ _ _ h₄ in
    let h₂ = then_left _ _ _ h₃ in
    let year = within_means _ _ _ (need_true _ _ _ _ (then_right _ _ _ h₃)) in
    -- what the tests say, whatever their bounds
    let few = leb-true (records b) _ (need_true _ _ _ _ (then_right _ _ _ h₄)) in
    let known = within_means _ _ (edition b) (need_true _ _ _ _ (then_left _ _ _ h₂)) in
    record {
      edition_low = omega (arith, known.0);
      edition_high = omega (arith, known.1);
      basis_is = eqb-true _ _ (need_true _ _ _ _ (then_right _ _ _ h₂));
      year_low = year.0;
      year_high = year.1;
      few = omega (arith, few);
      spare = spare_rule b _ (then_right _ _ _ h₅);
      percent_low = λ two sex h. (percent_rule b _ (then_right _ _ _ h₅) two sex h).0;
      percent_high = λ two sex h. (percent_rule b _ (then_right _ _ _ h₅) two sex h).1;
      size = eqb-true _ _ (need_true _ _ _ _ (then_right _ _ _ e));
    }

table_rules : (b : List ℕ) (n : ℕ) → check_tables b ≡ Ok n → TableRules b
unfolding check_tables
table_rules b n e =
    let t = then_left _ _ _ e in
    record {
      cost = λ j l. fields_bound b 6 0 most_rate cost_place 5 _ j (then_left _ _ _ t) l;
      curve = λ j l. fields_bound b 7 curve_lift curve_span curve_place 49 _ j (then_right _ _ _ t) l;
      mortality = λ j l. fields_bound b 8 0 most_rate mortality_place 242 _ j (then_right _ _ _ e) l;
    }

-- what every reader of an accepted book needs
pub valid : (basis : ℕ) (b : List ℕ) (n : ℕ) → check_book basis b ≡ Ok n → ValidBook basis b
unfolding check_book check_chains
valid basis b n e =
    let t = then_left _ _ _ e in
    record {
      header = header_rules basis b _ (then_right _ _ _ (then_left _ _ _ t));
      tables = table_rules b _ (then_right _ _ _ t);
      chain = λ k l some. chain_valid b (last_class basis) k _ some
          (all_each (check_chain b (last_class basis)) chains 0 n k (then_right _ _ _ e) zero-le (omega arith));
    }

-- what a pass takes: the record it stands at, its class, and the chain from the next one on
module _ (b : List ℕ) (last k : ℕ) where
  pub chain_here : (left i : ℕ) → ChainFrom b last k left i → RecordRules b last k i
  unfolding ChainFrom
  chain_here zero i h = h.0
  chain_here (suc left) i h = h.0

  pub chain_class : (left i : ℕ) → ChainFrom b last k left i → class_of b i ≡ last - left
  unfolding ChainFrom
  chain_class zero i h = h.1 ∙ sym (sub-zero last)
  chain_class (suc left) i h = h.1

  pub chain_end : (left i : ℕ) → left ≡ 0 → ChainFrom b last k left i → next_of b i ≡ 0
  unfolding ChainFrom
  chain_end zero i z h = h.0.ends h.1
  chain_end (suc left) i z h = absurd (omega arith)

  pub chain_next : (left rest i : ℕ) → left ≡ rest + 1 → ChainFrom b last k left i
      → ChainFrom b last k rest (next_of b i)
  unfolding ChainFrom
  chain_next left rest i s h = let t : left ≡ suc rest = s ∙ add-one rest in (rw t at h).2
