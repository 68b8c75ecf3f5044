-- Every converted book passes the check on basis 1, with as many linked records that hold contracts as before.
-- Assumes nothing.
use mathlib.Core.Path.{◌≡◌, refl, sym, ap, ◌∙◌}
use mathlib.Core.List.{List}
use mathlib.Core.Bool.{Bool, true, false}
use Prim.Native.Nat.{ℕ, zero, suc, ◌+◌, ◌-◌, ◌*◌, ◌<◌, ◌≤◌}
use native.Mathlib.Nat.{pos_of_ne-zero}
use native.Mathlib.Omega.{arith}
use borrow.Author.Tests.{eqb-true, eqb-false}
use lib.Dec.{eqb}
use Rattle.le_bytes.specs.Bytes.{read_u32}
use Rattle.lists.proofs.Sums.{sum_same}
use Rattle.std.specs.Prelude.{Ok}
use Rattle.le_bytes.proofs.Same.{Same, u16_same, u32_same}
use Rattle.book.specs.Layout.{header_size, record_size, last_class, edition, percent_place, percent_at, chains, records}
use Rattle.book.specs.Layout.{head_place, head_of, cost_place}
use Rattle.book.specs.Layout.{curve_place, mortality_place, record_at, class_of, next_of, field_of, count_offset}
use Rattle.book.specs.Layout.{lapse_offset, premium_offset, claims_offset, link_from, link_at, record_after}
use Rattle.book.specs.Cells.{holds, held_from, held_in, held_in_all}
use Rattle.book.specs.Check.{check_from, check_book}
use Rattle.book.specs.Rules.{HeaderRules, TableRules, RecordRules, ChainRules, Rules}
use Rattle.book.proofs.Cells.{held_none}
use Rattle.book.proofs.Exact.{empty_chain, from_good, accepted_rules, rules_accepted, accepted_held}
use Rattle.age_basis_definitions.specs.Conversion.{converted, ConversionRules}
use Rattle.age_basis_definitions.proofs.Exact.{converted_keeps}

-- What a conversion leaves as it was, in any book: what stands before the records but byte 1, a record but its class.
module _ (b c : List ℕ) (t : ConversionRules b c) where
  front_kept : Same c b 2 header_size
  front_kept p lo hi = t.copied p (λ z. absurd (omega arith)) (λ k j few some e. absurd (omega arith))

  start_kept : (i : ℕ) → Same c b (record_at i) (record_at i + 2)
  start_kept i p lo hi = t.copied p (λ z. absurd (omega arith)) (λ k j few some e. absurd (omega arith))

  rest_kept : (i : ℕ) → Same c b (record_at i + 3) (record_at i + record_size)
  rest_kept i p lo hi = t.copied p (λ z. absurd (omega arith)) (λ k j few some e. absurd (omega arith))

  edition_kept : edition c ≡ edition b
  edition_kept = t.copied 0 (λ z. absurd (omega arith)) (λ k j few some e. absurd (omega arith))

  percent_kept : (sex : ℕ) → sex ≤ 1 → percent_at c sex ≡ percent_at b sex
  percent_kept sex h = front_kept (percent_place sex) (omega arith) (omega arith)

  records_kept : records c ≡ records b
  unfolding records
  records_kept = u16_same c b _ _ front_kept 4 (omega arith) (omega arith)

  head_kept : (k : ℕ) → k < chains → head_of c k ≡ head_of b k
  unfolding head_of
  head_kept k few = u16_same c b _ _ front_kept (head_place k) (omega arith) (omega arith)

  next_kept : (i : ℕ) → next_of c i ≡ next_of b i
  unfolding next_of
  next_kept i = u16_same c b _ _ (rest_kept i) (record_at i + 4) (omega arith) (omega arith)

  field_kept : (i offset : ℕ) → 4 ≤ offset → offset + 4 ≤ record_size → field_of c i offset ≡ field_of b i offset
  unfolding field_of
  field_kept i offset lo hi = u32_same c b _ _ (rest_kept i) (record_at i + offset) (omega arith) (omega arith)

  link_kept : (i j : ℕ) → link_from c i j ≡ link_from b i j
  unfolding link_from
  link_kept i zero = refl
  link_kept i (suc j) = rw (next_kept i) (link_kept (record_after b i) j)

  held_kept : (i m : ℕ) → held_from c i m ≡ held_from b i m
  unfolding held_from holds
  held_kept i zero = refl
  held_kept i (suc m) =
      rw (field_kept i count_offset (omega arith) (omega arith), next_kept i, held_kept (record_after b i) m)

  -- The rules of basis 1.
  module _ (r : Rules 2 b) where
    header_turned : HeaderRules 1 c
    header_turned =
        let h = r.header in
        let year = u16_same c b _ _ front_kept 2 (omega arith) (omega arith) in
        record {
          edition_low = rw edition_kept h.edition_low;
          edition_high = rw edition_kept h.edition_high;
          basis_is = t.basis_is;
          year_low = rw year h.year_low;
          year_high = rw year h.year_high;
          few = rw records_kept h.few;
          spare = λ one. u16_same c b _ _ front_kept 6 (omega arith) (omega arith) ∙ h.spare (sym edition_kept ∙ one);
          percent_low = λ two sex g. rw (percent_kept sex g) (h.percent_low (sym edition_kept ∙ two) sex g);
          percent_high = λ two sex g. rw (percent_kept sex g) (h.percent_high (sym edition_kept ∙ two) sex g);
          size = t.size ∙ rw records_kept h.size;
        }

    tables_turned : TableRules c
    tables_turned =
        let s = r.tables in
        let kept : (at : ℕ) → 2 ≤ at → at + 4 ≤ header_size → read_u32 c at ≡ read_u32 b at
        = u32_same c b _ _ front_kept in
        record {
          cost = λ j l. rw (kept (cost_place + 4 * j) (omega arith) (omega arith)) (s.cost j l);
          curve = λ j l. rw (kept (curve_place + 4 * j) (omega arith) (omega arith)) (s.curve j l);
          mortality = λ j l. rw (kept (mortality_place + 4 * j) (omega arith) (omega arith)) (s.mortality j l);
        }

    record_turned : (k i : ℕ) → RecordRules b (last_class 2) k i → class_of b i ≡ class_of c i + 1
        → RecordRules c (last_class 1) k i
    record_turned k i x one = record {
      first = x.first;
      inside = rw records_kept x.inside;
      code = start_kept i (record_at i) (omega arith) (omega arith) ∙ x.code;
      sex = start_kept i (record_at i + 1) (omega arith) (omega arith) ∙ x.sex;
      spare = rest_kept i (record_at i + 3) (omega arith) (omega arith) ∙ x.spare;
      spare_two = u16_same c b _ _ (rest_kept i) (record_at i + 6) (omega arith) (omega arith) ∙ x.spare_two;
      class_low = omega arith;
      class_high = omega (arith, x.class_high);
      count = rw (field_kept i count_offset (omega arith) (omega arith)) x.count;
      lapse = rw (field_kept i lapse_offset (omega arith) (omega arith)) x.lapse;
      premium = rw (field_kept i premium_offset (omega arith) (omega arith)) x.premium;
      claims = rw (field_kept i claims_offset (omega arith) (omega arith)) x.claims;
      ends = λ e. next_kept i ∙ x.ends (omega arith);
      goes_on = λ e. let last = x.goes_on (sym (next_kept i) ∙ e) in omega arith;
    }

    module _ (k : ℕ) (few : k < chains) where
      links_kept : (j : ℕ) → link_at c k j ≡ link_at b k j
      links_kept j = rw (head_kept k few) (link_kept (head_of b k) j)

      head_some : (j : ℕ) → 0 < link_at b k j → 0 < head_of b k
      head_some j some = pos_of_ne-zero (λ none. empty_chain b k j none some)

      head_lowered : (j : ℕ) → 0 < link_at b k j → class_of b (head_of b k) ≡ class_of c (head_of b k) + 1
      unfolding link_from
      head_lowered j some = t.lowered k 0 few (head_some j some)

      chain_turned : ChainRules c (last_class 1) k
      chain_turned = record {
        linked = λ j l.
            let some = rw (links_kept j) at l in
            rw (links_kept j) (record_turned k _ ((r.chain k few).linked j some) (t.lowered k j few some));
        rising = λ j l.
            let some = rw (links_kept j) at l in
            let rises = (r.chain k few).rising j some in
            rw (links_kept j, head_kept k few) (omega (arith, rises, t.lowered k j few some, head_lowered j some));
      }

      -- a chain has no record of class 0, so 121 steps find as many as 122
      chain_held : held_in c (last_class 1) k ≡ held_in b (last_class 2) k
      unfolding held_in link_from
      chain_held = rw (head_kept k few, held_kept (head_of b k) 121) (by_head (eqb (head_of b k) 0) refl)
        where
          by_head : (x : Bool) → eqb (head_of b k) 0 ≡ x → held_from b (head_of b k) 121 ≡ held_from b (head_of b k) 122
          by_head true e = let none : head_of b k ≡ 0 = eqb-true _ _ e in rw (none, held_none b 121, held_none b 122)
          by_head false e =
              let some : 0 < head_of b k = pos_of_ne-zero (eqb-false _ _ e) in
              let x = (r.chain k few).linked 0 some in
              let left = 121 - class_of b (head_of b k) in
              let good : (m : ℕ) → left < m → check_from b 121 k left (head_of b k) ≡ Ok
              (held_from b (head_of b k) m)
              = λ m h.
              from_good b 121 k left (head_of b k) m some (omega (arith, x.class_high)) h
              (r.chain k few).linked (r.chain k few).rising in
              let short = good 121 (omega (arith, x.class_low)) in
              let long = good 122 (omega arith) in
              cc

    rules_turned : Rules 1 c
    rules_turned = record { header = header_turned; tables = tables_turned; chain = chain_turned }

-- what keeps the rules of a conversion is accepted, with the same n
pub conversion_accepted : (b c : List ℕ) (n : ℕ) → ConversionRules b c → check_book 2 b ≡ Ok n
    → check_book 1 c ≡ Ok n
unfolding held_in_all
conversion_accepted b c n t e =
    let r = accepted_rules 2 b n e in
    rules_accepted 1 c (rules_turned b c t r)
    ∙ ap Ok (sum_same 0 ◌+◌ _ _ chains (λ k few. chain_held b c t r k few) ∙ sym (accepted_held 2 b n e))

-- every converted book passes the check, with the same n
pub converted_accepted : (b : List ℕ) (n : ℕ) → check_book 2 b ≡ Ok n → check_book 1 (converted b) ≡ Ok n
converted_accepted b n e = conversion_accepted b (converted b) n (converted_keeps b (accepted_rules 2 b n e)) e
