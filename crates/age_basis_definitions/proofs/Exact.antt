-- The converted book of one that keeps the rules of basis 2 keeps the rules of a conversion, and nothing else does.
-- Assumes nothing.
use mathlib.Core.Path.{◌≡◌, refl, sym, ◌∙◌}
use mathlib.Core.List.{List}
use mathlib.Core.Bool.{Bool, true, false, cond}
use Prim.Native.Nat.{ℕ, ◌+◌, ◌-◌, ◌<◌, ◌≤◌}
use native.Mathlib.Omega.{arith}
use borrow.Author.Tests.{ltb-true, ltb-false, eqb-true, eqb-false, ne_eqb}
use lib.Dec.{ltb, eqb}
use lib.ListN.{length, get_or-eq_default}
use lib.Seq.{ext_get_or}
use Rattle.le_bytes.specs.Bytes.{byte_at}
use Rattle.book.specs.Layout.{last_class, chains, record_at, class_of, link_at}
use Rattle.book.specs.Rules.{Rules}
use Rattle.age_basis_definitions.specs.Conversion.{link_class_at, chain_class_at, linked_class_at}
use Rattle.age_basis_definitions.specs.Conversion.{converted_byte, converted, NoLinkedClass, ConversionRules}
use Rattle.age_basis_definitions.proofs.Places.{never, some_found, class_found, linked_here}
use Rattle.age_basis_definitions.proofs.Places.{linked_elsewhere}
use Rattle.lists.proofs.Each.{each_length, each_at}

pub converted_length : (b : List ℕ) → length (converted b) ≡ length b
unfolding converted
converted_length b = each_length _ _

pub converted_at : (b : List ℕ) (p : ℕ) → p < length b → byte_at (converted b) p ≡ converted_byte b p
unfolding converted
converted_at b p h = each_at _ 0 _ p h

module _ (b : List ℕ) (r : Rules 2 b) where
  -- a linked record lies in the book, and is at most 121 steps from its head
  pub link_inside : (k j : ℕ) → k < chains → 0 < link_at b k j → record_at (link_at b k j) + 24 ≤ length b
  link_inside k j few some =
      let x = (r.chain k few).linked j some in
      omega (arith, x.first, x.inside, r.header.size)

  pub link_steps : (k j : ℕ) → k < chains → 0 < link_at b k j → j < last_class 2 + 1
  link_steps k j few some = omega (arith, ((r.chain k few).linked j some).class_high, (r.chain k few).rising j some)

  pub link_lowest : (k j : ℕ) → k < chains → 0 < link_at b k j → 1 ≤ class_of b (link_at b k j)
  link_lowest k j few some = omega (arith, ((r.chain k few).linked j some).class_low)

  -- no class of a linked record stands past the book
  pub linked_past : (p : ℕ) → length b ≤ p → linked_class_at b p ≡ false
  linked_past p past = linked_elsewhere b p (λ k j few some e. absurd (omega (arith, link_inside k j few some)))

  class_lowered : (k j : ℕ) → k < chains → 0 < link_at b k j
      → class_of b (link_at b k j) ≡ class_of (converted b) (link_at b k j) + 1
  unfolding class_of converted_byte
  class_lowered k j few some =
      let p = record_at (link_at b k j) + 2 in
      let here : linked_class_at b p ≡ true = linked_here b p k j few (link_steps k j few some) some refl in
      let one : byte_at (converted b) p ≡ byte_at b p - 1
      = converted_at b p (omega (arith, link_inside k j few some))
      ∙ rw (ne_eqb p 1 (λ z. absurd (omega arith)), here) in
      omega (arith, one, link_lowest k j few some)

  all_else_copied : (p : ℕ) → (p ≡ 1 → ⊥) → NoLinkedClass b p → byte_at (converted b) p ≡ byte_at b p
  unfolding converted_byte
  all_else_copied p other elsewhere = by_place (ltb p (length b)) refl
    where
      by_place : (t : Bool) → ltb p (length b) ≡ t → byte_at (converted b) p ≡ byte_at b p
      by_place true e = converted_at b p (ltb-true _ _ e) ∙ rw (ne_eqb p 1 other, linked_elsewhere b p elsewhere)
      by_place false e =
          let past : length b ≤ p = ltb-false _ _ e in
          get_or-eq_default (converted b) 0 (omega (arith, converted_length b)) ∙ sym (get_or-eq_default b 0 past)

  -- the converted book keeps the rules
  pub converted_keeps : ConversionRules b (converted b)
  unfolding converted_byte
  converted_keeps = record {
    size = converted_length b;
    basis_is = converted_at b 1 (omega (arith, r.header.size));
    lowered = class_lowered;
    copied = all_else_copied;
  }

  -- and is the only list that does
  pub only_converted : (c : List ℕ) → ConversionRules b c → c ≡ converted b
  unfolding converted_byte linked_class_at chain_class_at class_of
  only_converted c t =
      ext_get_or 0 c (converted b) (t.size ∙ sym (converted_length b))
      (λ p h. by_place p (eqb p 1) (linked_class_at b p) refl refl ∙ sym (converted_at b p (omega (arith, t.size))))
    where
      by_place : (p : ℕ) (one linked : Bool) → eqb p 1 ≡ one → linked_class_at b p ≡ linked
          → byte_at c p ≡ cond one 1 (cond linked (byte_at b p - 1) (byte_at b p))
      by_place p true linked e h = let here : p ≡ 1 = eqb-true _ _ e in rw here t.basis_is
      by_place p false true e h =
          let k = some_found (chain_class_at b p) chains h in
          let j = some_found (link_class_at b p k.at) _ k.holds in
          let x = class_found p (link_at b k.at j.at) j.holds in
          rw x.1 (omega (arith, t.lowered k.at j.at k.below x.0))
      by_place p false false e h =
          t.copied p (eqb-false _ _ e)
          (λ k j few some here. never (sym h ∙ linked_here b p k j few (link_steps k j few some) some here))
