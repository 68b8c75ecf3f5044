-- What is written in the end. Assumes nothing.
use mathlib.Core.Path.{◌≡◌, refl, sym, ◌∙◌}
use mathlib.Core.List.{List, ◌++◌}
use mathlib.Core.Bool.{Bool, true, false}
use Prim.Native.Nat.{ℕ, ◌+◌, ◌-◌, ◌<◌, ◌≤◌}
use native.Mathlib.Omega.{arith}
use borrow.Author.Tests.{eqb-true, eqb-false, ltb-true, ltb-false}
use lib.Dec.{eqb, ltb}
use lib.ListN.{length, drop, set, length-append, length-drop, length-set, get_or-append}
use lib.Seq.{get_or-set_same, get_or-set_other, get_or-append-add, ext_get_or}
use Rattle.le_bytes.specs.Bytes.{byte_at}
use Rattle.book.specs.Rules.{Rules}
use Rattle.age_basis_definitions.specs.Conversion.{linked_class_at, converted_byte, converted}
use Rattle.age_basis_definitions.proofs.Exact.{converted_length, converted_at, linked_past}
use Rattle.age_basis_classes.specs.Steps.{Lowered}

-- The copy, its classes lowered and its byte 1 made 1, is the converted book with what stood behind it.
module _ (b : List ℕ) (r : Rules 2 b) (before mid : List ℕ) (fits : length b ≤ length before)
    (l : Lowered b (linked_class_at b) (b ++ drop (length b) before) mid) where
  total : length (b ++ drop (length b) before) ≡ length before
  total = omega (arith, length-append b (drop (length b) before), length-drop (length b) before)

  -- whatever is stored at place 1
  pub stored_length : (v : ℕ) → length (set mid 1 v) ≡ length before
  stored_length v = length-set mid 1 v ∙ l.size ∙ total

  -- in the book
  written_inside : (p : ℕ) → p < length b → (t : Bool) → eqb p 1 ≡ t → byte_at (set mid 1 1) p ≡ converted_byte b p
  unfolding converted_byte
  written_inside p q true e =
      let one : p ≡ 1 = eqb-true _ _ e in
      rw (e, one) (get_or-set_same mid 1 1 0 (omega (arith, l.size, total, r.header.size)))
  written_inside p q false e =
      get_or-set_other mid 1 p 1 0 (eqb-false _ _ e) ∙ l.bytes p (omega (arith, total))
      ∙ rw (e, get_or-append b (drop (length b) before) 0 p q)

  -- and behind it
  written_behind : (p : ℕ) → p < length before → length b ≤ p
      → byte_at (set mid 1 1) p ≡ byte_at (drop (length b) before) (p - length b)
  written_behind p h past =
      let place : length b + (p - length b) ≡ p = omega arith in
      get_or-set_other mid 1 p 1 0 (λ z. absurd (omega (arith, r.header.size))) ∙ l.bytes p (omega (arith, total))
      ∙ rw (linked_past b r p past) (rw place at (get_or-append-add b (drop (length b) before) (p - length b) 0))

  written_at : (p : ℕ) → p < length before → (t : Bool) → ltb p (length b) ≡ t
      → byte_at (set mid 1 1) p ≡ byte_at (converted b ++ drop (length b) before) p
  written_at p h true e =
      let q : p < length b = ltb-true _ _ e in
      written_inside p q (eqb p 1) refl ∙ sym (converted_at b p q)
      ∙ sym (get_or-append (converted b) (drop (length b) before) 0 p (omega (arith, converted_length b)))
  written_at p h false e =
      let past : length b ≤ p = ltb-false _ _ e in
      let place : length (converted b) + (p - length b) ≡ p = omega (arith, converted_length b) in
      written_behind p h past
      ∙ sym (rw place at (get_or-append-add (converted b) (drop (length b) before) (p - length b) 0))

  pub written : set mid 1 1 ≡ converted b ++ drop (length b) before
  written =
      let size = length-append (converted b) (drop (length b) before) in
      ext_get_or 0 _ _
      (omega (arith, stored_length 1, size, converted_length b, length-drop (length b) before))
      (λ p h. written_at p (omega (arith, stored_length 1)) (ltb p (length b)) refl)
