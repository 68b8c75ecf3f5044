-- A book on age basis 2 turned into basis 1 (W-204): byte 1 becomes 1, the class of every linked record falls by one,
-- all else is copied. Mortality goes by age, so its bytes are among those copied.
use Rattle.std.specs.Prelude.{ℕ, zero, suc, ◌+◌, ◌-◌, ◌<◌, ◌≡◌, List, Bool, true, false, cond, length, take, leb, eqb}
use Rattle.le_bytes.specs.Bytes.{byte_at}
use Rattle.verdict.specs.Verdicts.{need, ◌and_then◌, refusal_of, count_of, Verdict}
use Rattle.book.specs.Layout.{last_class, age_basis, chains, record_at, class_of, link_at}
use Rattle.book.specs.Check.{check_book}
use Rattle.text_reply.specs.Replies.{buffer_for}
use Rattle.lists.specs.Each.{each}

-- f holds of some number below n
unfoldable pub some_below : (ℕ → Bool) → ℕ → Bool
some_below f zero = false
some_below f (suc n) = cond (f n) true (some_below f n)

-- the class of record i stands at place p; no record has number 0
abbrev pub class_at : ℕ → ℕ → Bool
class_at p i = cond (eqb i 0) false (eqb p (record_at i + 2))

-- that of linked record j of chain k
abbrev pub link_class_at : List ℕ → ℕ → ℕ → ℕ → Bool
link_class_at b p k j = class_at p (link_at b k j)

-- that of some linked record of chain k, which has at most one for each class from 0 to the last
unfoldable pub chain_class_at : List ℕ → ℕ → ℕ → Bool
chain_class_at b p k = some_below (link_class_at b p k) (last_class 2 + 1)

-- that of some linked record of the book
unfoldable pub linked_class_at : List ℕ → ℕ → Bool
linked_class_at b p = some_below (chain_class_at b p) chains

-- byte p of the converted book: 1 at place 1; one less where the class of a linked record stands; else as it was
unfoldable pub converted_byte : List ℕ → ℕ → ℕ
converted_byte b p = cond (eqb p 1) 1 (cond (linked_class_at b p) (byte_at b p - 1) (byte_at b p))

-- the converted book: these bytes, as many as the book has
unfoldable pub converted : List ℕ → List ℕ
converted b = each (converted_byte b) (length b)

-- 16 a buffer shorter than the book; then the book's own refusals, on basis 2
unfoldable pub convert_check : List ℕ → ℕ → Verdict
convert_check b capacity = need (leb (length b) capacity) 16 0 and_then check_book 2 b

-- the caller's buffer afterwards: the converted book, then what stood there; as it was where refused
unfoldable pub converted_buffer : List ℕ → List ℕ → List ℕ
converted_buffer b before = buffer_for (convert_check b (length before)) (converted b) before

-- What the call promises: its reply and the buffer equal their definitions; and, where the reply has no refusal, the
-- converted book, as it then stands in the buffer, passes the check on basis 1, with as many linked records that hold
-- contracts as before.
pub record ConvertContract (b before after : List ℕ) (reply : Verdict) : Type 0 where
  pub reply_is : reply ≡ convert_check b (length before)
  pub buffer_is : after ≡ converted_buffer b before
  pub passes : refusal_of reply ≡ 0 → let v = check_book 1 (take (length b) after) in
      (refusal_of v ≡ 0) × (count_of v ≡ count_of reply)

-- no linked record has its class at place p
abbrev pub NoLinkedClass : List ℕ → ℕ → Type 0
NoLinkedClass b p = (k j : ℕ) → k < chains → 0 < link_at b k j → p ≡ record_at (link_at b k j) + 2 → ⊥

-- The rules of a conversion from b to c, one by one. The converted book of an accepted b keeps them, and no other list
-- of bytes does (proofs/Exact).
pub record ConversionRules (b c : List ℕ) : Type 0 where
  pub size : length c ≡ length b
  pub basis_is : age_basis c ≡ 1
  pub lowered : (k j : ℕ) → k < chains → 0 < link_at b k j → class_of b (link_at b k j) ≡ class_of c (link_at b k j) + 1
  pub copied : (p : ℕ) → (p ≡ 1 → ⊥) → NoLinkedClass b p → byte_at c p ≡ byte_at b p
