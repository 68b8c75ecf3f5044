-- What is asked for on the screen: what the caller alone decides, and the linked record of a subgroup code, sex and
-- class.
use Rattle.std.specs.Prelude.{ℕ, zero, suc, ◌+◌, ◌-◌, ◌*◌, ◌<◌, ◌≡◌, cond, List, [], ◌∷◌, leb, ltb, eqb}
use Rattle.std.specs.Prelude.{Option, Some, None}
use Rattle.verdict.specs.Verdicts.{need, ◌and_then◌, Verdict}
use Rattle.le_bytes.specs.Fields.{within}
use Rattle.book.specs.Layout.{chains, code_of, sex_of, class_of, link_at}
use Rattle.valuation.specs.Portfolio.{chain_links}

-- the chain of a subgroup code and a sex
abbrev pub chain_of : ℕ → ℕ → ℕ
chain_of code sex = 2 * (code - 1) + sex

-- the first of some records that has the class, 0 where none has
unfoldable pub of_class : List ℕ → ℕ → List ℕ → ℕ
of_class b class [] = 0
of_class b class (i ∷ links) = cond (eqb (class_of b i) class) i (of_class b class links)

-- the number of a record, where it is not 0
abbrev pub if_any : ℕ → Option ℕ
if_any zero = None
if_any (suc i) = Some (suc i)

-- the record that is asked for: the linked one of that class in the chain, 0 where it has none
unfoldable pub record_at_class : List ℕ → ℕ → ℕ → ℕ → ℕ
record_at_class b code sex class = of_class b class (chain_links b (chain_of code sex))

-- what the caller alone decides: 14 setting; 25 code, sex, or a buffer of under 50 numbers
unfoldable pub asked_check : ℕ → ℕ → ℕ → ℕ → Verdict
asked_check setting code sex numbers =
    need (ltb setting 8) 14 0 and_then
    need (within 1 7 code) 25 0 and_then
    need (leb sex 1) 25 0 and_then
    need (leb 50 numbers) 25 0

-- record i has the code, the sex and the class, and no other linked record of the book has all three
pub record OnlyOne (b : List ℕ) (code sex class i : ℕ) : Type 0 where
  pub code_is : code_of b i ≡ code
  pub sex_is : sex_of b i ≡ sex
  pub class_is : class_of b i ≡ class
  pub only : (k j : ℕ) → k < chains → 0 < link_at b k j
      → code_of b (link_at b k j) ≡ code → sex_of b (link_at b k j) ≡ sex
      → class_of b (link_at b k j) ≡ class → link_at b k j ≡ i
