-- A table of five hundred numbers: for each of the fifty years ten, for each of the five projections premium and
-- claims. What is added to one.
use Rattle.std.specs.Prelude.{cond, List, [], ◌∷◌, ◌⊎◌, ◌≡◌, ℕ, zero, suc, ◌+◌, ◌*◌, ◌/◌, ◌%◌, ltb, eqb, get_or, set}
use Rattle.std.specs.Prelude.{Option, None, Some}
use Rattle.settings_decrements.specs.Decrements.{decrements_of}
use Rattle.valuation.specs.Steps.{Cell}
use Rattle.valuation.specs.Portfolio.{cell_of}
use Rattle.cell.specs.declared.Cell.{Cell as State}
use Rattle.cell.specs.States.{premium_by, claims_by, premium_in, claims_in}

-- a table's years, the numbers of each, and all its numbers
abbrev pub year_count : ℕ
year_count = 50

abbrev pub a_year : ℕ
a_year = 10

abbrev pub table_numbers : ℕ
table_numbers = 500

-- where the premium of projection s stands in year k; its claims stand next
abbrev pub premium_place : ℕ → ℕ → ℕ
premium_place k s = a_year * k + 2 * s

-- what a cell adds to number j, where c gives it in each projection: premium at the even places, claims at the odd ones
unfoldable pub amount_by : (ℕ → Cell) → ℕ → ℕ
amount_by c j =
    cond (eqb (j % 2) 0) (premium_by (c (j % a_year / 2)) (j / a_year)) (claims_by (c (j % a_year / 2)) (j / a_year))

-- the same of the cell of record i of a book: projection s is that of setting s
unfoldable pub amount_at : List ℕ → ℕ → ℕ → ℕ
amount_at b i = amount_by (λ s. cell_of b (decrements_of b s) i)

-- the table t with f j added to its number j, for each j below n
unfoldable pub added : (ℕ → ℕ) → ℕ → List ℕ → List ℕ
added f zero t = t
added f (suc n) t = set (added f n t) n (get_or (added f n t) n 0 + f n)

-- the same for each record i of a list, with what f gives for it, in the whole table
unfoldable pub added_all : (ℕ → ℕ → ℕ) → List ℕ → List ℕ → List ℕ
added_all f [] t = t
added_all f (i ∷ links) t = added_all f links (added (f i) table_numbers t)

-- f from number m on, and nothing before
unfoldable pub late : ℕ → (ℕ → ℕ) → ℕ → ℕ
late m f j = cond (ltb j m) 0 (f j)

-- of f only the years from m to before k of projection s: nothing elsewhere
unfoldable pub only_years : (ℕ → ℕ) → ℕ → ℕ → ℕ → ℕ → ℕ
only_years f s m k j =
    cond (eqb (j % a_year / 2) s) (cond (ltb (j / a_year) m) 0 (cond (ltb (j / a_year) k) (f j) 0)) 0

-- all of f where no one projection is asked for, and else the fifty years of that one
unfoldable pub chosen : Option ℕ → (ℕ → ℕ) → ℕ → ℕ
chosen None f j = f j
chosen (Some s) f j = only_years f s 0 year_count j

-- projection s is among them
abbrev pub Among : Option ℕ → ℕ → Type 0
Among which s = (which ≡ None) ⊎ (which ≡ Some s)

-- what the cell of record i adds there
unfoldable pub amount_in : List ℕ → Option ℕ → ℕ → ℕ → ℕ
amount_in b which i = chosen which (amount_at b i)

-- x more at number j, and y more at the next
abbrev pub one_more : List ℕ → ℕ → ℕ → List ℕ
one_more t j x = set t j (get_or t j 0 + x)

unfoldable pub two_more : List ℕ → ℕ → ℕ → ℕ → List ℕ
two_more t j x y = one_more (one_more t j x) (j + 1) y

-- premium and claims of a state in year k of a projection, added at their places
abbrev pub year_more : List ℕ → ℕ → ℕ → State → List ℕ → List ℕ
year_more t setting k c u = two_more u (premium_place k setting) (premium_in t c) (claims_in t c)
