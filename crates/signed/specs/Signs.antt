-- Numbers with signs: one of a list, comparisons, sizes.
use Rattle.std.specs.Prelude.{ℕ, ◌<◌, ◌≤◌, Bool, List, ℤ, pos, negsuc, neg_ℤ, nat_abs, get_or}
use Rattle.std.specs.Int.Signed.{lt_z}
use Rattle.std.specs.Ordering.{int_eq}

-- number i of a list with signs
unfoldable pub number_at : List ℤ → ℕ → ℤ
number_at xs i = get_or xs i (pos 0)

abbrev pub is_negative : ℤ → Bool
is_negative z = lt_z z (pos 0)

-- the two are one number: what `==` answers
abbrev pub same : ℤ → ℤ → Bool
same x y = int_eq x y

-- a size with a number's sign
unfoldable pub with_sign : ℤ → ℕ → ℤ
with_sign (pos n) m = pos m
with_sign (negsuc n) m = neg_ℤ (pos m)

-- none of the first n numbers passes the limit either way
abbrev pub SizesTo : ℕ → ℕ → List ℤ → Type 0
SizesTo limit n xs = (i : ℕ) → i < n → nat_abs (number_at xs i) ≤ limit
