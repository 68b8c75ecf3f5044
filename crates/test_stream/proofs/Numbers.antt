-- A number that is made of the bytes read, where there are any, is that of so many bytes which were read so. Assumes
-- nothing.
use Rattle.std.proofs.Common.{◌≡◌, ℕ, List, length, None, Some, IfSome, IsSomeAnd, MatchOption}
use Rattle.std.specs.declared.option.Option.{Option}

pub number_read : (f : List ℕ → ℕ) (made : List ℕ → ℕ → Type 0) (size : ℕ) (read : List ℕ → Type 0)
    (found : Option (List ℕ)) (r : Option ℕ)
    → ((x : List ℕ) (n : ℕ) → made x n → n ≡ f x)
    → IfSome found (λ x. (length x ≡ size) × read x)
    → MatchOption found (r ≡ None) (λ x. IsSomeAnd r (made x))
    → IfSome r (λ n. (x : List ℕ) × (n ≡ f x) × (length x ≡ size) × read x)
number_read f made size read None r h p q = rw q tt
number_read f made size read (Some x) None h p q = tt
number_read f made size read (Some x) (Some n) h p q = (x, h x n q, p.0, p.1)
