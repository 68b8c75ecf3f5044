-- The definition of `decimal` is right: read as a number it is n, and it starts with no 0 but for 0 itself. Assumes
-- nothing.
use mathlib.Core.Logic.{⊎_elim}
use mathlib.Core.List.{List, [], ◌∷◌, ◌++◌}
use mathlib.Core.Path.{◌≡◌, refl}
use Prim.Native.Nat.{ℕ, zero, suc, ◌+◌, ◌-◌, ◌*◌, ◌/◌, ◌%◌, ◌≤◌, ◌<◌}
use native.Mathlib.Omega.{arith}
use borrow.Author.Tests.{lt-ltb, le-ltb}
use lib.Dec.{lit≤}
use lib.IntN.{negsuc}
use lib.ListN.{length, length-append, get_or, get_or-append}
use Rattle.buffer.specs.Text.{spelled, decimal, signed}
use Rattle.buffer.proofs.Digits.{le_or_lt, decimal_one, decimal_more, decimal_tens, decimal_thousands}

-- the number that a list of digits spells, read from the left
unfoldable pub read : ℕ → List ℕ → ℕ
read so [] = so
read so (d ∷ ds) = read (so * 10 + (d - 48)) ds

read_more : (so d : ℕ) (ds : List ℕ) → read so (ds ++ (d ∷ [])) ≡ read so ds * 10 + (d - 48)
unfolding read
read_more so d [] = refl
read_more so d (e ∷ ds) = read_more (so * 10 + (e - 48)) d ds

read_spelled : (f n : ℕ) → n ≤ f → read 0 (spelled f n) ≡ n
unfolding spelled read
read_spelled zero n h = omega arith
read_spelled (suc f) n h =
    ⊎_elim (λ p. rw (le-ltb n 10 p)
    (omega (arith, read_more 0 (48 + n % 10) (spelled f (n / 10)), read_spelled f (n / 10) (omega arith))))
    (λ p. rw (lt-ltb n 10 p) (omega arith)) (le_or_lt 10 n)

pub decimal_read : (n : ℕ) → read 0 (decimal n) ≡ n
unfolding decimal
decimal_read n = read_spelled n n (omega arith)

-- one digit more at the end changes nothing at the start
lead_more : (l : List ℕ) (d : ℕ) → (48 < get_or l 0 0) × (0 < length l) → (48 < get_or (l ++ d ∷ []) 0 0)
    × (0 < length (l ++ d ∷ []))
lead_more l d w = (omega (arith, w.0, get_or-append l (d ∷ []) 0 0 w.1), omega (arith, length-append l (d ∷ [])))

lead_spelled : (f n : ℕ) → n ≤ f → 0 < n → (48 < get_or (spelled f n) 0 0) × (0 < length (spelled f n))
unfolding spelled
lead_spelled zero n h p = omega arith
lead_spelled (suc f) n h p =
    ⊎_elim (λ q. rw (le-ltb n 10 q)
    (lead_more (spelled f (n / 10)) (48 + n % 10) (lead_spelled f (n / 10) (omega arith) (omega arith))))
    (λ q. rw (lt-ltb n 10 q) (omega arith)) (le_or_lt 10 n)

pub decimal_lead : (n : ℕ) → 0 < n → 48 < get_or (decimal n) 0 0
unfolding decimal
decimal_lead n h = (lead_spelled n n (omega arith) h).0

-- worked examples
zero_text : decimal 0 ≡ 48 ∷ []
unfolding decimal spelled
zero_text = refl

-- By the laws of digits: to compute `decimal` of a number takes the checker as many steps as the number.
large_text : decimal 41876 ≡ 52 ∷ 49 ∷ 56 ∷ 55 ∷ 54 ∷ []
large_text =
    rw (
      decimal_more 41876 (lit≤ tt),
      decimal_more 4187 (lit≤ tt),
      decimal_more 418 (lit≤ tt),
      decimal_more 41 (lit≤ tt),
      decimal_one 4 (lit≤ tt),
    )

least_text : signed (negsuc 99999) ≡ 45 ∷ 49 ∷ 48 ∷ 48 ∷ 48 ∷ 48 ∷ 48 ∷ []
unfolding signed
least_text =
    rw (decimal_thousands 100 (lit≤ tt), decimal_tens 10 (lit≤ tt), decimal_tens 1 (lit≤ tt), decimal_one 1 (lit≤ tt))
