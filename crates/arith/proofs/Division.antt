-- The division fact, for all divisors together, bounds of products, and quotients by a product's upper part. Assumes
-- nothing.
use Rattle.std.proofs.Common.{◌≡◌, ℕ, zero, suc, ◌+◌, ◌-◌, ◌*◌, ◌/◌, ◌%◌, ◌<◌, ◌≤◌, false, sym, ap, ◌∙◌, lt_of_lt_of_le}
use Rattle.std.proofs.Common.{le_of_lt, mul-le-mul_right, mod-lt, mul_assoc, mul_comm, add-mul, mul-le-mul}
use Rattle.std.proofs.Common.{lt_of_mul-lt-mul_right, mul-le-mul_left, mul-lt-mul_of_pos_right, one-mul, div-add-mod'}
use Rattle.std.proofs.Common.{zero-mul, div-mul-le_self, le_of_mul-le-mul_right, arith, ltb-false}
use native.Mathlib.Nat.{div-eq_of_lt, mul-add-div_right}
use Rattle.arith.specs.Fractions.{IsFraction, near_top}

-- x y / d is q y + r y / d, where x = q d + r
pub mul_div : (x y d : ℕ) → 0 < d → (x * y) / d ≡ (x / d) * y + ((x % d) * y) / d
mul_div x y d h =
    ap (λ (n : ℕ). (n * y) / d) (sym (div-add-mod' x d))
    ∙ ap (λ (n : ℕ). n / d)
    (add-mul (x / d * d) (x % d) y ∙ ap (λ (n : ℕ). n + x % d * y)
    (mul_assoc (x / d) d y ∙ ap (λ (n : ℕ). x / d * n) (mul_comm d y) ∙ sym (mul_assoc (x / d) y d)))
    ∙ mul-add-div_right h (x / d * y) (x % d * y)

-- the remainder's product is at most the divisor's
pub rest_le : (x y d : ℕ) → 0 < d → (x % d) * y ≤ d * y
rest_le x y d h = mul-le-mul_right y (le_of_lt (mod-lt x h))

-- a product is at most that of the bounds
pub product_le : {a b : ℕ} (m n : ℕ) → a ≤ m → b ≤ n → a * b ≤ m * n
product_le m n p q = mul-le-mul p q

-- a product of two halves
halves : (a b : ℕ) → a ≤ 4294967295 → b ≤ 4294967295 → a * b ≤ 18446744065119617025
halves a b p q = omega (arith, product_le {a = a} {b = b} 4294967295 4294967295 p q)

-- the upper half of a and the lower of b, and so on
pub high_low : (a b : ℕ) → a ≤ 18446744073709551615 → (a / 4294967296) * (b % 4294967296) ≤ 18446744065119617025
high_low a b h = halves (a / 4294967296) (b % 4294967296) (omega arith) (omega arith)

pub low_low : (a b : ℕ) → (a % 4294967296) * (b % 4294967296) ≤ 18446744065119617025
low_low a b = halves (a % 4294967296) (b % 4294967296) (omega arith) (omega arith)

pub low_high : (a b : ℕ) → b ≤ 18446744073709551615 → (a % 4294967296) * (b / 4294967296) ≤ 18446744065119617025
low_high a b h = halves (a % 4294967296) (b / 4294967296) (omega arith) (omega arith)

pub high_high : (a b : ℕ) → a ≤ 18446744073709551615 → b ≤ 18446744073709551615
    → (a / 4294967296) * (b / 4294967296) ≤ 18446744065119617025
high_high a b h k = halves (a / 4294967296) (b / 4294967296) (omega arith) (omega arith)

-- a product, from the halves of its factors, and its upper half
parts : (ah al bh bl : ℕ)
    → (ah * 4294967296 + al) * (bh * 4294967296 + bl) ≡ (ah * bh) * 18446744073709551616 + (ah * bl) * 4294967296 +
    (al * bh) * 4294967296 + al * bl
parts ah al bh bl = omega arith

by_halves : (a b : ℕ)
    → a * b ≡ ((a / 4294967296) * (b / 4294967296)) * 18446744073709551616 + ((a / 4294967296) * (b % 4294967296)) *
    4294967296
    + ((a % 4294967296) * (b / 4294967296)) * 4294967296 + (a % 4294967296) * (b % 4294967296)
by_halves a b =
    ap (λ (x : ℕ). x * b) (sym (div-add-mod' a 4294967296)) ∙ ap
    (λ (x : ℕ). (a / 4294967296 * 4294967296 + a % 4294967296) * x) (sym (div-add-mod' b 4294967296))
    ∙ parts (a / 4294967296) (a % 4294967296) (b / 4294967296) (b % 4294967296)

upper : (p q s t z : ℕ) → z ≡ p * 18446744073709551616 + q * 4294967296 + s * 4294967296 + t
    → p + (q + t / 4294967296) / 4294967296 + (s + (q + t / 4294967296) % 4294967296) / 4294967296 ≡ z /
    18446744073709551616
upper p q s t z e = omega arith

pub mul_high : (a b : ℕ) → (a / 4294967296) * (b / 4294967296)
    + ((a / 4294967296) * (b % 4294967296) + (a % 4294967296) * (b % 4294967296) / 4294967296) / 4294967296
    + ((a % 4294967296) * (b / 4294967296) +
    ((a / 4294967296) * (b % 4294967296) + (a % 4294967296) * (b % 4294967296) / 4294967296) % 4294967296) /
    4294967296
    ≡ (a * b) / 18446744073709551616
mul_high a b = upper _ _ _ _ (a * b) (by_halves a b)

-- a product over 512 is the upper half of the raised factors' product, and over 1,953,125 more it is the share
raised : (m : ℕ) → (m * 36028797018963968) / 18446744073709551616 ≡ m / 512
raised m = omega arith

pub share_raised : (x y q : ℕ) → q ≡ ((x * 4194304) * (y * 8589934592)) / 18446744073709551616
    → q / 1953125 ≡ (x * y) / 1000000000
share_raised x y q e =
    let m = x * y in
    let p : (x * 4194304) * (y * 8589934592) ≡ m * 36028797018963968 = omega arith in
    let h : q ≡ m / 512 = e ∙ ap (λ (n : ℕ). n / 18446744073709551616) p ∙ raised m in
    over_both m q h
  where
    over_both : (m q : ℕ) → q ≡ m / 512 → q / 1953125 ≡ m / 1000000000
    over_both m q h = omega arith

-- the lower half of a product, from the halves of its factors
lower : (p n t z : ℕ) → z ≡ p * 18446744073709551616 + n * 4294967296 + t
    → (n % 4294967296 * 4294967296 + t) % 18446744073709551616 ≡ z % 18446744073709551616
lower p n t z e = omega arith

crossed : (s q : ℕ) → (s % 4294967296 + q % 4294967296) % 4294967296 ≡ (q + s) % 4294967296
crossed s q = omega arith

pub mul_low : (a b : ℕ)
    → (((a % 4294967296) * (b / 4294967296) % 4294967296 + (a / 4294967296) * (b % 4294967296) % 4294967296) %
    4294967296 * 4294967296
    + (a % 4294967296) * (b % 4294967296)) % 18446744073709551616 ≡ (a * b) % 18446744073709551616
mul_low a b =
    let q = (a / 4294967296) * (b % 4294967296) in
    let s = (a % 4294967296) * (b / 4294967296) in
    let t = (a % 4294967296) * (b % 4294967296) in
    ap (λ (m : ℕ). (m * 4294967296 + t) % 18446744073709551616) (crossed s q)
    ∙ lower ((a / 4294967296) * (b / 4294967296)) (q + s) t (a * b) (omega (arith, by_halves a b))

-- a quotient by its rest
pub quotient_is : (n d q : ℕ) → 0 < d → q * d ≤ n → n < q * d + d → q ≡ n / d
quotient_is n d q some h k =
    let r = n - q * d in
    let e : n ≡ q * d + r = omega arith in
    sym (ap (λ (x : ℕ). x / d) e ∙ mul-add-div_right some q r ∙ omega
    (arith, div-eq_of_lt {n = r} {m = d} (omega arith)))

-- what is left of a product, from the lower halves
pub left_is : (a b d r : ℕ) → b ≤ a → a < b + 2 * d → d < 9223372036854775808 → r < 18446744073709551616
    → (r + b % 18446744073709551616) % 18446744073709551616 ≡ a % 18446744073709551616 → r ≡ a - b
left_is a b d r h k small fits e = omega arith

-- q is the quotient where what is left is below d, and one too few where it is not
pub quotient_here : (n d q : ℕ) → q * d ≤ n → n - q * d < d → q ≡ n / d
quotient_here n d q h k = quotient_is n d q (omega arith) h (omega arith)

pub quotient_next : (n d q : ℕ) → 0 < d → q * d ≤ n → n < q * d + 2 * d → d ≤ n - q * d → q + 1 ≡ n / d
quotient_next n d q some h k l = quotient_is n d (q + 1) some (omega arith) (omega arith)

-- a fraction, by its two sides
pub fraction_is : (w d f : ℕ) → f * d ≤ w * 18446744073709551616 → w * 18446744073709551616 ≤ f * d + d
    → IsFraction w d f
unfolding IsFraction
fraction_is w d f h k = (h, k)

fraction_low : (w d f : ℕ) → IsFraction w d f → f * d ≤ w * 18446744073709551616
unfolding IsFraction
fraction_low w d f e = e.0

fraction_high : (w d f : ℕ) → IsFraction w d f → w * 18446744073709551616 ≤ f * d + d
unfolding IsFraction
fraction_high w d f e = e.1

-- by a fraction: the upper half q of the product is no more than the quotient, and what the fraction lacks is at most x
module _ (x w d f q : ℕ) (some : 0 < d) (e : IsFraction w d f) (upper-half : q ≡ x * f / 18446744073709551616) where
  whole : x * f ≡ q * 18446744073709551616 + x * f % 18446744073709551616
  whole = rw upper-half (sym (div-add-mod' (x * f) 18446744073709551616))

  pub part_below : q * d ≤ x * w
  part_below =
      le_of_mul-le-mul_right {k = 18446744073709551616}
      (omega (arith, ap (λ (n : ℕ). n * d) whole, mul-le-mul_left x (fraction_low w d f e))) (omega arith)

  -- in parts of 2^64: the product, and x more, over d
  above : (x * w) * 18446744073709551616 ≤ (q * 18446744073709551616 + x * f % 18446744073709551616 + x) * d
  above = omega (arith, mul-le-mul_left x (fraction_high w d f e), ap (λ (n : ℕ). n * d) whole)

  pub part_above : (n : ℕ) → x * f % 18446744073709551616 + x < n * 18446744073709551616 → x * w < q * d + n * d
  part_above n h = lt_of_mul-lt-mul_right 18446744073709551616 (omega (arith, above, mul-lt-mul_of_pos_right h some))

-- the upper half of a product is below its factors
below_first : (x f : ℕ) → 0 < x → f ≤ 18446744073709551615 → x * f / 18446744073709551616 < x
below_first x f some h =
    lt_of_mul-lt-mul_right 18446744073709551616
    (omega (arith, div-mul-le_self (x * f) 18446744073709551616, mul-le-mul_left x h))

none_small : (f : ℕ) → 0 * f / 18446744073709551616 < 18446744073709551615
none_small f = rw (zero-mul f) (omega arith)

pub high_small : (x f q : ℕ) → x ≤ 18446744073709551615 → f ≤ 18446744073709551615 → q ≡ x * f / 18446744073709551616
    → q < 18446744073709551615
high_small zero f q h k e = rw e (none_small f)
high_small (suc n) f q h k e = rw e (lt_of_lt_of_le (below_first (suc n) f (omega arith) k) h)

-- nothing carries where the lower half leaves space for x
pub no_carry : (low x most : ℕ) → x ≤ most → most < 18446744073709551616 → low ≤ 18446744073709551615 - most
    → low + x < 1 * 18446744073709551616
no_carry low x most h fits k = omega arith

pub one_carry : (p x : ℕ) → x < 18446744073709551616 → p % 18446744073709551616 + x < 2 * 18446744073709551616
one_carry p x h = omega arith

-- so the upper half is the quotient where the lower half leaves space for the largest x; and anywhere it can be
-- corrected
module _ (x w d f q most : ℕ) (some : 0 < d) (e : IsFraction w d f) (upper-half : q ≡ x * f / 18446744073709551616)
    (h : x ≤ most)
    (fits : most ≤ 18446744073709551615) where
  pub part_sure : near_top most (x * f) ≡ false → q ≡ x * w / d
  part_sure far =
      quotient_is (x * w) d q some (part_below x w d f q some e upper-half)
      (rw (one-mul d) at
      (part_above x w d f q some e upper-half 1 (no_carry _ x most h (omega (arith, fits)) (ltb-false _ _ far))))

  pub part_short : d < 9223372036854775808 → q < 18446744073709551615
      → (d < 9223372036854775808) × (q < 18446744073709551615) × (q * d ≤ x * w) × (x * w < q * d + 2 * d)
  part_short small below = (
    small,
    below,
    part_below x w d f q some e upper-half,
    part_above x w d f q some e upper-half 2 (one_carry _ x (omega (arith, h, fits))),
  )
