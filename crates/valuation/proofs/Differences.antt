-- An integer as the difference of two whole numbers: what is linear then is omega's. Assumes nothing.
use mathlib.Core.Path.{◌≡◌, ap}
use mathlib.Core.Bool.{Bool, true, false, not, cond}
use Prim.Native.Nat.{ℕ, zero, suc, ◌+◌, ◌*◌, ◌-◌, ◌≤◌, ◌<◌}
use native.Mathlib.Omega.{arith}
use lib.Dec.{T, ltb, ltb→lt, nltb→le}
use lib.IntN.{ℤ, pos, negsuc, neg_ℤ, nat_abs, sub_ℕ, ◌+ℤ◌, ◌-ℤ◌, ◌*ℤ◌}

-- z is a less b
abbrev pub IsDiff : ℤ → ℕ → ℕ → Type 0
IsDiff (pos n) a b = n + b ≡ a
IsDiff (negsuc n) a b = suc n + a ≡ b

pub diff_pos : (n : ℕ) → IsDiff (pos n) n 0
diff_pos n = omega arith

pub diff_sub : (a b : ℕ) → IsDiff (sub_ℕ a b) a b
diff_sub a b = go (ltb a b) (ltb→lt a b) (nltb→le a b)
  where
    go : (t : Bool) → (T t → a < b) → (T (not t) → b ≤ a) → IsDiff (cond t (negsuc (b - suc a)) (pos (a - b))) a b
    go true p q = omega (arith, p tt)
    go false p q = omega (arith, q tt)

-- the same difference, of other numbers
pub diff_same : (z : ℤ) (a b c d : ℕ) → a + d ≡ c + b → IsDiff z a b → IsDiff z c d
diff_same (pos n) a b c d e h = omega arith
diff_same (negsuc n) a b c d e h = omega arith

pub diff_neg : (z : ℤ) (a b : ℕ) → IsDiff z a b → IsDiff (neg_ℤ z) b a
diff_neg (pos zero) a b h = omega arith
diff_neg (pos (suc n)) a b h = omega arith
diff_neg (negsuc n) a b h = omega arith

pub diff_plus : (z w : ℤ) (a b c d : ℕ) → IsDiff z a b → IsDiff w c d → IsDiff (z +ℤ w) (a + c) (b + d)
diff_plus (pos n) (pos m) a b c d h k = omega arith
diff_plus (pos n) (negsuc m) a b c d h k =
    diff_same (sub_ℕ n (suc m)) n (suc m) (a + c) (b + d) (omega arith) (diff_sub n (suc m))
diff_plus (negsuc n) (pos m) a b c d h k =
    diff_same (sub_ℕ m (suc n)) m (suc n) (a + c) (b + d) (omega arith) (diff_sub m (suc n))
diff_plus (negsuc n) (negsuc m) a b c d h k = omega arith

pub diff_minus : (z w : ℤ) (a b c d : ℕ) → IsDiff z a b → IsDiff w c d → IsDiff (z -ℤ w) (a + d) (b + c)
diff_minus z w a b c d h k = diff_plus z (neg_ℤ w) a b d c h (diff_neg w c d k)

-- of two whole numbers
pub diff_less : (a b : ℕ) → IsDiff (pos a -ℤ pos b) a b
diff_less a b =
    diff_same (pos a -ℤ pos b) (a + 0) (0 + b) a b (omega arith)
    (diff_minus (pos a) (pos b) a 0 b 0 (diff_pos a) (diff_pos b))

pub diff_times : (z : ℤ) (a b d : ℕ) → IsDiff z a b → IsDiff (z *ℤ pos d) (a * d) (b * d)
diff_times (pos n) a b d h = omega (arith, ap (λ (x : ℕ). x * d) h)
diff_times (negsuc n) a b d h = diff_neg (pos (suc n * d)) (b * d) (a * d) (omega (arith, ap (λ (x : ℕ). x * d) h))

pub diff_abs : (z : ℤ) (a b e : ℕ) → IsDiff z a b → a ≤ b + e → b ≤ a + e → nat_abs z ≤ e
diff_abs (pos n) a b e h p q = omega arith
diff_abs (negsuc n) a b e h p q = omega arith

pub abs_diff : (z : ℤ) (a b e : ℕ) → IsDiff z a b → nat_abs z ≤ e → (a ≤ b + e) × (b ≤ a + e)
abs_diff (pos n) a b e h p = omega arith
abs_diff (negsuc n) a b e h p = omega arith

-- every integer is a difference
abbrev pub above : ℤ → ℕ
above (pos n) = n
above (negsuc n) = 0

abbrev pub below : ℤ → ℕ
below (pos n) = 0
below (negsuc n) = suc n

pub diff_self : (z : ℤ) → IsDiff z (above z) (below z)
diff_self (pos n) = omega arith
diff_self (negsuc n) = omega arith
