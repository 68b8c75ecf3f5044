-- Laws of the weights: their bounds, and in which years they hold.
-- Assumes nothing.
use mathlib.Core.Path.{◌≡◌, refl}
use mathlib.Core.Bool.{Bool, true, false, cond}
use Prim.Native.Nat.{ℕ, zero, suc, ◌<◌, ◌≤◌}
use native.Mathlib.Nat.{le_refl, mul-le-mul, div-le_of_le-mul}
use native.Mathlib.Omega.{arith}
use lib.Dec.{ltb, eqb}
use Rattle.settings.specs.Settings.{base_weight, shift, weight_in, weight_of}

pub pick_le : (t : Bool) {a b : ℕ} (m : ℕ) → a ≤ m → b ≤ m → cond t a b ≤ m
pick_le true m p q = p
pick_le false m p q = q

base_most : (kind : ℕ) → base_weight kind ≤ 1000
base_most kind = pick_le (ltb kind 2) 1000 (omega arith) (omega arith)

shift_most : (setting kind : ℕ) → shift setting kind ≤ 130
shift_most setting kind =
    pick_le (ltb kind 2) 130 (two 1 2 (omega arith) (omega arith))
    (pick_le (eqb kind 2) 130 (two 3 4 (omega arith) (omega arith))
    (pick_le (eqb kind 3) 130 (two 5 6 (omega arith) (omega arith))
    (pick_le (eqb setting 7) 130 (omega arith) (omega arith))))
  where
    two : (up down : ℕ) {a b : ℕ} → a ≤ 130 → b ≤ 130 → cond (eqb setting up) a (cond (eqb setting down) b 100) ≤ 130
    two up down p q = pick_le (eqb setting up) 130 p (pick_le (eqb setting down) 130 q (omega arith))

-- no weight is above 1,300 thousandths
pub weight_most : (setting kind k : ℕ) → weight_of setting kind k ≤ 1300
unfolding weight_of
weight_most setting kind k =
    div-le_of_le-mul 100
    (mul-le-mul (base_most kind)
    (pick_le (ltb k 5) 130 (shift_most setting kind)
    (pick_le (eqb kind 2) 130 (shift_most setting kind) (omega arith))))

-- no weight of costs is above 1,200
pub cost_weight_most : (setting k : ℕ) → weight_of setting 3 k ≤ 1200
unfolding weight_of
cost_weight_most setting k =
    div-le_of_le-mul 100
    (mul-le-mul (base_most 3)
    (pick_le (ltb k 5) 120
    (pick_le (eqb setting 5) 120 (omega arith) (pick_le (eqb setting 6) 120 (omega arith) (omega arith)))
    (omega arith)))

-- no weight of claims is above 1,050
pub claims_weight_most : (setting k : ℕ) → weight_of setting 4 k ≤ 1050
unfolding weight_of
claims_weight_most setting k =
    div-le_of_le-mul 100
    (mul-le-mul (base_most 4)
    (pick_le (ltb k 5) 105 (pick_le (eqb setting 7) 105 (omega arith) (omega arith)) (omega arith)))

-- no weight of mortality is above 12 for each percent
pub multiple_most : (setting sex k : ℕ) → sex ≤ 1 → weight_of setting sex k ≤ 12
unfolding weight_of
multiple_most setting sex k h = by_sex sex h
  where
    shifted : (down : ℕ) → down ≤ 120
        → cond (ltb k 5) (cond (eqb setting 1) 120 (cond (eqb setting 2) down 100)) 100 ≤ 120
    shifted down h =
        pick_le (ltb k 5) 120
        (pick_le (eqb setting 1) 120 (omega arith) (pick_le (eqb setting 2) 120 h (omega arith)))
        (omega arith)

    by_sex : (sex : ℕ) → sex ≤ 1 → weight_in (ltb k 5) setting sex ≤ 12
    by_sex zero h = div-le_of_le-mul 100 (mul-le-mul (le_refl 10) (shifted _ (omega arith)))
    by_sex (suc zero) h = div-le_of_le-mul 100 (mul-le-mul (le_refl 10) (shifted _ (omega arith)))
    by_sex (suc (suc sex)) h = absurd (omega arith)

-- the first five years are as year 0, the later ones as year 5
pub weight_by : (setting kind : ℕ) (t : Bool)
    → cond t (weight_of setting kind 0) (weight_of setting kind 5) ≡ weight_in t setting kind
unfolding weight_of
weight_by setting kind true = refl
weight_by setting kind false = refl

-- what holds of each of the eight settings
pub each_setting : (P : ℕ → Type 0) → P 0 → P 1 → P 2 → P 3 → P 4 → P 5 → P 6 → P 7 → (setting : ℕ) → setting < 8
    → P setting
each_setting P a b c d e f g h zero l = a
each_setting P a b c d e f g h (suc zero) l = b
each_setting P a b c d e f g h (suc (suc zero)) l = c
each_setting P a b c d e f g h (suc (suc (suc zero))) l = d
each_setting P a b c d e f g h (suc (suc (suc (suc zero)))) l = e
each_setting P a b c d e f g h (suc (suc (suc (suc (suc zero))))) l = f
each_setting P a b c d e f g h (suc (suc (suc (suc (suc (suc zero)))))) l = g
each_setting P a b c d e f g h (suc (suc (suc (suc (suc (suc (suc zero))))))) l = h
each_setting P a b c d e f g h (suc (suc (suc (suc (suc (suc (suc (suc n)))))))) l = absurd (omega arith)
