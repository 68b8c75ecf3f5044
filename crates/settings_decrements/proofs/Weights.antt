-- Laws of the weights of mortality and lapse: what is picked for the year k is the weight of the year k. Assumes
-- nothing.
use mathlib.Core.Path.{◌≡◌, refl}
use mathlib.Core.Bool.{Bool, true, false, cond}
use mathlib.Core.List.{List}
use Prim.Native.Nat.{ℕ, zero, suc, ◌*◌, ◌≤◌}
use native.Mathlib.Omega.{arith}
use lib.Dec.{ltb}
use Rattle.settings.specs.Settings.{weight_in, weight_of}
use Rattle.settings_decrements.specs.Decrements.{decrements_at, of_sex}
use Rattle.settings_decrements.specs.Decrements.{percent_of, mortality_weight, decrements_of, mortality_in, lapse_in}

percent_by : (percent setting kind : ℕ) (t : Bool)
    → cond t (percent * weight_of setting kind 0) (percent * weight_of setting kind 5) ≡ percent * weight_in t setting
    kind
unfolding weight_of
percent_by percent setting kind true = refl
percent_by percent setting kind false = refl

pub lapse_is : (b : List ℕ) (setting k : ℕ) → lapse_in (decrements_of b setting) k ≡ weight_of setting 2 k
unfolding decrements_of weight_of
lapse_is b setting k = by (ltb k 5)
  where
    by : (t : Bool) → (cond t (decrements_at b setting 0) (decrements_at b setting 5)).lapse ≡ weight_in t setting 2
    by true = refl
    by false = refl

pub men_is : (b : List ℕ) (setting k : ℕ) → mortality_in (decrements_of b setting) 0 k ≡ mortality_weight b setting 0 k
unfolding decrements_of weight_of mortality_weight
men_is b setting k = by (ltb k 5)
  where
    by : (t : Bool) → of_sex 0 (cond t (decrements_at b setting 0) (decrements_at b setting 5))
        ≡ percent_of b 0 * weight_in t setting 0
    by true = refl
    by false = refl

pub women_is : (b : List ℕ) (setting k : ℕ) → mortality_in (decrements_of b setting) 1 k ≡ mortality_weight b setting 1
    k
unfolding decrements_of weight_of mortality_weight
women_is b setting k = by (ltb k 5)
  where
    by : (t : Bool) → of_sex 1 (cond t (decrements_at b setting 0) (decrements_at b setting 5))
        ≡ percent_of b 1 * weight_in t setting 1
    by true = refl
    by false = refl

pub mortality_is : (b : List ℕ) (setting sex k : ℕ) → sex ≤ 1
    → mortality_in (decrements_of b setting) sex k ≡ mortality_weight b setting sex k
mortality_is b setting zero k h = men_is b setting k
mortality_is b setting (suc zero) k h = women_is b setting k
mortality_is b setting (suc (suc sex)) k h = absurd (omega arith)
