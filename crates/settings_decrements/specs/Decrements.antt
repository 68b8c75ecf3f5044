-- The weights of mortality and lapse of a book, in thousandths (paper, section Settings). Assumes nothing.
use Rattle.std.specs.Prelude.{cond, List, ◌≡◌, ℕ, ◌*◌, ◌≤◌, eqb}
use Rattle.book.specs.Layout.{edition, percent_at}
use Rattle.settings.specs.Settings.{in_period, weight_of}
use Rattle.settings.specs.declared.ByPeriod.{ByPeriod}
use Rattle.settings.specs.declared.Five.{Five}
use Rattle.settings_decrements.specs.declared.DecrementWeights.{DecrementWeights}

-- the mortality percentage of a sex, 0 men, 1 women: 87 and 86 (FINMA 4.4.3), unless the book is of edition 2 and
-- carries its own
unfoldable pub percent_of : List ℕ → ℕ → ℕ
percent_of b sex = cond (eqb (edition b) 2) (percent_at b sex) (cond (eqb sex 0) 87 86)

-- the weight of the mortality of a sex in the year k: ten times its percentage, twelve or eight times where a setting
-- shifts it
unfoldable pub mortality_weight : List ℕ → ℕ → ℕ → ℕ → ℕ
mortality_weight b setting sex k = percent_of b sex * weight_of setting sex k

-- the weights of mortality and lapse in the year k
abbrev pub decrements_at : List ℕ → ℕ → ℕ → DecrementWeights
decrements_at b setting k =
    record {
      men = mortality_weight b setting 0 k;
      women = mortality_weight b setting 1 k;
      lapse = weight_of setting 2 k;
    }

-- the weights of the first five years and of the later ones
abbrev pub Decrements : Type 0
Decrements = ByPeriod DecrementWeights

-- the weights of the base and of the four settings that shift mortality or lapse
abbrev pub Shifts : Type 0
Shifts = Five DecrementWeights

-- the same for the first five years, which are as year 0, and for the later ones, which are as year 5
unfoldable pub decrements_of : List ℕ → ℕ → Decrements
decrements_of b setting = record { first = decrements_at b setting 0; later = decrements_at b setting 5 }

-- What is read here for a year is the weight of that year: laws `mortality_is`, `lapse_is` (proofs/Weights).
-- of the weights of a year, that of the mortality of a sex
abbrev pub of_sex : ℕ → DecrementWeights → ℕ
of_sex sex w = cond (eqb sex 0) w.men w.women

-- the weight of the mortality of a sex in the year k
abbrev pub mortality_in : Decrements → ℕ → ℕ → ℕ
mortality_in w sex k = of_sex sex (in_period w k)

-- the weight of the lapse in the year k
abbrev pub lapse_in : Decrements → ℕ → ℕ
lapse_in w k = (in_period w k).lapse

-- w are the weights of mortality and lapse of a setting in year 0, none of them above 1,300 thousandths
pub record WeightsOf (b : List ℕ) (setting : ℕ) (w : DecrementWeights) : Type 0 where
  pub are : w ≡ decrements_at b setting 0
  pub men : w.men ≤ 1300
  pub women : w.women ≤ 1300
  pub lapse : w.lapse ≤ 1300

-- those of the base and of the four settings that shift mortality or lapse
pub record ShiftsOf (b : List ℕ) (w : Shifts) : Type 0 where
  pub base : WeightsOf b 0 w.base
  pub mortality_is_up : WeightsOf b 1 w.mortality_up
  pub mortality_is_down : WeightsOf b 2 w.mortality_down
  pub lapse_up : WeightsOf b 3 w.lapse_up
  pub lapse_down : WeightsOf b 4 w.lapse_down
