-- The paper's weights as figures, and in which years each holds: one proposition on weights by setting and year.
use Rattle.std.specs.Prelude.{◌≡◌, ℕ, ◌*◌, ◌<◌, ◌≤◌}
use Rattle.settings.specs.Settings.{weight_of}

-- the weights of one year, in thousandths
pub record YearWeights : Type 0 where
  pub men : ℕ
  pub women : ℕ
  pub lapse : ℕ
  pub costs : ℕ
  pub claims : ℕ

-- the weights of mortality: in the base, and where setting 1 or 2 shifts them
pub record MortalityWeights : Type 0 where
  pub men : ℕ
  pub women : ℕ
  pub men_up : ℕ
  pub women_up : ℕ
  pub men_down : ℕ
  pub women_down : ℕ

-- ten, twelve and eight times the percentages of men and women
abbrev pub mortality_of : ℕ → ℕ → MortalityWeights
mortality_of men women = record {
  men = men * 10;
  women = women * 10;
  men_up = men * 12;
  women_up = women * 12;
  men_down = men * 8;
  women_down = women * 8;
}

-- a year whose mortality is not shifted: its weights of lapse, costs and claims
abbrev pub unshifted : MortalityWeights → ℕ → ℕ → ℕ → YearWeights
unshifted m lapse costs claims =
    record { men = m.men; women = m.women; lapse = lapse; costs = costs; claims = claims }

abbrev pub mortality_up : MortalityWeights → YearWeights
mortality_up m = record { men = m.men_up; women = m.women_up; lapse = 1000; costs = 1000; claims = 1000 }

abbrev pub mortality_down : MortalityWeights → YearWeights
mortality_down m = record { men = m.men_down; women = m.women_down; lapse = 1000; costs = 1000; claims = 1000 }

-- of the weights by setting and year, those of a setting are these in all years
abbrev pub Always : (ℕ → ℕ → YearWeights) → ℕ → YearWeights → Type 0
Always weights setting w = (k : ℕ) → weights setting k ≡ w

-- these for k = 0 to 4, and from k = 5 on those of the base
pub record FiveYears (weights : ℕ → ℕ → YearWeights) (m : MortalityWeights) (setting : ℕ)
    (w : YearWeights) : Type 0 where
  pub first : (k : ℕ) → k < 5 → weights setting k ≡ w
  pub later : (k : ℕ) → 5 ≤ k → weights setting k ≡ unshifted m 1000 1000 1000

-- the weights of the eight settings, where those of mortality are these (FINMA 5.2.2)
pub record SettingWeights (weights : ℕ → ℕ → YearWeights) (m : MortalityWeights) : Type 0 where
  pub setting_0 : Always weights 0 (unshifted m 1000 1000 1000)
  pub setting_1 : FiveYears weights m 1 (mortality_up m)
  pub setting_2 : FiveYears weights m 2 (mortality_down m)
  pub setting_3 : Always weights 3 (unshifted m 1300 1000 1000)
  pub setting_4 : Always weights 4 (unshifted m 700 1000 1000)
  pub setting_5 : FiveYears weights m 5 (unshifted m 1000 1200 1000)
  pub setting_6 : FiveYears weights m 6 (unshifted m 1000 800 1000)
  pub setting_7 : FiveYears weights m 7 (unshifted m 1000 1000 1050)

-- the weights of the table in a setting and the year k, those of mortality for each percent
abbrev pub table_at : ℕ → ℕ → YearWeights
table_at setting k = record {
  men = weight_of setting 0 k;
  women = weight_of setting 1 k;
  lapse = weight_of setting 2 k;
  costs = weight_of setting 3 k;
  claims = weight_of setting 4 k;
}

-- they are the paper's of one percent
abbrev pub TableWeights : Type 0
TableWeights = SettingWeights table_at (mortality_of 1 1)
