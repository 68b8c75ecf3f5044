-- Which columns of a chain's rows a setting takes, and which of the five projections serves it. Assumes nothing.
use Rattle.std.specs.Prelude.{Bool, ◌&&◌, cond, ℕ, eqb}
use Rattle.settings.specs.Settings.{weight_of}
use Rattle.settings.specs.Settings.{in_period}
use Rattle.settings.specs.declared.ByPeriod.{ByPeriod}
use Rattle.settings.specs.declared.Five.{Five}
use Rattle.settings_columns.specs.declared.Columns.{Columns}

-- in year k of a setting the weights of mortality, of men and of women, are those of year 0 of another
unfoldable pub same_mortality : ℕ → ℕ → ℕ → Bool
same_mortality setting k other =
    eqb (weight_of setting 0 k) (weight_of other 0 0) && eqb (weight_of setting 1 k) (weight_of other 1 0)

-- the column of the weights of mortality that hold in year k of a setting: 0 the base's, 1 of more deaths, 2 of fewer
unfoldable pub survival_column : ℕ → ℕ → ℕ
survival_column setting k = cond (same_mortality setting k 0) 0 (cond (same_mortality setting k 1) 1 2)

-- the column of the weight of the lapse: 3 the base's, 4 of more lapses, 5 of fewer
unfoldable pub persistency_column : ℕ → ℕ → ℕ
persistency_column setting k =
    cond (eqb (weight_of setting 2 k) (weight_of 0 2 0)) 3 (cond (eqb (weight_of setting 2 k) (weight_of 3 2 0)) 4 5)

-- both in the year k
abbrev pub columns_at : ℕ → ℕ → Columns
columns_at setting k = record {
  survival = survival_column setting k;
  persistency = persistency_column setting k;
}

-- both for the first five years and for the later ones
unfoldable pub columns_of : ℕ → ByPeriod Columns
columns_of setting = record { first = columns_at setting 0; later = columns_at setting 5 }

abbrev pub survives_in : ByPeriod Columns → ℕ → ℕ
survives_in c k = (in_period c k).survival

abbrev pub persists_in : ByPeriod Columns → ℕ → ℕ
persists_in c k = (in_period c k).persistency

-- those of the five settings that serve all
abbrev pub FiveColumns : Type 0
FiveColumns = Five (ByPeriod Columns)

unfoldable pub five_columns : FiveColumns
five_columns = record {
  base = columns_of 0;
  mortality_up = columns_of 1;
  mortality_down = columns_of 2;
  lapse_up = columns_of 3;
  lapse_down = columns_of 4;
}

-- the columns of a setting, in first and later years, are those of another
abbrev pub same_columns : ByPeriod Columns → ByPeriod Columns → Bool
same_columns c d =
    eqb c.first.survival d.first.survival
    && eqb c.first.persistency d.first.persistency
    && eqb c.later.survival d.later.survival
    && eqb c.later.persistency d.later.persistency

-- of the five projections, those of the settings 0 to 4, the first that serves a setting: it has the setting's columns
unfoldable pub projection_of : ℕ → ℕ
projection_of setting =
    cond (same_columns (columns_of setting) (columns_of 0)) 0
    (cond (same_columns (columns_of setting) (columns_of 1)) 1
    (cond (same_columns (columns_of setting) (columns_of 2)) 2
    (cond (same_columns (columns_of setting) (columns_of 3)) 3 4)))
