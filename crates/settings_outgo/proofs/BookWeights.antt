-- The paper's weights hold for every book of either edition: those of the table, mortality times the percentages.
-- Assumes nothing.
use mathlib.Core.Path.{◌≡◌, ◌∙◌, ap}
use mathlib.Core.List.{List}
use Prim.Native.Nat.{ℕ, ◌*◌}
use Rattle.book.specs.Layout.{edition, percent_at}
use Rattle.settings.specs.PaperWeights.{YearWeights, mortality_of, Always, FiveYears, SettingWeights}
use Rattle.settings.specs.PaperWeights.{table_at}
use Rattle.settings.proofs.PaperWeights.{table_weights}
use Rattle.settings_decrements.specs.Decrements.{percent_of, mortality_weight}
use Rattle.settings_decrements.proofs.Weights.{men_is, women_is, lapse_is}
use Rattle.settings_outgo.specs.BookWeights.{weights_at, PaperWeights}
use Rattle.settings_outgo.proofs.Weights.{costs_is, claims_is}

-- the weights of a year for each percent, at these percentages
abbrev times : ℕ → ℕ → YearWeights → YearWeights
times men women w = record {
  men = men * w.men;
  women = women * w.women;
  lapse = w.lapse;
  costs = w.costs;
  claims = w.claims;
}

module _ (b : List ℕ) (men women : ℕ) (of-men : percent_of b 0 ≡ men) (of-women : percent_of b 1 ≡ women) where
  in_year : (setting k : ℕ) → weights_at b setting k ≡ times men women (table_at setting k)
  unfolding mortality_weight
  in_year setting k = rw (
    men_is b setting k,
    women_is b setting k,
    lapse_is b setting k,
    costs_is setting k,
    claims_is setting k,
    of-men,
    of-women,
  )

  always : (setting : ℕ) {w : YearWeights} → Always table_at setting w
      → Always (weights_at b) setting (times men women w)
  always setting h k = in_year setting k ∙ ap (times men women) (h k)

  five_years : (setting : ℕ) {w : YearWeights} → FiveYears table_at (mortality_of 1 1) setting w
      → FiveYears (weights_at b) (mortality_of men women) setting (times men women w)
  five_years setting h = record {
    first = λ k early. in_year setting k ∙ ap (times men women) (h.first k early);
    later = λ k late. in_year setting k ∙ ap (times men women) (h.later k late);
  }

  by_setting : SettingWeights (weights_at b) (mortality_of men women)
  by_setting = record {
    setting_0 = always 0 table_weights.setting_0;
    setting_1 = five_years 1 table_weights.setting_1;
    setting_2 = five_years 2 table_weights.setting_2;
    setting_3 = always 3 table_weights.setting_3;
    setting_4 = always 4 table_weights.setting_4;
    setting_5 = five_years 5 table_weights.setting_5;
    setting_6 = five_years 6 table_weights.setting_6;
    setting_7 = five_years 7 table_weights.setting_7;
  }

-- edition 1 has the weights of 87 and 86 percent
module _ (b : List ℕ) where
  fixed : edition b ≡ 1 → (percent_of b 0 ≡ 87) × (percent_of b 1 ≡ 86)
  unfolding percent_of
  fixed one = (rw one, rw one)

  carried : edition b ≡ 2 → (percent_of b 0 ≡ percent_at b 0) × (percent_of b 1 ≡ percent_at b 1)
  unfolding percent_of
  carried two = (rw two, rw two)

  pub paper_weights : PaperWeights b
  paper_weights = record {
    edition_1 = λ one. by_setting b 87 86 (fixed one).0 (fixed one).1;
    edition_2 = λ two. by_setting b (percent_at b 0) (percent_at b 1) (carried two).0 (carried two).1;
  }
