-- The paper's weights of a book as figures: one proposition on the weights that the valuation takes.
use Rattle.std.specs.Prelude.{◌≡◌, List, ℕ}
use Rattle.book.specs.Layout.{edition, percent_at}
use Rattle.settings.specs.PaperWeights.{YearWeights, MortalityWeights, mortality_of, SettingWeights}
use Rattle.settings_decrements.specs.Decrements.{decrements_of, mortality_in, lapse_in}
use Rattle.settings_outgo.specs.Outgoings.{outgoings_of, costs_in, claims_weight_in}

-- the weights that the valuation of a book takes in a setting and the year k
abbrev pub weights_at : List ℕ → ℕ → ℕ → YearWeights
weights_at b setting k = record {
  men = mortality_in (decrements_of b setting) 0 k;
  women = mortality_in (decrements_of b setting) 1 k;
  lapse = lapse_in (decrements_of b setting) k;
  costs = costs_in (outgoings_of setting) k;
  claims = claims_weight_in (outgoings_of setting) k;
}

-- edition 1: 87 and 86 percent (FINMA 4.4.3), shifted by a fifth (FINMA 5.2.2)
abbrev pub mortality_one : MortalityWeights
mortality_one = record { men = 870; women = 860; men_up = 1044; women_up = 1032; men_down = 696; women_down = 688 }

-- of every book, by its edition; edition 2 carries its own percentages
pub record PaperWeights (b : List ℕ) : Type 0 where
  pub edition_1 : edition b ≡ 1 → SettingWeights (weights_at b) mortality_one
  pub edition_2 : edition b ≡ 2 → SettingWeights (weights_at b) (mortality_of (percent_at b 0) (percent_at b 1))
