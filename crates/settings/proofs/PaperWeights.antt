-- The table's weights are the paper's: the rule of the weights, worked out at each setting. Assumes nothing.
use mathlib.Core.Path.{◌≡◌, refl}
use mathlib.Core.Bool.{Bool, true, false}
use Prim.Native.Nat.{ℕ}
use lib.Dec.{ltb}
use borrow.Author.Tests.{lt-ltb, le-ltb}
use Rattle.settings.specs.Settings.{weight_in, weight_of}
use Rattle.settings.specs.PaperWeights.{YearWeights, mortality_of, unshifted, Always, FiveYears}
use Rattle.settings.specs.PaperWeights.{table_at, TableWeights}

-- the five weights by the rule, in the first five years or later
abbrev by_rule : Bool → ℕ → YearWeights
by_rule early setting = record {
  men = weight_in early setting 0;
  women = weight_in early setting 1;
  lapse = weight_in early setting 2;
  costs = weight_in early setting 3;
  claims = weight_in early setting 4;
}

in_year : (setting k : ℕ) (early : Bool) → ltb k 5 ≡ early → table_at setting k ≡ by_rule early setting
unfolding weight_of
in_year setting k early e = rw e

five_years : (setting : ℕ) (w : YearWeights) → by_rule true setting ≡ w
    → by_rule false setting ≡ unshifted (mortality_of 1 1) 1000 1000 1000
    → FiveYears table_at (mortality_of 1 1) setting w
five_years setting w first later = record {
  first = λ k h. rw (in_year setting k true (lt-ltb k 5 h)) first;
  later = λ k h. rw (in_year setting k false (le-ltb k 5 h)) later;
}

always : (setting : ℕ) (w : YearWeights) → by_rule true setting ≡ w → by_rule false setting ≡ w
    → Always table_at setting w
always setting w first later k = either (ltb k 5) refl
  where
    either : (early : Bool) → ltb k 5 ≡ early → table_at setting k ≡ w
    either true e = rw (in_year setting k true e) first
    either false e = rw (in_year setting k false e) later

pub table_weights : TableWeights
table_weights = record {
  setting_0 = always 0 _ refl refl;
  setting_1 = five_years 1 _ refl refl;
  setting_2 = five_years 2 _ refl refl;
  setting_3 = always 3 _ refl refl;
  setting_4 = always 4 _ refl refl;
  setting_5 = five_years 5 _ refl refl;
  setting_6 = five_years 6 _ refl refl;
  setting_7 = five_years 7 _ refl refl;
}
