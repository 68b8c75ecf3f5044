-- Each trap's rule has a counterexample, and no definition falls into a trap: `Traps` holds. Assumes nothing.
-- The checker reports in the order of file names: a definition that falls into a trap is refused here, at its figure,
-- before the laws of the distance, which go by its form.
use mathlib.Core.Path.{refl, ap}
use mathlib.Core.List.{List}
use Prim.Native.Nat.{ℕ}
use native.Mathlib.Omega.{arith}
use lib.IntN.{nat_abs}
use Rattle.lists.specs.Sums.{sum_by}
use Rattle.le_bytes.specs.Bytes.{read_u16, read_u32, two_bytes, four_bytes}
use Rattle.book.specs.Layout.{class_of, next_of, field_of}
use Rattle.settings.specs.Settings.{weight_of}
use Rattle.settings_decrements.specs.Decrements.{percent_of, mortality_weight, decrements_of}
use Rattle.valuation.specs.Steps.{in_force, cell_premium, cell_claims, sum_cells, premium_sum, claims_sum, outgo}
use Rattle.valuation.specs.Steps.{capped_if, capped, counted_premium, discounted, discounted_outgo}
use Rattle.valuation.specs.Steps.{discounted_premium, total_outgo, total_premium, liability}
use Rattle.valuation.specs.Portfolio.{mortality_of, one_less, row_at, cell_of, links_of}
use Rattle.valuation.specs.Replies.{group_liability}
use Rattle.valuation.specs.Traps.{end_to_end, men_at, men_book, Together, Traps}

together : (b : List ℕ) (setting : ℕ) → Together b setting
unfolding group_liability links_of end_to_end
together b setting = record { years = λ g. refl; liability_is = λ g. refl; pg1 = refl }

pub traps : Traps
unfolding liability total_outgo total_premium sum_by discounted_premium discounted_outgo discounted counted_premium
    capped
    capped_if outgo claims_sum premium_sum sum_cells cell_claims cell_premium in_force cell_of row_at one_less
    mortality_of next_of
    class_of field_of decrements_of mortality_weight percent_of weight_of men_book men_at four_bytes two_bytes
    end_to_end read_u16
    read_u32
traps = record {
  subgroups_capped_one_by_one = record { figure_is = refl; other_is = refl; differ = λ e. absurd (omega arith) };
  subgroups_added = record { figure_is = refl; other_is = refl; differ = λ e. absurd (omega (arith, ap nat_abs e)) };
  groups_together = together;
  cap_from_k_6 = record { figure_is = refl; other_is = refl; differ = λ e. absurd (omega arith) };
  death_plus_lapse = record { figure_is = refl; other_is = refl; differ = λ e. absurd (omega arith) };
  costs_of_the_capped_premium = record { figure_is = refl; other_is = refl; differ = λ e. absurd (omega arith) };
  lapse_shift_ended = record { figure_is = refl; other_is = refl; differ = λ e. absurd (omega arith) };
  discounting_in_one_step = record { figure_is = refl; other_is = refl; differ = λ e. absurd (omega arith) };
}
