-- What the code asks for to value one product group.
use Rattle.std.specs.Prelude.{List, ℕ, ◌≤◌}
use Rattle.book.specs.Reading.{ValidBook}
use Rattle.settings_decrements.specs.Decrements.{ShiftsOf}
use Rattle.settings_decrements.specs.Decrements.{Shifts}

-- what valuing one product group of an accepted book asks: the weights w are the book's
pub record Asked (b : List ℕ) (w : Shifts) (g : ℕ) : Type 0 where
  pub lo : 1 ≤ g
  pub hi : g ≤ 5
  pub book : ValidBook 1 b
  pub weights : ShiftsOf b w
