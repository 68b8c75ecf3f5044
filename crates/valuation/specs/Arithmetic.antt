-- The two ways of computing: with whole numbers, where each division rounds down, and with fractions, where nothing is
-- rounded.
use Rattle.std.specs.Prelude.{Bool, true, false, ℕ, ◌+◌, ◌*◌, ◌/◌, min, leb}

-- a way of computing: what a number is, and the four things that the year by year valuation does with numbers
pub record Arithmetic : Type 1 where
  pub Number : Type 0
  -- a whole number
  pub whole : ℕ → Number
  -- the sum of two
  pub plus : Number → Number → Number
  -- part x w d: x times w, divided by d
  pub part : Number → ℕ → ℕ → Number
  -- the lesser of two
  pub lesser : Number → Number → Number

-- whole numbers: each division rounds down
abbrev pub rounded : Arithmetic
rounded = record { Number = ℕ; whole = λ n. n; plus = ◌+◌; part = λ x w d. x * w / d; lesser = min }

-- one whole number over another
pub record Fraction : Type 0 where
  pub over : ℕ
  pub under : ℕ

abbrev pub pick_fraction : Bool → Fraction → Fraction → Fraction
pick_fraction true x y = x
pick_fraction false x y = y

abbrev pub whole_fraction : ℕ → Fraction
whole_fraction n = record { over = n; under = 1 }

abbrev pub plus_fraction : Fraction → Fraction → Fraction
plus_fraction x y = record { over = x.over * y.under + y.over * x.under; under = x.under * y.under }

abbrev pub part_fraction : Fraction → ℕ → ℕ → Fraction
part_fraction x w d = record { over = x.over * w; under = x.under * d }

-- cross-multiplied: x is the lesser where x.over * y.under ≤ y.over * x.under
abbrev pub lesser_fraction : Fraction → Fraction → Fraction
lesser_fraction x y = pick_fraction (leb (x.over * y.under) (y.over * x.under)) x y

-- fractions: nothing is rounded
abbrev pub exact : Arithmetic
exact = record {
  Number = Fraction;
  whole = whole_fraction;
  plus = plus_fraction;
  part = part_fraction;
  lesser =
      lesser_fraction;
}
