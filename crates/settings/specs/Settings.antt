-- The weights of the eight settings, in thousandths (paper, section Settings). Assumes nothing.
-- Setting is document 01's term for a scenario: 0 is the base, 1 to 7 shift one of its weights (FINMA 5.2.2).
-- Kinds: 0 mortality of men, 1 mortality of women, 2 lapse, 3 costs, 4 claims. A weight of mortality is so much for
-- each percent of it.
use Rattle.std.specs.Prelude.{Bool, cond, ℕ, ◌*◌, ◌/◌, ltb, eqb}
use Rattle.settings.specs.declared.ByPeriod.{ByPeriod}
use Rattle.settings.specs.declared.Five.{Five}
use Rattle.settings.specs.declared.Kind.{Kind}
use Rattle.settings.specs.declared.Kind.TheVariants.{Men, Women, Lapse, Costs, Claims}

-- the number of a kind
abbrev pub number_of : Kind → ℕ
number_of Men = 0
number_of Women = 1
number_of Lapse = 2
number_of Costs = 3
number_of Claims = 4

-- the base, setting 0: for mortality ten for each percent
abbrev pub base_weight : ℕ → ℕ
base_weight kind = cond (ltb kind 2) 10 1000

-- what a setting makes of the base weight of a kind, in percent (FINMA 5.2.2)
abbrev pub shift : ℕ → ℕ → ℕ
shift setting kind =
    cond (ltb kind 2) (cond (eqb setting 1) 120 (cond (eqb setting 2) 80 100))
    (cond (eqb kind 2) (cond (eqb setting 3) 130 (cond (eqb setting 4) 70 100))
    (cond (eqb kind 3) (cond (eqb setting 5) 120 (cond (eqb setting 6) 80 100))
    (cond (eqb setting 7) 105 100)))

-- a shift of the lapse holds in all years, any other in the first five
abbrev pub shift_in : Bool → ℕ → ℕ → ℕ
shift_in early setting kind = cond early (shift setting kind) (cond (eqb kind 2) (shift setting kind) 100)

-- the weight of a kind, in the first five years or later
abbrev pub weight_in : Bool → ℕ → ℕ → ℕ
weight_in early setting kind = base_weight kind * shift_in early setting kind / 100

-- the weight of a kind in the year k
unfoldable pub weight_of : ℕ → ℕ → ℕ → ℕ
weight_of setting kind k = weight_in (ltb k 5) setting kind

-- what holds in the year k
abbrev pub in_period : {A : Type 0} → ByPeriod A → ℕ → A
in_period p k = cond (ltb k 5) p.first p.later

-- of five, the one of setting 0 to 4
abbrev pub of_five : {A : Type 0} → Five A → ℕ → A
of_five x setting =
    cond (eqb setting 1) x.mortality_up
    (cond (eqb setting 2) x.mortality_down
    (cond (eqb setting 3) x.lapse_up (cond (eqb setting 4) x.lapse_down x.base)))
