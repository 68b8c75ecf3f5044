-- Every setting is served by one of the five projections, and the later years of a setting by those of another. Assumes
-- nothing.
use mathlib.Core.Path.{◌≡◌, refl, sym, ap, ◌∙◌}
use mathlib.Core.Bool.{Bool, true, false, ◌&&◌, true≢false}
use mathlib.Core.List.{List}
use Prim.Native.Nat.{ℕ, ◌<◌}
use lib.Dec.{eqb}
use borrow.Author.Tests.{eqb-true}
use Rattle.settings.specs.Settings.{weight_of}
use Rattle.settings_decrements.specs.Decrements.{mortality_weight, decrements_of}
use Rattle.settings_columns.specs.Columns.{same_mortality, survival_column, persistency_column, columns_of}
use Rattle.settings_columns.specs.Columns.{projection_of}
use Rattle.settings_outgo.specs.Outgoings.{outgoings_of}
use Rattle.settings_outgo.specs.Later.{same_later, LaterOf, later_of}
use Rattle.settings_outgo.specs.declared.LaterYears.{LaterYears}
use Rattle.settings_outgo.specs.declared.Setting.{Setting}
use Rattle.settings.proofs.Weights.{each_setting}

-- a setting has the weights of mortality and lapse of the projection that serves it
pub served : (b : List ℕ) (setting : ℕ) → setting < 8 → decrements_of b (projection_of setting) ≡ decrements_of b
    setting
unfolding projection_of columns_of survival_column same_mortality persistency_column decrements_of
    mortality_weight
    weight_of
served b = each_setting (λ s. decrements_of b (projection_of s) ≡ decrements_of b s) refl refl refl refl refl refl refl
    refl

both : (p q : Bool) → (p && q) ≡ true → (p ≡ true) × (q ≡ true)
both true q e = (refl, e)
both false q e = absurd (true≢false (cc))

-- a setting whose later years are another's has its weights of mortality and lapse, and its later weights of costs and
-- claims
module _ (s t : ℕ) (x y : LaterYears) (hs : LaterOf s x) (ht : LaterOf t y) (same : same_later x y ≡ true) where
  tests : ((x.projection ≡ y.projection) × (x.outgo.costs ≡ y.outgo.costs)) × (x.outgo.claims ≡ y.outgo.claims)
  tests =
      let p = eqb x.projection y.projection in
      let q = eqb x.outgo.costs y.outgo.costs in
      let two = both (p && q) (eqb x.outgo.claims y.outgo.claims) same in
      let one = both p q two.0 in
      ((eqb-true _ _ one.0, eqb-true _ _ one.1), eqb-true _ _ two.1)

  pub later_decrements : (b : List ℕ) → decrements_of b t ≡ decrements_of b s
  later_decrements b =
      let e : projection_of t ≡ projection_of s = sym ht.projection_is ∙ sym tests.0.0 ∙ hs.projection_is in
      sym (served b t ht.known) ∙ rw e (served b s hs.known)

  pub later_outgo : (outgoings_of t).later ≡ (outgoings_of s).later
  later_outgo = rw (← ht.outgo_is, ← hs.outgo_is, tests.0.1, tests.1)

-- the later years of a setting are those of its number
pub later_is : (s : Setting) → LaterOf s.number (later_of s)
later_is s = record { known = s.known; projection_is = s.projection_is; outgo_is = ap (λ w. w.later) s.outgo_is }
