-- Laws of one projection by itself: its years in a table, and a run over them up to its own first year with nothing in
-- force. Assumes nothing.
use mathlib.Core.Path.{◌≡◌, refl, sym, ap, ◌∙◌}
use mathlib.Core.Bool.{Bool, true, false, cond}
use mathlib.Core.List.{List}
use mathlib.Core.Logic.{inl, inr}
use Prim.Native.Nat.{ℕ, ◌+◌, ◌-◌, ◌*◌, ◌/◌, ◌%◌, ◌≤◌, ◌<◌}
use native.Mathlib.Nat.{add-zero, zero-add}
use native.Mathlib.Omega.{arith}
use borrow.Author.Tests.{lt-ltb, le-ltb, eq-eqb, ne_eqb, eqb-true, ltb-true, ltb-false}
use lib.Dec.{eqb, ltb}
use Rattle.std.specs.Prelude.{Option, None, Some}
use Rattle.lists.specs.AtMost.{AtMost}
use Rattle.valuation.specs.Arithmetic.{rounded}
use Rattle.valuation.specs.Steps as steps
use Rattle.valuation.specs.Steps.{in_force}
use Rattle.cell.specs.declared.Cell.{Cell}
use Rattle.cell.specs.States.{cell_in, next_year, Ready, Projectable}
use Rattle.cell.proofs.Cells.{state_ready, state_next, inforce_is, premium_is, claims_is, premium_by_le, claims_by_le}
use Rattle.cell_projection.specs.Tables.{amount_by, added, only_years, chosen, Among, two_more, year_more}
use Rattle.cell_projection.specs.Projected.{ReachedIn, StoppedIn, ProjectedIn}
use Rattle.cell_projection.proofs.Years.{two_added, added_rest, added_same, added_join, added_most}
use Rattle.cell_projection.proofs.Years.{amount_premium, amount_claims, amount_each}
use Rattle.cell_projection.proofs.Ends.{going_on, going_ends, going_out, nothing_later, no_premium, no_claims}

none : (b : Bool) → ◌≡◌ {A = ℕ} (cond b 0 0) 0
none true = refl
none false = refl

module _ (f : ℕ → ℕ) (s m k j : ℕ) where
  pub within_other : (j % 10 / 2 ≡ s → ⊥) → only_years f s m k j ≡ 0
  unfolding only_years
  within_other h = rw (ne_eqb _ _ h)

  pub within_early : j / 10 < m → only_years f s m k j ≡ 0
  unfolding only_years
  within_early h = rw (lt-ltb _ _ h) (none (eqb (j % 10 / 2) s))

  pub within_late : k ≤ j / 10 → only_years f s m k j ≡ 0
  unfolding only_years
  within_late h = rw (le-ltb (j / 10) k h, none (ltb (j / 10) m)) (none (eqb (j % 10 / 2) s))

  pub within_own : j % 10 / 2 ≡ s → m ≤ j / 10 → j / 10 < k → only_years f s m k j ≡ f j
  unfolding only_years
  within_own e h l = rw (eq-eqb _ _ e, le-ltb (j / 10) m h, lt-ltb (j / 10) k l)

  -- it is bounded as f is
  pub within_le : (z : ℕ) → f j ≤ z → only_years f s m k j ≤ z
  unfolding only_years
  within_le z h = by (eqb (j % 10 / 2) s) (ltb (j / 10) m) (ltb (j / 10) k)
    where
      by : (own early before : Bool) → cond own (cond early 0 (cond before (f j) 0)) 0 ≤ z
      by false early before = omega arith
      by true true before = omega arith
      by true false true = h
      by true false false = omega arith

  -- years up to k, and from there on to before l
  pub within_join : (l : ℕ) → m ≤ k → k ≤ l → only_years f s m k j + only_years f s k l j ≡ only_years f s m l j
  unfolding only_years
  within_join l h g = by (eqb (j % 10 / 2) s) (ltb (j / 10) m) refl (ltb (j / 10) k) refl (ltb (j / 10) l) refl
    where
      by : (own early : Bool) → ltb (j / 10) m ≡ early → (before : Bool) → ltb (j / 10) k ≡ before → (upto : Bool)
          → ltb (j / 10) l ≡ upto
          → cond own (cond early 0 (cond before (f j) 0)) 0 + cond own (cond before 0 (cond upto (f j) 0)) 0 ≡ cond own
          (cond early 0 (cond upto (f j) 0)) 0
      by false early e before b upto u = omega arith
      by true true e true b upto u = omega arith
      by true true e false b upto u = absurd (omega (arith, ltb-true (j / 10) m e, ltb-false (j / 10) k b))
      by true false e true b true u = omega arith
      by true false e true b false u = absurd (omega (arith, ltb-true (j / 10) k b, ltb-false (j / 10) l u, g))
      by true false e false b upto u = zero-add _

-- all projections or one
module _ (f : ℕ → ℕ) where
  pub chosen_all : (which : Option ℕ) → which ≡ None → (j : ℕ) → chosen which f j ≡ f j
  unfolding chosen
  chosen_all which e j = rw e

  pub chosen_one : (which : Option ℕ) (s : ℕ) → which ≡ Some s → (j : ℕ) → chosen which f j ≡ only_years f s 0 50 j
  unfolding chosen
  chosen_one which s e j = rw e

  pub chosen_le : (which : Option ℕ) (j z : ℕ) → f j ≤ z → chosen which f j ≤ z
  unfolding chosen
  chosen_le None j z h = h
  chosen_le (Some s) j z h = within_le f s 0 50 j z h

  pub chosen_same : (which : Option ℕ) (g : ℕ → ℕ) (j : ℕ) → f j ≡ g j → chosen which f j ≡ chosen which g j
  unfolding chosen only_years
  chosen_same None g j e = e
  chosen_same (Some s) g j e = rw e

  pub chosen_at : (which : Option ℕ) (s j : ℕ) → Among which s → j % 10 / 2 ≡ s → j / 10 < 50 → chosen which f j ≡ f j
  chosen_at which s j (inl e) own h = chosen_all which e j
  chosen_at which s j (inr e) own h = chosen_one which s e j ∙ within_own f s 0 50 j own (omega arith) h

-- no years add nothing
pub within_start : (f : ℕ → ℕ) (s m : ℕ) (u : List ℕ) → u ≡ added (only_years f s m m) 500 u
unfolding added
within_start f s m u = sym (added_rest (only_years f s m m) 0 500 u (λ j h l. by j (ltb (j / 10) m) refl))
  where
    by : (j : ℕ) (early : Bool) → ltb (j / 10) m ≡ early → only_years f s m m j ≡ 0
    by j true e = within_early f s m m j (ltb-true _ _ e)
    by j false e = within_late f s m m j (ltb-false _ _ e)

-- premium and claims of one year
module _ (f : ℕ → ℕ) (s k : ℕ) (h : s < 5) (l : k < 50) where
  before_year : (i : ℕ) → i < 10 * k + 2 * s → only_years f s k (k + 1) i ≡ 0
  before_year i g = by (ltb (i / 10) k) refl
    where
      by : (early : Bool) → ltb (i / 10) k ≡ early → only_years f s k (k + 1) i ≡ 0
      by true e = within_early f s k (k + 1) i (ltb-true _ _ e)
      by false e = within_other f s k (k + 1) i (λ q. omega (arith, q, ltb-false (i / 10) k e))

  after_year : (i : ℕ) → 10 * k + 2 * s + 2 ≤ i → only_years f s k (k + 1) i ≡ 0
  after_year i g = by (ltb (i / 10) (k + 1)) refl
    where
      by : (here : Bool) → ltb (i / 10) (k + 1) ≡ here → only_years f s k (k + 1) i ≡ 0
      by true e = within_other f s k (k + 1) i (λ q. omega (arith, q, ltb-true (i / 10) (k + 1) e))
      by false e = within_late f s k (k + 1) i (ltb-false _ _ e)

  untouched : (u : List ℕ) → u ≡ added (only_years f s k (k + 1)) (10 * k + 2 * s) u
  unfolding added
  untouched u = sym
      (rw (add-zero (10 * k + 2 * s)) at
      (added_rest (only_years f s k (k + 1)) 0 (10 * k + 2 * s) u (λ i g a. before_year i (omega arith))))

  pub year_added : (u : List ℕ) (x y : ℕ) → x ≡ f (10 * k + 2 * s) → y ≡ f (10 * k + 2 * s + 1)
      → two_more u (10 * k + 2 * s) x y ≡ added (only_years f s k (k + 1)) 500 u
  year_added u x y ex ey =
      let all : (498 - (10 * k + 2 * s)) + (10 * k + 2 * s + 2) ≡ 500 = omega arith in
      two_added (only_years f s k (k + 1)) (10 * k + 2 * s) u u x y (untouched u)
      (ex ∙ sym (within_own f s k (k + 1) (10 * k + 2 * s) (omega arith) (omega arith) (omega arith)))
      (ey ∙ sym (within_own f s k (k + 1) (10 * k + 2 * s + 1) (omega arith) (omega arith) (omega arith)))
      ∙ sym (rw all at
      (added_rest (only_years f s k (k + 1)) (10 * k + 2 * s + 2) (498 - (10 * k + 2 * s)) u
      (λ i g a. after_year i g)))

-- a projection with nothing in force adds nothing from there on
module _ (c : ℕ → steps.Cell) (s k : ℕ) (z : in_force rounded (c s) k ≡ 0) where
  no_amount : (j : ℕ) → j % 10 / 2 ≡ s → k ≤ j / 10 → amount_by c j ≡ 0
  no_amount j e h =
      let nothing : in_force rounded (c (j % 10 / 2)) (j / 10) ≡ 0 = rw e (nothing_later (c s) k z (j / 10) h) in
      amount_each (λ x. x ≡ 0) c j (no_premium _ _ nothing) (no_claims _ _ nothing)

  pub within_ended : (m j : ℕ) → j < 500 → only_years (amount_by c) s m k j ≡ only_years (amount_by c) s m 50 j
  unfolding only_years
  within_ended m j l = by (eqb (j % 10 / 2) s) refl (ltb (j / 10) m) (ltb (j / 10) k) refl (ltb (j / 10) 50) refl
    where
      by : (own : Bool) → eqb (j % 10 / 2) s ≡ own → (early before : Bool) → ltb (j / 10) k ≡ before → (last : Bool)
          → ltb (j / 10) 50 ≡ last
          → cond own (cond early 0 (cond before (amount_by c j) 0)) 0 ≡ cond own
          (cond early 0 (cond last (amount_by c j) 0)) 0
      by false o early before b last q = refl
      by true o true before b last q = refl
      by true o false true b true q = refl
      by true o false false b true q = sym (no_amount j (eqb-true _ _ o) (ltb-false _ _ b))
      by true o false before b false q = absurd (omega (arith, ltb-false (j / 10) 50 q))

-- what a cell adds is bounded
pub amount_le : (t : List ℕ) (r n : ℕ) → Projectable t r n → (j : ℕ) → j < 500
    → amount_by (cell_in t r n) j ≤ 1_000_000_000_000
amount_le t r n w j h =
    amount_each (λ x. x ≤ 1_000_000_000_000) (cell_in t r n) j
    (premium_by_le t r n (j % 10 / 2) w (j / 10) (omega arith))
    (claims_by_le t r n (j % 10 / 2) w (j / 10) (omega arith))

pub within_capacity : (t : List ℕ) (r n s m k : ℕ) (u v : List ℕ) → Projectable t r n
    → v ≡ added (only_years (amount_by (cell_in t r n)) s m k) 500 u → {most : ℕ} → AtMost most 500 u
    → AtMost (most + 1_000_000_000_000) 500 v
within_capacity t r n s m k u v w e a =
    rw e (added_most (only_years (amount_by (cell_in t r n)) s m k) 1_000_000_000_000 500
    (λ i l. within_le (amount_by (cell_in t r n)) s m k i 1_000_000_000_000 (amount_le t r n w i l)) a)

-- what is in force where a projection has come to
in_force_lem : (t : List ℕ) (r n s k : ℕ) (c : Cell) → ReachedIn t r n s k c
    → c.inforce ≡ in_force rounded (cell_in t r n s) k
in_force_lem t r n s k c reached = ap (λ (x : Cell). x.inforce) reached.state ∙ inforce_is t r n s k

-- What a run over the years from m to before `to` keeps in year k: the projection has come there, and the table u has
-- become v.
abbrev pub RunIn : List ℕ → ℕ → ℕ → ℕ → ℕ → ℕ → ℕ → Cell → List ℕ → List ℕ → Type 0
RunIn t r n s m to k c u v =
    (m ≤ k) × (k ≤ to) × ReachedIn t r n s k c × (v ≡ added (only_years (amount_by (cell_in t r n)) s m k) 500 u)

module _ (t : List ℕ) (r n s m to k : ℕ) (c : Cell) (u v : List ℕ) (run : RunIn t r n s m to k c u v) where
  -- the next year can be computed
  pub run_ready : Projectable t r n → k < 50 → Ready t c
  run_ready w h = rw run.2.state (state_ready t r n s w k h)

  -- and it is then computed
  pub run_more : s < 5 → k < to → to ≤ 50 → 0 < c.inforce → (c' : Cell) (v' : List ℕ) → c' ≡ next_year t s k c
      → v' ≡ year_more t s k c v → RunIn t r n s m to (k + 1) c' u v'
  run_more l before all some c' v' ec ev =
      let h : k < 50 = omega (arith, before, all) in (
        omega (arith, run.0),
        omega (arith, before),
        record {
          state = ec ∙ rw run.2.state (state_next t r n s k);
          going = going_on (cell_in t r n s) k h (λ z. omega (arith, some, in_force_lem t r n s k c run.2, z))
              run.2.going;
        },
        added_join (only_years (amount_by (cell_in t r n)) s m k) (only_years (amount_by (cell_in t r n)) s k
            (k + 1)) _ 500 u v
            v' run.3
            (ev ∙ rw run.2.state
            (year_added (amount_by (cell_in t r n)) s k l h v _ _
            (premium_is t r n s k ∙ sym (amount_premium (cell_in t r n) k s l))
            (claims_is t r n s k ∙ sym (amount_claims (cell_in t r n) k s l))))
            (λ j a. within_join _ s m k j (k + 1) run.0 (omega arith)),
      )

  -- it stops at its end, or where nothing is in force
  pub run_stops : (k < to → c.inforce ≤ 0) → StoppedIn t r n s m to k c u v
  run_stops none_left = record {
    since = run.0;
    most = run.1;
    reached = run.2;
    sums = run.3;
    ended = λ early. omega (arith, none_left early);
  }

-- where it stops
module _ (t : List ℕ) (r n s m to k : ℕ) (c : Cell) (u v : List ℕ) (stop : StoppedIn t r n s m to k c u v) where
  -- before the end nothing is in force: it has no later years
  pub stopped_early : k < to → to ≤ 50 → ProjectedIn t r n s m k u v
  stopped_early early all =
      let z : in_force rounded (cell_in t r n s) k ≡ 0 =
      sym (in_force_lem t r n s k c stop.reached) ∙ stop.ended early in
      record {
        sums = stop.sums ∙ added_same _ _ 500 u (λ j l. within_ended (cell_in t r n) s k z m j l);
        years_are = going_ends (cell_in t r n s) k (omega (arith, early, all)) z stop.reached.going;
      }

  -- at the end it goes on from there: its years are those up to there and those that it then has
  at_end : to ≤ k → k ≡ to
  at_end h = omega (arith, stop.most, h)

  pub stopped_at_end : to ≤ k → ReachedIn t r n s to c
  stopped_at_end h = rw (sym (at_end h)) stop.reached

  pub stopped_then : to ≤ k → to ≤ 50 → (years : ℕ) (w : List ℕ) → ProjectedIn t r n s to years v w
      → ProjectedIn t r n s m years u w
  stopped_then h all years w rest = record {
    sums = added_join
        (only_years (amount_by (cell_in t r n)) s m k) (only_years (amount_by (cell_in t r n)) s k 50) _ 500 u v w
        stop.sums
        (rw (at_end h) rest.sums) (λ j a. within_join _ s m k j 50 stop.since (omega (arith, at_end h, all)));
    years_are = rest.years_are;
  }

-- a run to the last year
pub stopped_in_all : (t : List ℕ) (r n s m k : ℕ) (c : Cell) (u v : List ℕ) → StoppedIn t r n s m 50 k c u v
    → ProjectedIn t r n s m k u v
stopped_in_all t r n s m k c u v stop = by (ltb k 50) refl
  where
    by : (early : Bool) → ltb k 50 ≡ early → ProjectedIn t r n s m k u v
    by true e = stopped_early t r n s m 50 k c u v stop (ltb-true _ _ e) (omega arith)
    by false e =
        let last : k ≡ 50 = omega (arith, ltb-false k 50 e, stop.most) in
        record {
          sums = stop.sums ∙ ap (λ (x : ℕ). added (only_years (amount_by (cell_in t r n)) s m x) 500 u) last;
          years_are = going_out (cell_in t r n s) k last stop.reached.going;
        }
