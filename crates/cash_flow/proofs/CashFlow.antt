-- Laws of premium and outgo before discounting: of a year, and of a table filled year by year. Assumes nothing.
use mathlib.Core.Path.{◌≡◌, refl, sym, ap, ◌∙◌}
use mathlib.Core.List.{List}
use Prim.Native.Nat.{ℕ, zero, suc, ◌+◌, ◌*◌, ◌≤◌, ◌<◌}
use native.Mathlib.Omega.{arith}
use mathlib.Core.List.{map}
use lib.ListN.{length, get_or, set, take, drop, replicate, length-map, length-drop, get_or-map}
use lib.Seq.{take_all}
use Rattle.std.proofs.lemmas.List.{map-set, get_or-drop, get_or-map as get_or-map_inside}
use Rattle.std.proofs.lemmas.List.Sums.{sum_by_more}
use Rattle.std.specs.List.{sum_by as list_sum}
use Rattle.lists.specs.Sums.{sum_by, sum_below}
use Rattle.lists.proofs.Sums.{sum_more}
use Rattle.lists.proofs.AtMost.{most_higher, most_replicate}
use Rattle.lists.proofs.Stored.{stored}
use Rattle.settings_decrements.specs.Decrements.{decrements_of}
use Rattle.settings_outgo.specs.Outgoings.{outgoings_of}
use Rattle.valuation.specs.Arithmetic.{rounded}
use Rattle.valuation.specs.Steps.{premium_sum, claims_sum, outgo, capped, counted_premium}
use Rattle.valuation.specs.Portfolio.{cost_rate_of, terms_of, group_cells}
use Rattle.cash_flow.specs.CashFlow.{outgo_of, InYears, premiums, outgoes}
use Rattle.cash_flow.specs.declared.Amounts.{Amounts}

module _ (b : List ℕ) (s g : ℕ) where
  -- outgo and cap of the year's sums are the valuation's
  pub outgo_of_lem : (k rate p c x : ℕ) → x ≡ outgo_of (outgoings_of s) k rate p c → rate ≡ cost_rate_of b g
      → p ≡ premium_sum rounded (group_cells b (decrements_of b s) g) k
      → c ≡ claims_sum rounded (group_cells b (decrements_of b s) g) k
      → x ≡ outgo rounded (terms_of b s g) (group_cells b (decrements_of b s) g) k
  unfolding outgo_of outgo terms_of
  outgo_of_lem k rate p c x e h1 h2 h3 = e ∙ rw (h1, h2, h3)

  pub premium_of : (k p x y : ℕ) → y ≡ capped rounded k p x
      → p ≡ premium_sum rounded (group_cells b (decrements_of b s) g) k
      → x ≡ outgo rounded (terms_of b s g) (group_cells b (decrements_of b s) g) k
      → y ≡ counted_premium rounded (terms_of b s g) (group_cells b (decrements_of b s) g) k
  unfolding counted_premium
  premium_of k p x y e h1 h2 = e ∙ rw (h1, h2)

-- no year at first, then one more
pub in_none : (f : ℕ → ℕ) (m from : ℕ) → InYears f m from from (replicate 50 0)
in_none f m from = record {
  are = λ k h l. absurd (omega arith);
  most = most_higher (most_replicate 50 0)
      (omega arith);
}

pub in_more : (part : Amounts → ℕ) (f : ℕ → ℕ) (m from k : ℕ) (y : Amounts) (years : List Amounts) → k < length years
    → InYears f m from k (map part years) → part y ≡ f k → part y ≤ m
    → InYears f m from (k + 1) (map part (set years k y))
in_more part f m from k y years l h e small =
    let table = map part years in
    let inside : k < length table = rw (length-map years part) l in
    rw (map-set part years k y) (record {
      are = stored (λ i x. from ≤ i → x ≡ f i) table k (part y) inside h.are (λ _. e);
      most = record { each = stored (λ i x. x ≤ m) table k (part y) inside h.most.each small };
    })

-- amounts, as they are read from the years
pub premium_read : (years : List Amounts) (k : ℕ)
    → (get_or years k (record { premium = 0; outgo = 0 })).premium ≡ get_or (premiums years) k 0
premium_read years k = sym (get_or-map (λ a. a.premium) years k _)

pub outgo_read : (years : List Amounts) (k : ℕ)
    → (get_or years k (record { premium = 0; outgo = 0 })).outgo ≡ get_or (outgoes years) k 0
outgo_read years k = sym (get_or-map (λ a. a.outgo) years k _)

module _ {f : ℕ → ℕ} {m from to : ℕ} (years : List Amounts) where
  pub premium_is : InYears f m from to (premiums years) → (k : ℕ) → k < to → from ≤ k
      → (get_or years k (record { premium = 0; outgo = 0 })).premium ≡ f k
  premium_is y k h l = premium_read years k ∙ y.are k h l

  pub premium_most : InYears f m from to (premiums years) → (k : ℕ) → k < to
      → (get_or years k (record { premium = 0; outgo = 0 })).premium ≤ m
  premium_most y k h = rw (premium_read years k) (y.most.each k h)

  pub outgo_is : InYears f m from to (outgoes years) → (k : ℕ) → k < to → from ≤ k
      → (get_or years k (record { premium = 0; outgo = 0 })).outgo ≡ f k
  outgo_is y k h l = outgo_read years k ∙ y.are k h l

  pub outgo_most : InYears f m from to (outgoes years) → (k : ℕ) → k < to
      → (get_or years k (record { premium = 0; outgo = 0 })).outgo ≤ m
  outgo_most y k h = rw (outgo_read years k) (y.most.each k h)

-- the amounts of some years, added: with the years before them they are what all give, and each is at most the limit
module _ (part : Amounts → ℕ) (f : ℕ → ℕ) (m from to : ℕ) (years : List Amounts)
    (y : InYears f m from to (map part years)) where
  one : (n : ℕ) → from + suc n ≤ to → from + suc n ≤ length years
      → list_sum part (take (n + 1) (drop from years))
      ≡ list_sum part (take n (drop from years)) + get_or (map part years) (from + n) 0
  one n low fits =
      let d : Amounts = record { premium = 0; outgo = 0 } in
      let inside : n < length (drop from years) = omega (arith, length-drop from years) in
      let here : from + n < length years = omega arith in
      sum_by_more part (drop from years) n d inside
      ∙ ap (λ x. list_sum part (take n (drop from years)) + x)
      (ap part (get_or-drop from years n d) ∙ sym (get_or-map_inside part years (from + n) d 0 here))

  pub added : (n : ℕ) → from + n ≤ to → from + n ≤ length years
      → sum_below f from + list_sum part (take n (drop from years)) ≡ sum_below f (from + n)
  added zero low fits = let e : from + 0 ≡ from = omega arith in rw e (omega arith)
  added (suc n) low fits =
      let e : suc n ≡ n + 1 = omega arith in
      let e2 : from + (n + 1) ≡ from + n + 1 = omega arith in
      rw (e, e2) (sum_more 0 ◌+◌ f (from + n) _ _ _ (added n (omega arith) (omega arith))
      (y.are (from + n) (omega arith) (omega arith)) (omega (arith, one n low fits)))

  pub added_most : (n : ℕ) → from + n ≤ to → from + n ≤ length years
      → list_sum part (take n (drop from years)) ≤ m * n
  added_most zero low fits = omega arith
  added_most (suc n) low fits =
      let e : suc n ≡ n + 1 = omega arith in
      rw e (omega (
        arith,
        one n low fits,
        added_most n (omega arith) (omega arith),
        y.most.each (from + n) (omega arith),
      ))

none_yet : (f : ℕ → ℕ) → sum_below f 0 ≡ 0
unfolding sum_by
none_yet f = refl

-- those of all years
pub added_all : (part : Amounts → ℕ) (f : ℕ → ℕ) (m n : ℕ) (years : List Amounts) → length years ≡ n
    → InYears f m 0 n (map part years) → (list_sum part years ≡ sum_below f n) × (list_sum part years ≤ m * n)
added_all part f m n years long y =
    let all : list_sum part (take n (drop 0 years)) ≡ list_sum part years =
    ap (list_sum part) (take_all n years (omega (arith, long))) in
    let e : 0 + n ≡ n = omega arith in (
      omega (arith, all, none_yet f, rw e at (added part f m 0 n years y n (omega arith) (omega (arith, long)))),
      omega (arith, all, added_most part f m 0 n years y n (omega arith) (omega (arith, long))),
    )
