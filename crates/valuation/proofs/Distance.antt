-- The distance of the liability from its exact value. Assumes nothing.
use mathlib.Core.Path.{◌≡◌}
use mathlib.Core.Bool.{Bool, true, false}
use mathlib.Core.List.{List, [], ◌∷◌}
use Prim.Native.Nat.{ℕ, zero, suc, ◌+◌, ◌*◌, ◌/◌, ◌≤◌, ◌<◌}
use native.Mathlib.Nat.{mul-le-mul_left, mul-le-mul_right, mul-le-mul, mul-pos, zero-mul, zero-div}
use native.Mathlib.Omega.{arith}
use lib.Dec.{T, leb, eqb, eqb→eq, lit≤}
use lib.IntN.{pos, ◌-ℤ◌, ◌*ℤ◌}
use Rattle.lists.specs.Sums.{sum_by, sum_below}
use Rattle.valuation.specs.Arithmetic.{rounded, exact, Fraction, whole_fraction, plus_fraction, part_fraction}
use Rattle.valuation.specs.Steps.{Cell, Terms, held, one_unless, in_force, cell_premium, cell_claims, sum_cells}
use Rattle.valuation.specs.Steps.{premium_sum, claims_sum, outgo, capped_if, capped, counted_premium, discounted}
use Rattle.valuation.specs.Steps.{discounted_outgo, discounted_premium, total_outgo, total_premium}
use Rattle.valuation.specs.Steps.{liability, exact_liability, less}
use Rattle.valuation.specs.CallContracts.{GroupDistance, GroupHalfDistance}
use Rattle.valuation.specs.Bounds.{GoodCell, GoodCells, GoodTerms, Within}
use Rattle.valuation.proofs.Approximation.{Near, near_whole, near_part, near_plus, near_more}
use Rattle.valuation.proofs.Differences.{diff_less, diff_minus, diff_times, diff_abs}
use Rattle.valuation.proofs.Errors.{Err, at, no_err, plus_err, part_err, max_err, near_plus_err, near_part_err}
use Rattle.valuation.proofs.Errors.{near_lesser_err, up}

-- ---- a cell with contracts

near_in_force : (c : Cell) → GoodCell c → (k : ℕ) → k < 50
    → Near (in_force rounded c k) (in_force exact c k) (2_000_000 * k)
unfolding in_force
near_in_force c g zero h = near_more (omega arith) (near_whole (c.count * 1_000_000_000))
near_in_force c g (suc k) h =
    near_more (omega arith)
    (near_part (c.persistency k) 1_000_000_000 (2_000_000 * k + 1_000_000) (omega arith)
    (mul-le-mul_left (2_000_000 * k + 1_000_000) (g.persistency_most k (omega arith)))
    (near_part (c.survival k) 1_000_000_000 (2_000_000 * k) (omega arith)
    (mul-le-mul_left (2_000_000 * k) (g.survival_most k (omega arith)))
    (near_in_force c g k (omega arith))))

-- the error of a cell's premium or claims in year k
abbrev amount_err : ℕ → ℕ
amount_err k = 20_000 * k + 1_000_000

near_amount : (c : Cell) → GoodCell c → (k : ℕ) → k < 50 → (w : ℕ) → w ≤ 10_000_000
    → Near (in_force rounded c k * w / 1_000_000_000) (part_fraction (in_force exact c k) w 1_000_000_000)
    (amount_err k)
near_amount c g k h w hw =
    near_part w 1_000_000_000 (20_000 * k) (omega arith) (omega (arith, mul-le-mul_left (2_000_000 * k) hw))
    (near_in_force c g k h)

-- ---- a cell without

record Nothing (r : ℕ) (x : Fraction) : Type 0 where
  none : r ≡ 0
  under_positive : 0 < x.under
  over_none : x.over ≡ 0

nothing_part : {r : ℕ} {x : Fraction} (w d : ℕ) → 0 < d → Nothing r x → Nothing (r * w / d) (part_fraction x w d)
nothing_part {r} {x} w d h n = record {
  none = rw n.none (simp (zero-mul, zero-div));
  under_positive = mul-pos n.under_positive h;
  over_none = rw n.over_none (zero-mul w);
}

nothing_near : {r : ℕ} {x : Fraction} → Nothing r x → Near r x 0
nothing_near {r} {x} n = record {
  positive = n.under_positive;
  low = rw (n.none, n.over_none) (omega arith);
  high = rw (n.none, n.over_none) (omega arith);
}

nothing_in_force : (c : Cell) → c.count ≡ 0 → (k : ℕ) → Nothing (in_force rounded c k) (in_force exact c k)
unfolding in_force
nothing_in_force c e zero = record { none = omega arith; under_positive = omega arith; over_none = omega arith }
nothing_in_force c e (suc k) =
    nothing_part (c.persistency k) 1_000_000_000 (omega arith)
    (nothing_part (c.survival k) 1_000_000_000 (omega arith) (nothing_in_force c e k))

-- ---- both

near_cell : (c : Cell) → GoodCell c → (k : ℕ) → k < 50 → (w : ℕ) → w ≤ 10_000_000
    → Near (in_force rounded c k * w / 1_000_000_000) (part_fraction (in_force exact c k) w 1_000_000_000)
    (amount_err k * one_unless (eqb c.count 0))
near_cell c g k h w hw = go (eqb c.count 0) (eqb→eq c.count 0)
  where
    go : (t : Bool) → (T t → c.count ≡ 0)
        → Near (in_force rounded c k * w / 1_000_000_000) (part_fraction (in_force exact c k) w 1_000_000_000)
        (amount_err k * one_unless t)
    go true e = near_more (omega arith)
        (nothing_near (nothing_part w 1_000_000_000 (omega arith) (nothing_in_force c (e tt) k)))
    go false e = near_more (omega arith) (near_amount c g k h w hw)

-- the year sums: the amount's error for each cell with contracts
near_sum_cells : (r : Cell → ℕ) (x : Cell → Fraction) (e : ℕ)
    → ((c : Cell) → GoodCell c → Near (r c) (x c) (e * one_unless (eqb c.count 0)))
    → (cs : List Cell) → GoodCells cs → Near (sum_cells rounded r cs) (sum_cells exact x cs) (e * held cs)
unfolding sum_cells held
near_sum_cells r x e f [] g = near_more (omega arith) (near_whole 0)
near_sum_cells r x e f (c ∷ cs) g = near_more (omega arith) (near_plus (f c g.0) (near_sum_cells r x e f cs g.1))

-- ---- the years' errors

abbrev sum_err : ℕ → Err
sum_err k = record { each = amount_err k; flat = 0 }

abbrev outgo_err : ℕ → Err
outgo_err k = plus_err (part_err (sum_err k) 1050 1000) (part_err (sum_err k) 1_200_000_000 1_000_000_000)

abbrev capped_err : Bool → Err → Err → Err
capped_err true p o = max_err p (part_err o 10 9)
capped_err false p o = p

abbrev premium_err : ℕ → Err
premium_err k = capped_err (leb 5 k) (sum_err k) (outgo_err k)

-- back j years with divisors of at least D
unfoldable back_err : ℕ → ℕ → Err → Err
back_err D zero E = E
back_err D (suc j) E = part_err (back_err D j E) 1_000_000 D

-- ---- the years

near_sums : (n : ℕ) (r : ℕ → ℕ) (x : ℕ → Fraction) (E : ℕ → Err) (j : ℕ)
    → ((k : ℕ) → k < j → Near (r k) (x k) (at (E k) n))
    → Near (sum_below r j) (sum_by (whole_fraction 0) plus_fraction x j) (at (sum_by no_err plus_err E j) n)
unfolding sum_by
near_sums n r x E zero f = near_more (omega arith) (near_whole 0)
near_sums n r x E (suc j) f =
    near_plus_err n (sum_by no_err plus_err E j) (E j) (near_sums n r x E j (λ k h. f k (omega arith)))
    (f j (omega arith))

near_back : (n D d : ℕ) → 0 < D → {r : ℕ} {x : Fraction} (E : Err) (j : ℕ) → (0 < j → D ≤ d) → Near r x (at E n)
    → Near (discounted rounded d j r) (discounted exact d j x) (at (back_err D j E) n)
unfolding discounted back_err
near_back n D d hD E zero h p = p
near_back n D d hD E (suc j) h p =
    near_part_err n (back_err D j E) 1_000_000 d 1_000_000 D (omega arith) hD (h (omega arith))
    (near_back n D d hD E j (λ _. h (omega arith)) p)

module _ (D : ℕ) (D-positive : 0 < D) (t : Terms) (good-t : GoodTerms D t) (cs : List Cell) (good-cs : GoodCells cs)
    (k : ℕ) (year : k < 50) where
  near_premium_sum : Near (premium_sum rounded cs k) (premium_sum exact cs k) (at (sum_err k) (held cs))
  unfolding premium_sum cell_premium
  near_premium_sum =
      near_more (omega arith)
      (near_sum_cells (cell_premium rounded k) (cell_premium exact k) (amount_err k)
      (λ c g. near_cell c g k year (c.premium k) (g.premium_most k year)) cs good-cs)

  near_claims_sum : Near (claims_sum rounded cs k) (claims_sum exact cs k) (at (sum_err k) (held cs))
  unfolding claims_sum cell_claims
  near_claims_sum =
      near_more (omega arith)
      (near_sum_cells (cell_claims rounded k) (cell_claims exact k) (amount_err k)
      (λ c g. near_cell c g k year (c.claims k) (g.claims_most k year)) cs good-cs)

  near_outgo : Near (outgo rounded t cs k) (outgo exact t cs k) (at (outgo_err k) (held cs))
  unfolding outgo
  near_outgo =
      near_plus_err (held cs) (part_err (sum_err k) 1050 1000) (part_err (sum_err k) 1_200_000_000 1_000_000_000)
      (near_part_err (held cs) (sum_err k) (t.claims_weight k) 1000 1050 1000 (good-t.claims_weight-most k year)
      (omega arith) (omega arith) near_claims_sum)
      (near_part_err (held cs) (sum_err k) (t.cost_rate * t.cost_weight k) 1_000_000_000 1_200_000_000 1_000_000_000
      (mul-le-mul good-t.cost_rate_most (good-t.cost_weight-most k year)) (omega arith) (omega arith)
      near_premium_sum)

  near_counted_premium : Near (counted_premium rounded t cs k) (counted_premium exact t cs k)
      (at (premium_err k) (held cs))
  unfolding counted_premium capped capped_if
  near_counted_premium = go (leb 5 k)
    where
      go : (b : Bool)
          → Near (capped_if rounded b (premium_sum rounded cs k) (outgo rounded t cs k))
          (capped_if exact b (premium_sum exact cs k) (outgo exact t cs k))
          (at (capped_err b (sum_err k) (outgo_err k)) (held cs))
      go true = near_lesser_err (held cs) (sum_err k) (part_err (outgo_err k) 10 9) near_premium_sum
          (near_part_err (held cs) (outgo_err k) 10 9 10 9 (omega arith) (omega arith) (omega arith) near_outgo)
      go false = near_premium_sum

  near_discounted_outgo : Near (discounted_outgo rounded t cs k) (discounted_outgo exact t cs k)
      (at (back_err D k (outgo_err k)) (held cs))
  unfolding discounted_outgo
  near_discounted_outgo =
      near_back (held cs) D (t.divisor k) D-positive (outgo_err k) k (λ h. good-t.divisor_least k h year) near_outgo

  near_discounted_premium : Near (discounted_premium rounded t cs k) (discounted_premium exact t cs k)
      (at (back_err D k (premium_err k)) (held cs))
  unfolding discounted_premium
  near_discounted_premium =
      near_back (held cs) D (t.divisor k) D-positive (premium_err k) k (λ h. good-t.divisor_least k h year)
      near_counted_premium

-- ---- the sums over the years, and their difference

-- at most a for each cell, and b
abbrev at_most_err : Err → ℕ → ℕ → Type 0
at_most_err E a b = (E.each ≤ a * 1_000_000) × (E.flat ≤ b * 1_000_000)

outgo_total_err : ℕ → Err
outgo_total_err D = sum_by no_err plus_err (λ k. back_err D k (outgo_err k)) 50

premium_total_err : ℕ → Err
premium_total_err D = sum_by no_err plus_err (λ k. back_err D k (premium_err k)) 50

-- errors are one-sided, so a difference is no further off than the worse of the two
near_less : {o p : ℕ} {x y : Fraction} (b : ℕ) → Near o x (b * 1_000_000) → Near p y (b * 1_000_000)
    → Within b (pos o -ℤ pos p) (less x y)
near_less {o} {p} {x} {y} b n m = record {
  under_positive = mul-pos n.positive m.positive;
  distance =
      diff_abs ((pos o -ℤ pos p) *ℤ pos d -ℤ (pos a -ℤ pos c)) (o * d + c) (p * d + a) (b * d)
      (diff_minus ((pos o -ℤ pos p) *ℤ pos d) (pos a -ℤ pos c) (o * d) (p * d) a c
      (diff_times (pos o -ℤ pos p) o p d (diff_less o p)) (diff_less a c))
      (omega (arith, mul-le-mul_right y.under n.low, mul-le-mul_right x.under m.high))
      (omega (arith, mul-le-mul_right x.under m.low, mul-le-mul_right y.under n.high));
}
  where
    d : ℕ
    d = x.under * y.under

    a : ℕ
    a = x.over * y.under

    c : ℕ
    c = y.over * x.under

module _ (D : ℕ) (D-positive : 0 < D) (t : Terms) (good-t : GoodTerms D t) (cs : List Cell)
    (good-cs : GoodCells cs) where
  near_total_outgo : Near (total_outgo rounded t cs) (total_outgo exact t cs) (at (outgo_total_err D) (held cs))
  unfolding total_outgo outgo_total_err
  near_total_outgo =
      near_sums (held cs) (discounted_outgo rounded t cs) (discounted_outgo exact t cs)
      (λ k. back_err D k (outgo_err k)) 50 (near_discounted_outgo D D-positive t good-t cs good-cs)

  near_total_premium : Near (total_premium rounded t cs) (total_premium exact t cs) (at (premium_total_err D) (held cs))
  unfolding total_premium premium_total_err
  near_total_premium =
      near_sums (held cs) (discounted_premium rounded t cs) (discounted_premium exact t cs)
      (λ k. back_err D k (premium_err k)) 50 (near_discounted_premium D D-positive t good-t cs good-cs)

  -- the distance, where the errors of both sums come to at most a for each cell and b
  within : (a b : ℕ) → at_most_err (outgo_total_err D) a b → at_most_err (premium_total_err D) a b
      → Within (a * held cs + b) (liability t cs) (exact_liability t cs)
  unfolding liability exact_liability
  within a b p q = near_less (a * held cs + b)
      (near_more (omega (arith, mul-le-mul_right (held cs) p.0, p.1)) near_total_outgo)
      (near_more (omega (arith, mul-le-mul_right (held cs) q.0, q.1)) near_total_premium)

-- ---- for any curve

pub distance : GroupDistance
unfolding outgo_total_err premium_total_err sum_by back_err up
distance t good-t cs good-cs =
    within 990_000 (omega arith) t good-t cs good-cs _ _ (lit≤ tt, lit≤ tt) (lit≤ tt, lit≤ tt)

-- ---- for a curve with no rate below zero

pub half_distance : GroupHalfDistance
unfolding outgo_total_err premium_total_err sum_by back_err up
half_distance t good-t cs good-cs =
    within 1_000_000 (omega arith) t good-t cs good-cs _ _ (lit≤ tt, lit≤ tt) (lit≤ tt, lit≤ tt)
