-- A year's sum is that of five figures that stand in a row, and bounded as they are. Assumes nothing.
use mathlib.Core.Path.{◌≡◌, refl}
use mathlib.Core.List.{List}
use Prim.Native.Nat.{ℕ, zero, suc, ◌+◌, ◌*◌, ◌≤◌, ◌<◌}
use native.Mathlib.Nat.{le_refl}
use native.Mathlib.Numerals.{add-one}
use native.Mathlib.Omega.{arith}
use lib.ListN.{length, take, drop, get_or}
use Rattle.std.specs.List.{sum}
use Rattle.std.proofs.lemmas.List.{get_or-drop, length-drop}
use Rattle.std.proofs.lemmas.List.Sums.{sum_by_more}
use Rattle.lists.specs.AtMost.{AtMost}
use Rattle.lists.specs.Sums.{sum_by, sum_below}
use Rattle.lists.proofs.Sums.{sum_most}
use Rattle.cost_rate_shares.specs.Rates.{figure, year_sum}

-- n items from the k-th on
sum_part : (xs : List ℕ) (k n : ℕ) → k + n ≤ length xs
    → sum (take n (drop k xs)) ≡ sum_below (λ (j : ℕ). get_or xs (k + j) 0) n
unfolding sum_by
sum_part xs k zero h = refl
sum_part xs k (suc n) h =
    let rest = drop k xs in
    let more = rw (add-one n) at (sum_by_more (λ (x : ℕ). x) rest n 0 (omega (arith, length-drop k xs))) in
    omega (arith, more, sum_part xs k n (omega arith), get_or-drop k xs n 0)

pub sum_year : (xs : List ℕ) (year n : ℕ) → n ≡ 5 → 5 * year + n ≤ length xs
    → sum (take n (drop (5 * year) xs)) ≡ year_sum xs year
unfolding year_sum figure
sum_year xs year n e h = rw e (sum_part xs (5 * year) 5 (omega (arith, e)))

pub year_sum_most : (xs : List ℕ) (year : ℕ) → AtMost 1000000000 15 xs → year < 3 → year_sum xs year ≤ 5000000000
unfolding year_sum figure
year_sum_most xs year limit h =
    sum_most 0 ◌+◌ (λ (x : ℕ). x) refl (λ x y. le_refl (x + y)) (figure xs year) 1000000000 5
    (λ j low. limit.each (5 * year + j) (omega arith))
