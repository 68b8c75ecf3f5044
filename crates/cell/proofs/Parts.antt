-- Shares by the places of a row: where the upper half of a product is the share, and from what it is corrected else.
-- Assumes nothing.
use mathlib.Core.Bool.{false}
use mathlib.Core.List.{List}
use mathlib.Core.Path.{◌≡◌}
use Prim.Native.Nat.{ℕ, ◌+◌, ◌*◌, ◌/◌, ◌<◌, ◌≤◌}
use native.Mathlib.Nat.{le_of_mul-le-mul_right, mul-le-mul_left, le_trans}
use native.Mathlib.Omega.{arith}
use lib.ListN.{get_or}
use Rattle.arith.specs.Fractions.{near_top}
use Rattle.arith.proofs.Division.{part_sure, part_short, part_below}
use Rattle.rate_table.specs.Rows.{RowReady}
use Rattle.cell.specs.States.{ShareAt, share_of}

module _ (t : List ℕ) (at : ℕ) (share : ShareAt t at) (x q : ℕ) (few : x ≤ 100000000000000)
    (upper : q ≡ x * get_or t at 0 / 18446744073709551616) where
  pub sure : near_top 100000000000000 (x * get_or t at 0) ≡ false → q ≡ share_of t at x
  sure = part_sure x _ 1000000000 _ q 100000000000000 (omega arith) share.fraction_is upper few (omega arith)

  -- of at most the whole, the upper half is at most x
  upper_le : q ≤ x
  upper_le =
      le_of_mul-le-mul_right {k = 1000000000}
      (le_trans (part_below x _ 1000000000 _ q (omega arith) share.fraction_is upper)
      (mul-le-mul_left x share.most)) (omega arith)

  pub short : (1000000000 < 9223372036854775808) × (q < 18446744073709551615)
      × (q * 1000000000 ≤ x * get_or t (at + 8) 0)
      × (x * get_or t (at + 8) 0 < q * 1000000000 + 2 * 1000000000)
  short =
      part_short x _ 1000000000 _ q 100000000000000 (omega arith) share.fraction_is upper few (omega arith)
      (omega arith)
      (omega (arith, upper_le, few))

-- the places of a row
module _ (t : List ℕ) (r : ℕ) (ready : RowReady t r) where
  pub share_at : (c : ℕ) → c ≤ 5 → ShareAt t (16 * r + c)
  share_at c h = record { fraction_is = ready.fractions c (omega arith); most = ready.shares c (omega arith) }

  pub premium_column_at : ShareAt t (16 * r + 6)
  premium_column_at = record { fraction_is = ready.fractions 6 (omega arith); most = omega (arith, ready.premium) }

  pub claims_column_at : ShareAt t (16 * r + 7)
  claims_column_at = record { fraction_is = ready.fractions 7 (omega arith); most = omega (arith, ready.claims) }
