-- The distance of a total: distances add, so the five groups' liabilities together keep 500 n + 14,250, and 250 n +
-- 7,125 where no rate is below zero.
-- And what Totals promises. Assumes nothing.
use mathlib.Core.Path.{◌≡◌, refl, sym, ap, ◌∙◌}
use mathlib.Core.List.{List}
use Prim.Native.Nat.{ℕ, zero, suc, ◌+◌, ◌*◌, ◌≤◌, ◌<◌}
use native.Mathlib.Nat.{mul-le-mul_right, mul-pos}
use native.Mathlib.Omega.{arith}
use lib.IntN.{ℤ, pos, ◌+ℤ◌, ◌-ℤ◌, ◌*ℤ◌}
use lib.ListN.{get_or}
use Rattle.lists.specs.Sums.{sum_by, sum_below, signed_sum_below}
use Rattle.verdict.specs.Verdicts.{refusal_of, count_of, Verdict}
use Rattle.std.specs.Prelude.{Ok, Err}
use Rattle.book.specs.Layout.{last_class}
use Rattle.book.specs.Check.{check_book}
use Rattle.book.specs.Cells.{held_of_group, held_in_all}
use Rattle.book.specs.Reading.{ValidBook}
use Rattle.book.proofs.Cells.{groups_held}
use Rattle.book.proofs.Numbers.{zero_accepted}
use Rattle.book.proofs.Valid.{valid}
use Rattle.valuation.specs.Steps.{SignedFraction}
use Rattle.valuation.specs.Portfolio.{NoRateBelowZero}
use Rattle.valuation.specs.Bounds.{Within}
use Rattle.valuation.specs.CallContracts.{each_cell, each_group, all_groups, total_distance_of, half_cell, half_group}
use Rattle.valuation.specs.CallContracts.{half_all_groups, half_total_distance_of}
use Rattle.valuation.specs.Replies.{group_liability, exact_group_liability}
use Rattle.valuation.specs.Totals.{total_of, plus_signed, exact_sum_below, exact_total_of, totals_of}
use Rattle.valuation.specs.Totals.{totals_for, totals_reply, TotalsContract}
use Rattle.valuation.specs.declared.TotalsReply.{TotalsReply}
use Rattle.valuation.proofs.Differences.{above, below, diff_self, diff_plus, diff_minus, diff_times, diff_abs}
use Rattle.valuation.proofs.Differences.{abs_diff}
use Rattle.valuation.proofs.GroupContract.{group_distance, group_half_distance}

within_more : {b c : ℕ} {z : ℤ} {x : SignedFraction} → b ≤ c → Within b z x → Within c z x
within_more {b} {c} {z} {x} h p =
    record { under_positive = p.under_positive; distance = omega (arith, mul-le-mul_right x.under h, p.distance) }

-- the same without signs
apart : {b : ℕ} {z : ℤ} {x : SignedFraction} → Within b z x
    → (above z * x.under + below x.over ≤ below z * x.under + above x.over + b * x.under)
    × (below z * x.under + above x.over ≤ above z * x.under + below x.over + b * x.under)
apart {b} {z} {x} p =
    abs_diff (z *ℤ pos x.under -ℤ x.over) _ _ (b * x.under)
    (diff_minus (z *ℤ pos x.under) x.over _ _ _ _ (diff_times z _ _ x.under (diff_self z))
    (diff_self x.over)) p.distance

within_plus : {b c : ℕ} {z w : ℤ} {x y : SignedFraction} → Within b z x → Within c w y
    → Within (b + c) (z +ℤ w) (plus_signed x y)
within_plus {b} {c} {z} {w} {x} {y} p q = record {
  under_positive = mul-pos p.under_positive q.under_positive;
  distance =
      diff_abs ((z +ℤ w) *ℤ pos d -ℤ (x.over *ℤ pos y.under +ℤ y.over *ℤ pos x.under)) _ _ ((b + c) * d)
      (diff_minus ((z +ℤ w) *ℤ pos d) (x.over *ℤ pos y.under +ℤ y.over *ℤ pos x.under) _ _ _ _
      (diff_times (z +ℤ w) _ _ d (diff_plus z w _ _ _ _ (diff_self z) (diff_self w)))
      (diff_plus (x.over *ℤ pos y.under) (y.over *ℤ pos x.under) _ _ _ _
      (diff_times x.over _ _ y.under (diff_self x.over))
      (diff_times y.over _ _ x.under (diff_self y.over))))
      (omega (arith, mul-le-mul_right y.under (apart p).0, mul-le-mul_right x.under (apart q).0))
      (omega (arith, mul-le-mul_right y.under (apart p).1, mul-le-mul_right x.under (apart q).1));
}
  where
    d : ℕ
    d = x.under * y.under

within_none : Within 0 (pos 0) (record { over = pos 0; under = 1 })
within_none = record { under_positive = omega arith; distance = omega arith }

-- distances, added
sums_within : (each flat : ℕ) (n : ℕ → ℕ) (l : ℕ → ℤ) (x : ℕ → SignedFraction) (j : ℕ)
    → ((g : ℕ) → g < j → Within (each * n g + flat) (l g) (x g))
    → Within (each * sum_below n j + flat * j) (signed_sum_below l j) (exact_sum_below x j)
unfolding sum_by
sums_within each flat n l x zero near = within_more (omega arith) within_none
sums_within each flat n l x (suc j) near =
    within_more (omega arith)
    (within_plus (sums_within each flat n l x j (λ g h. near g (omega arith))) (near j (omega arith)))

module _ (b : List ℕ) where
  total_within : (each flat all setting : ℕ) → flat * 5 ≤ all
      → ((g : ℕ) → 1 ≤ g → g ≤ 5 → Within (each * held_of_group b (last_class 1) g + flat) (group_liability b setting g)
      (exact_group_liability b setting g))
      → Within (each * held_in_all b (last_class 1) + all) (total_of b setting) (exact_total_of b setting)
  unfolding total_of exact_total_of
  total_within each flat all setting fits near =
      within_more (omega (arith, ap (λ (n : ℕ). each * n) (groups_held b (last_class 1))))
      (sums_within each flat (λ j. held_of_group b (last_class 1) (1 + j)) (λ j. group_liability b setting (1 + j))
      (λ j. exact_group_liability b setting (1 + j)) 5 (λ j h. near (1 + j) (omega arith) (omega arith)))

  pub total_distance : (setting : ℕ) → ValidBook 1 b
      → Within (total_distance_of (held_in_all b (last_class 1))) (total_of b setting) (exact_total_of b setting)
  total_distance setting v =
      total_within each_cell each_group all_groups setting (omega arith)
      (λ g lo hi. group_distance b setting g v (lo, hi))

  pub total_half_distance : (setting : ℕ) → ValidBook 1 b → NoRateBelowZero b
      → Within (half_total_distance_of (held_in_all b (last_class 1))) (total_of b setting) (exact_total_of b setting)
  total_half_distance setting v ordinary =
      total_within half_cell half_group half_all_groups setting (omega arith)
      (λ g lo hi. group_half_distance b setting g v (lo, hi) ordinary)

  each_total : (setting : ℕ) → setting < 8 → get_or (totals_of b) setting (pos 0) ≡ total_of b setting
  each_total zero h = refl
  each_total (suc zero) h = refl
  each_total (suc (suc zero)) h = refl
  each_total (suc (suc (suc zero))) h = refl
  each_total (suc (suc (suc (suc zero)))) h = refl
  each_total (suc (suc (suc (suc (suc zero))))) h = refl
  each_total (suc (suc (suc (suc (suc (suc zero)))))) h = refl
  each_total (suc (suc (suc (suc (suc (suc (suc zero))))))) h = refl
  each_total (suc (suc (suc (suc (suc (suc (suc (suc more)))))))) h = absurd (omega arith)

  refusal_told : (v : Verdict) (n : ℕ) (ts ds : List ℤ) → (totals_for v n ts ds).refusal ≡ refusal_of v
  refusal_told (Ok m) n ts ds = refl
  refusal_told (Err r) n ts ds = refl

  -- a reply without a refusal is that of an accepted book
  accepted : (reply : TotalsReply) → reply ≡ totals_reply b → reply.refusal ≡ 0
      → check_book 1 b ≡ Ok (count_of (check_book 1 b))
  unfolding totals_reply
  accepted reply reply_is e =
      zero_accepted 1 b
      (sym (refusal_told (check_book 1 b) _ _ _) ∙ sym (ap (λ (r : TotalsReply). r.refusal) reply_is) ∙ e)

  pub totals_promised : (reply : TotalsReply) → reply ≡ totals_reply b → TotalsContract b reply
  unfolding totals_reply
  totals_promised reply reply_is = record {
    reply_is = reply_is;
    distance = λ setting few e.
        let ok = accepted reply reply_is e in
        rw (reply_is, ok, each_total setting few) (total_distance setting (valid 1 b _ ok));
    half_distance = λ ordinary setting few e.
        let ok = accepted reply reply_is e in
        rw (reply_is, ok, each_total setting few) (total_half_distance setting (valid 1 b _ ok) ordinary);
  }
