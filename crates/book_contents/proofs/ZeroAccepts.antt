-- Refusal 0 is acceptance, of both calls. Assumes nothing.
use mathlib.Core.Path.{refl}
use mathlib.Core.List.{List}
use mathlib.Core.Bool.{Bool, true, false, cond}
use Prim.Native.Nat.{ℕ, zero, suc, ◌+◌}
use lib.Dec.{eqb}
use Rattle.verdict.specs.Verdicts.{need, ◌and_then◌, join, join_all, Verdict}
use Rattle.std.specs.Prelude.{Ok, Err}
use Rattle.verdict.proofs.Verdicts.{ZeroAccepts, zero_accepts_need, zero_accepts_then}
use Rattle.book.proofs.Numbers.{zero_accepted}
use Rattle.book_contents.specs.Contents.{Contents}
use Rattle.book_contents.specs.Limits.{check_most, check_curve, check_lengths, check_given_percents, check_edition}
use Rattle.book_contents.specs.Limits.{check_given_tables}
use Rattle.book_contents.specs.Limits.{check_lists, check_contents}
use Rattle.book_contents.specs.Reading.{check_read}

zero_accepts_join : (v w : Verdict) → ZeroAccepts v → ZeroAccepts w → ZeroAccepts (join v w)
unfolding ZeroAccepts
zero_accepts_join (Ok n) (Ok m) hv hw = λ e. refl
zero_accepts_join (Ok n) (Err r) hv hw = hw
zero_accepts_join (Err r) w hv hw = hv

zero_accepts_all : (f : ℕ → Verdict) (left k : ℕ) → ((j : ℕ) → ZeroAccepts (f j)) → ZeroAccepts (join_all f k left)
unfolding ZeroAccepts join_all
zero_accepts_all f zero k each = λ e. refl
zero_accepts_all f (suc left) k each =
    zero_accepts_join (f k) (join_all f (k + 1) left) (each k) (zero_accepts_all f left (k + 1) each)

zero_accepts_test : (ok : Bool) (q p : ℕ) (w : Verdict) → ZeroAccepts w → ZeroAccepts (w and_then need ok (suc q) p)
zero_accepts_test ok q p w h = zero_accepts_then w (need ok (suc q) p) h (zero_accepts_need ok q p)

zero_accepts_most : (number most : ℕ) (l : List ℕ) → ZeroAccepts (check_most (suc number) most l)
unfolding check_most
zero_accepts_most number most l = zero_accepts_all _ _ 0 (λ j. zero_accepts_need _ number 0)

zero_accepts_percents : (edition men women : ℕ) → ZeroAccepts (check_given_percents edition men women)
unfolding check_given_percents
zero_accepts_percents edition men women =
    by_edition (eqb edition 2) _ _
    (zero_accepts_test _ 22 0 _ (zero_accepts_need _ 22 0))
    (zero_accepts_test _ 3 0 _ (zero_accepts_need _ 3 0))
  where
    by_edition : (t : Bool) (v w : Verdict) → ZeroAccepts v → ZeroAccepts w → ZeroAccepts (cond t v w)
    by_edition true v w hv hw = hv
    by_edition false v w hv hw = hw

zero_accepts_lengths : (total counts lapses premiums claims capacity : ℕ)
    → ZeroAccepts (check_lengths total counts lapses premiums claims capacity)
unfolding check_lengths
zero_accepts_lengths total counts lapses premiums claims capacity =
    zero_accepts_test _ 21 0 _
    (zero_accepts_test _ 21 0 _
    (zero_accepts_test _ 21 0 _ (zero_accepts_test _ 21 0 _ (zero_accepts_need _ 21 0))))

-- the call that writes
pub zero_accepts_contents : (v : Contents) (capacity : ℕ) → ZeroAccepts (check_contents v capacity)
unfolding check_contents check_edition check_given_tables check_lists check_curve
zero_accepts_contents v capacity =
    zero_accepts_then _ _
    (zero_accepts_then _ _
    (zero_accepts_then _ _
    (zero_accepts_then _ _ (zero_accepts_most 10 _ _) (zero_accepts_lengths _ _ _ _ _ _))
    (zero_accepts_then _ _ (zero_accepts_test _ 3 0 _ (zero_accepts_need _ 1 0)) (zero_accepts_percents _ _ _)))
    (zero_accepts_then _ _
    (zero_accepts_then _ _ (zero_accepts_most 5 _ _) (zero_accepts_all _ _ 0 (λ j. zero_accepts_need _ 6 0)))
    (zero_accepts_most 7 _ _)))
    (zero_accepts_then _ _
    (zero_accepts_then _ _ (zero_accepts_then _ _ (zero_accepts_most 11 _ _) (zero_accepts_most 11 _ _))
    (zero_accepts_most 11 _ _))
    (zero_accepts_most 11 _ _))

-- the call that reads
pub zero_accepts_read : (b : List ℕ) (counts lapses premiums claims : ℕ)
    → ZeroAccepts (check_read b counts lapses premiums claims)
unfolding check_read ZeroAccepts
zero_accepts_read b counts lapses premiums claims =
    zero_accepts_test _ 21 0 _
    (zero_accepts_test _ 21 0 _ (zero_accepts_test _ 21 0 _ (zero_accepts_test _ 21 0 _ (zero_accepted 1 b))))
