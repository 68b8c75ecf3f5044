-- Contents are not refused, with space enough, exactly where they keep the rules. Assumes nothing.
use mathlib.Core.Path.{◌≡◌}
use mathlib.Core.Logic.{⊎_elim}
use mathlib.Core.List.{List}
use mathlib.Core.Bool.{true}
use Prim.Native.Nat.{ℕ, ◌<◌, ◌≤◌, zero-le}
use native.Mathlib.Omega.{arith}
use borrow.Author.Tests.{leb-true, le-leb, eqb-true, eq-eqb, ne_eqb}
use lib.Dec.{leb}
use lib.IntN.{ℤ, pos}
use lib.ListN.{length, get_or, get_or-eq_default}
use Rattle.verdict.specs.Verdicts.{need}
use Rattle.std.specs.Prelude.{Ok}
use Rattle.verdict.proofs.Verdicts.{need_true, need_good, then_left, then_right, then_good, all_each, all_zero}
use Rattle.le_bytes.proofs.Ranges.{within_means, within_good}
use native.Mathlib.Nat.{eq-or-lt_of_le}
use Rattle.book.specs.Layout.{most_percent, most_rate, most_amount}
use Rattle.buffer.proofs.Digits.{le_or_lt}
use Rattle.book_contents.specs.Contents.{Contents, no_class}
use Rattle.book_contents.specs.Written.{book_size}
use Rattle.book_contents.specs.Limits.{check_most, curve_rate, check_curve, check_lengths, check_given_percents}
use Rattle.book_contents.specs.Limits.{check_edition}
use Rattle.book_contents.specs.Limits.{check_given_tables, check_lists, check_contents, Fit}

module _ (number most : ℕ) (l : List ℕ) where
  most_means : (n : ℕ) → check_most number most l ≡ Ok n → (j : ℕ) → get_or l j 0 ≤ most
  unfolding check_most
  most_means n e j =
      ⊎_elim
      (λ (h : length l ≤ j). omega (arith, get_or-eq_default l 0 {n = j} h))
      (λ (h : j < length l). leb-true (get_or l j 0) most
      (need_true _ number 0 _
      (all_each (λ (i : ℕ). need (leb (get_or l i 0) most) number 0) (length l) 0 n j e zero-le (omega arith))))
      (le_or_lt (length l) j)

  most_good : ((j : ℕ) → get_or l j 0 ≤ most) → check_most number most l ≡ Ok 0
  unfolding check_most
  most_good h = all_zero _ (length l) 0 (λ j lo hi. need_good _ _ _ (le-leb _ _ (h j)))

curve_means : (l : List ℤ) (n : ℕ) → check_curve l ≡ Ok n → (j : ℕ) → curve_rate (get_or l j (pos 0)) ≡ true
unfolding check_curve curve_rate
curve_means l n e j =
    ⊎_elim
    (λ (h : length l ≤ j). rw (get_or-eq_default l (pos 0) {n = j} h))
    (λ (h : j < length l). need_true _ 7 0 _
    (all_each (λ (i : ℕ). need (curve_rate (get_or l i (pos 0))) 7 0) (length l) 0 n j e zero-le (omega arith)))
    (le_or_lt (length l) j)

curve_good : (l : List ℤ) → ((j : ℕ) → curve_rate (get_or l j (pos 0)) ≡ true) → check_curve l ≡ Ok 0
unfolding check_curve
curve_good l h = all_zero _ (length l) 0 (λ j lo hi. need_good _ _ _ (h j))

-- the percentages, by the edition
module _ (edition men women n : ℕ) (e : check_given_percents edition men women ≡ Ok n) where
  none_given : edition ≡ 1 → (men ≡ 0) × (women ≡ 0)
  unfolding check_given_percents
  none_given one =
      let other : edition ≡ 2 → ⊥ = λ two. absurd (omega arith) in
      let both = rw (ne_eqb edition 2 other) at e in (
        eqb-true _ _ (need_true _ _ _ _ (then_left _ _ _ both)),
        eqb-true _ _
            (need_true _ _ _ _ (then_right _ _ _ both)),
      )

  both_given : edition ≡ 2 → ((1 ≤ men) × (men ≤ most_percent)) × ((1 ≤ women) × (women ≤ most_percent))
  unfolding check_given_percents
  both_given two =
      let both = rw (eq-eqb edition 2 two) at e in
      let m = within_means _ _ men (need_true _ _ _ _ (then_left _ _ _ both)) in
      let w = within_means _ _ women (need_true _ _ _ _ (then_right _ _ _ both)) in
      ((omega (arith, m.0), omega (arith, m.1)), (omega (arith, w.0), omega (arith, w.1)))

percents_good : (v : Contents) → Fit v
    → check_given_percents v.values.edition v.values.men v.values.women ≡ Ok 0
unfolding check_given_percents
percents_good v f =
    ⊎_elim
    (λ (two : v.values.edition ≡ 2).
    rw (eq-eqb v.values.edition 2 two)
    (then_good _ _ _ _
    (need_good _ _ _ (within_good _ _ _ (f.men_low two) (f.men_high two)))
    (need_good _ _ _ (within_good _ _ _ (f.women_low two) (f.women_high two)))))
    (λ (below : v.values.edition < 2).
    let other : v.values.edition ≡ 2 → ⊥ = λ two. absurd (omega arith) in
    let one : v.values.edition ≡ 1 = omega (arith, f.edition_low) in
    rw (ne_eqb v.values.edition 2 other)
    (then_good _ _ _ _
    (need_good _ _ _ (eq-eqb _ _ (f.no_men one)))
    (need_good _ _ _ (eq-eqb _ _ (f.no_women one)))))
    (eq-or-lt_of_le f.edition_high)

-- whatever the edition, a percentage fits in a byte
pub percents_small : (v : Contents) → Fit v → (v.values.men ≤ most_percent) × (v.values.women ≤ most_percent)
percents_small v f =
    ⊎_elim
    (λ (two : v.values.edition ≡ 2). (f.men_high two, f.women_high two))
    (λ (below : v.values.edition < 2).
    let one : v.values.edition ≡ 1 = omega (arith, f.edition_low) in
    (omega (arith, f.no_men one), omega (arith, f.no_women one)))
    (eq-or-lt_of_le f.edition_high)

module _ (v : Contents) (capacity : ℕ) where
  pub fit : (n : ℕ) → check_contents v capacity ≡ Ok n → Fit v
  unfolding check_contents check_lengths check_edition check_given_tables check_lists
  fit n e =
      let e₁ = then_left _ _ _ e in
      let e₂ = then_left _ _ _ e₁ in
      let e₃ = then_left _ _ _ e₂ in
      let s₁ = then_left _ _ _ (then_right _ _ _ e₃) in
      let s₂ = then_left _ _ _ s₁ in
      let s₃ = then_left _ _ _ s₂ in
      let p = then_right _ _ _ e₂ in
      let p₁ = then_left _ _ _ p in
      let t = then_right _ _ _ e₁ in
      let t₁ = then_left _ _ _ t in
      let l = then_right _ _ _ e in
      let l₁ = then_left _ _ _ l in
      let l₂ = then_left _ _ _ l₁ in
      -- what the tests say, whatever their bounds
      let known = within_means _ _ v.values.edition (need_true _ _ _ _ (then_left _ _ _ p₁)) in
      let year = within_means _ _ _ (need_true _ _ _ _ (then_right _ _ _ p₁)) in
      let percents = then_right _ _ _ p in
      let counts = most_means 12 _ v.counts _ (then_left _ _ _ l₂) in
      record {
        first = most_means 11 no_class _ _ (then_left _ _ _ e₃);
        counts_size = eqb-true _ _ (need_true _ _ _ _ (then_left _ _ _ s₃));
        lapses_size = eqb-true _ _ (need_true _ _ _ _ (then_right _ _ _ s₃));
        premiums_size = eqb-true _ _ (need_true _ _ _ _ (then_right _ _ _ s₂));
        claims_size = eqb-true _ _ (need_true _ _ _ _ (then_right _ _ _ s₁));
        edition_low = omega (arith, known.0);
        edition_high = omega (arith, known.1);
        no_men = λ one. (none_given _ _ _ _ percents one).0;
        no_women = λ one. (none_given _ _ _ _ percents one).1;
        men_low = λ two. (both_given _ _ _ _ percents two).0.0;
        men_high = λ two. (both_given _ _ _ _ percents two).0.1;
        women_low = λ two. (both_given _ _ _ _ percents two).1.0;
        women_high = λ two. (both_given _ _ _ _ percents two).1.1;
        year_low = year.0;
        year_high = year.1;
        cost = most_means 6 most_rate _ _ (then_left _ _ _ t₁);
        curve = curve_means _ _ (then_right _ _ _ t₁);
        mortality = most_means 8 most_rate _ _ (then_right _ _ _ t);
        count = λ i. omega (arith, counts i);
        lapse = most_means 12 most_rate _ _ (then_right _ _ _ l₂);
        premium = most_means 12 most_amount _ _ (then_right _ _ _ l₁);
        claim = most_means 12 most_amount _ _ (then_right _ _ _ l);
      }

  -- the caller's buffer takes the book
  pub capacity_enough : (n : ℕ) → check_contents v capacity ≡ Ok n → book_size v.values.first ≤ capacity
  unfolding check_contents check_lengths
  capacity_enough n e =
      leb-true _ _
      (need_true _ _ _ _ (then_right _ _ _ (then_right _ _ _ (then_left _ _ _ (then_left _ _ _ (then_left _ _ _ e))))))

  pub fit_good : Fit v → book_size v.values.first ≤ capacity → check_contents v capacity ≡ Ok 0
  unfolding check_contents check_lengths check_edition check_given_tables check_lists
  fit_good f enough =
      then_good _ _ _ _
      (then_good _ _ _ _
      (then_good _ _ _ _
      (then_good _ _ _ _
      (most_good _ _ _ f.first)
      (then_good _ _ _ _
      (then_good _ _ _ _
      (then_good _ _ _ _
      (then_good _ _ _ _
      (need_good _ _ _ (eq-eqb _ _ f.counts_size))
      (need_good _ _ _ (eq-eqb _ _ f.lapses_size)))
      (need_good _ _ _ (eq-eqb _ _ f.premiums_size)))
      (need_good _ _ _ (eq-eqb _ _ f.claims_size)))
      (need_good _ _ _ (le-leb _ _ enough))))
      (then_good _ _ _ _
      (then_good _ _ _ _
      (need_good _ _ _ (within_good _ _ _ f.edition_low f.edition_high))
      (need_good _ _ _ (within_good _ _ _ f.year_low f.year_high)))
      (percents_good v f)))
      (then_good _ _ _ _
      (then_good _ _ _ _ (most_good _ _ _ f.cost) (curve_good _ f.curve))
      (most_good _ _ _ f.mortality)))
      (then_good _ _ _ _
      (then_good _ _ _ _ (then_good _ _ _ _ (most_good _ _ _ f.count) (most_good _ _ _ f.lapse))
      (most_good _ _ _ f.premium))
      (most_good _ _ _ f.claim))
