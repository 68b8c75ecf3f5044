-- Laws of the year table. Assumes nothing.
use mathlib.Core.Path.{◌≡◌, sym, ap, ◌∙◌}
use mathlib.Core.List.{List, [], ◌∷◌, ◌++◌, append_assoc}
use Prim.Native.Nat.{ℕ, suc, ◌+◌, ◌*◌, ◌≤◌}
use native.Mathlib.Numerals.{add-one}
use native.Mathlib.Omega.{arith}
use lib.ListN.{length, set, take, drop, length-append, length-drop}
use lib.Seq.{sets-eq, take_at, drop_at, drop-drop}
use Rattle.valuation.specs.Arithmetic.{rounded}
use Rattle.valuation.specs.Steps.{Cell, Terms, outgo, counted_premium, discounted_outgo, discounted_premium}
use Rattle.valuation.specs.Replies.{year_table}
use Rattle.valuation.proofs.GroupContract.{length_years}
use Rattle.present_value.specs.declared.Year.{Year}
use Rattle.present_value.specs.Outcome.{year_of, four_of}

-- four stores in a row
pub four_stores : (t : List ℕ) (i a b c d : ℕ) → i + 4 ≤ length t
    → set (set (set (set t i a) (i + 1) b) (i + 2) c) (i + 3) d ≡ take i t ++ ((a ∷ b ∷ c ∷ d ∷ []) ++ drop (i + 4) t)
four_stores t i a b c d h =
    let e1 : i + 1 ≡ suc i = omega arith in
    let e2 : i + 2 ≡ suc (suc i) = omega arith in
    let e3 : i + 3 ≡ suc (suc (suc i)) = omega arith in
    rw (e1, e2, e3) (sets-eq (a ∷ b ∷ c ∷ d ∷ []) t i h ∙ append_assoc (take i t) (a ∷ b ∷ c ∷ d ∷ []) (drop (i + 4) t))

module _ (t : Terms) (cs : List Cell) where
  -- one year more in the caller's table
  pub years_more : (n : ℕ) (y : Year) (before u v : List ℕ) → y ≡ year_of t cs n → 4 * n + 4 ≤ length before
      → u ≡ year_table t cs n ++ drop (4 * n) before
      → v ≡ take (4 * n) u ++ (four_of y ++ drop (4 * n + 4) u)
      → v ≡ year_table t cs (n + 1) ++ drop (4 * (n + 1)) before
  unfolding year_table year_of
  years_more n y before u v ey h eu ev =
      let e : 4 * (n + 1) ≡ 4 * n + 4 = omega arith in
      let front : take (4 * n) u ≡ year_table t cs n =
      ap (take (4 * n)) eu ∙ take_at (year_table t cs n) (drop (4 * n) before) (4 * n) (length_years t cs n) in
      let rest : drop (4 * n + 4) u ≡ drop (4 * n + 4) before =
      sym (drop-drop 4 (4 * n) u) ∙ ap (λ (l : List ℕ). drop 4 (drop (4 * n) l)) eu
      ∙ ap (drop 4) (drop_at (year_table t cs n) (drop (4 * n) before) (4 * n) (length_years t cs n)) ∙ drop-drop 4
      (4 * n) before in
      ev ∙ rw (front, rest, e, add-one n, ey)
      (sym (append_assoc (year_table t cs n) (four_of (year_of t cs n)) (drop (4 * n + 4) before)))

  -- the table keeps its length
  pub years_length : (n : ℕ) (before u : List ℕ) → 4 * n ≤ length before → u ≡ year_table t cs n ++ drop (4 * n) before
      → length u ≡ length before
  years_length n before u h e =
      ap length e ∙ omega (
        arith,
        length-append (year_table t cs n) (drop (4 * n) before),
        length_years t cs n,
        length-drop (4 * n)
            before,
      )

-- the year's four numbers
pub year_is : (t : Terms) (cs : List Cell) (k a b c d : ℕ) → a ≡ counted_premium rounded t cs k
    → b ≡ outgo rounded t cs k
    → c ≡ discounted_premium rounded t cs k → d ≡ discounted_outgo rounded t cs k
    → ◌≡◌ {A = Year} (record { premium = a; outgo = b; discounted_premium = c; discounted_outgo = d })
    (year_of t cs k)
unfolding year_of
year_is t cs k a b c d h1 h2 h3 h4 = rw (h1, h2, h3, h4)
