-- Laws of what is added to a table: lengths, numbers, bounds, and runs that follow each other. Assumes nothing.
use mathlib.Core.Path.{◌≡◌, refl, sym, ap, ◌∙◌}
use mathlib.Core.Bool.{Bool, true, false, cond}
use mathlib.Core.Logic.{⊎_elim}
use mathlib.Core.List.{List, [], ◌∷◌}
use Prim.Native.Nat.{ℕ, zero, suc, ◌+◌, ◌-◌, ◌*◌, ◌/◌, ◌%◌, ◌≤◌, ◌<◌, ◌^◌}
use native.Mathlib.Nat.{eq-or-lt_of_le, le_of_suc-le-suc, add-zero, zero-add, suc-add}
use native.Mathlib.Omega.{arith}
use native.Mathlib.Numerals.{add-one}
use borrow.Author.Tests.{lt-ltb, le-ltb, eq-eqb, ne_eqb}
use lib.Dec.{eqb}
use lib.ListN.{length, get_or, set, length-set}
use lib.Seq.{get_or-set_same, get_or-set_other, set-get_or, set_comm}
use Rattle.lists.specs.AtMost.{AtMost}
use Rattle.lists.proofs.AtMost.{most_higher, most_set}
use Rattle.valuation.specs.Steps.{Cell}
use Rattle.cell.specs.States.{premium_by, claims_by}
use Rattle.cell_projection.specs.Tables.{amount_by, added, late, one_more, two_more}

pub length_added : (f : ℕ → ℕ) (n : ℕ) (t : List ℕ) → length (added f n t) ≡ length t
unfolding added
length_added f zero t = refl
length_added f (suc n) t = length-set (added f n t) n _ ∙ length_added f n t

-- a number that the run has not reached is as it was
pub added_later : (f : ℕ → ℕ) (n : ℕ) (t : List ℕ) (j : ℕ) → n ≤ j → get_or (added f n t) j 0 ≡ get_or t j 0
unfolding added
added_later f zero t j h = refl
added_later f (suc n) t j h =
    get_or-set_other (added f n t) n j _ 0 (λ e. omega arith) ∙ added_later f n t j (omega arith)

-- a number that the run has passed has f j more
pub added_at : (f : ℕ → ℕ) (n : ℕ) (t : List ℕ) (j : ℕ) → j < n → j < length t
    → get_or (added f n t) j 0 ≡ get_or t j 0 + f j
unfolding added
added_at f zero t j h l = absurd (omega arith)
added_at f (suc n) t j h l =
    ⊎_elim
    (λ (e : j ≡ n).
    rw e
    (get_or-set_same (added f n t) n _ 0 (omega (arith, length_added f n t)) ∙ ap (λ (x : ℕ). x + f n)
    (added_later f n t n (omega arith))))
    (λ (g : j < n). get_or-set_other (added f n t) n j _ 0 (λ e. omega arith) ∙ added_at f n t j g l)
    (eq-or-lt_of_le (le_of_suc-le-suc h))

-- one number more
pub added_more : (f : ℕ → ℕ) (n : ℕ) (t u v : List ℕ) (x : ℕ) → u ≡ added f n t → v ≡ set u n (get_or u n 0 + x)
    → x ≡ f n → v ≡ added f (n + 1) t
unfolding added
added_more f n t u v x e w h = w ∙ rw (add-one n) (cc)

-- what a run adds at most
pub added_most : (f : ℕ → ℕ) (z n : ℕ) → ((j : ℕ) → j < n → f j ≤ z) → {m count : ℕ} {t : List ℕ} → AtMost m count t
    → AtMost (m + z) count (added f n t)
unfolding added
added_most f z zero h a = most_higher a (omega arith)
added_most f z (suc n) h {t = t} a =
    most_set (added_most f z n (λ k l. h k (omega arith)) a)
    (λ l. omega (arith, added_later f n t n (omega arith), a.each n l, h n (omega arith)))

-- numbers where f is 0 add nothing
pub added_rest : (f : ℕ → ℕ) (n m : ℕ) (t : List ℕ) → ((j : ℕ) → n ≤ j → j < m + n → f j ≡ 0)
    → added f (m + n) t ≡ added f n t
unfolding added
added_rest f n zero t h = ap (λ (x : ℕ). added f x t) (zero-add n)
added_rest f n (suc m) t h =
    let u = added f (m + n) t in
    let same : get_or u (m + n) 0 + f (m + n) ≡ get_or u (m + n) 0 =
    omega (arith, h (m + n) (omega arith) (omega arith)) in
    let before = added_rest f n m t (λ j g l. h j g (omega arith)) in
    rw (suc-add m n) (ap (set u (m + n)) same ∙ set-get_or u (m + n) 0 ∙ before)

-- what two functions that agree in a run add
pub added_same : (f g : ℕ → ℕ) (n : ℕ) (t : List ℕ) → ((j : ℕ) → j < n → f j ≡ g j) → added f n t ≡ added g n t
unfolding added
added_same f g zero t h = refl
added_same f g (suc n) t h =
    let e = added_same f g n t (λ j l. h j (omega arith)) in
    rw (e, h n (omega arith))

-- a store above a run can be made before it
added_under : (g : ℕ → ℕ) (n : ℕ) (t : List ℕ) (i a : ℕ) → n ≤ i → added g n (set t i a) ≡ set (added g n t) i a
unfolding added
added_under g zero t i a h = refl
added_under g (suc n) t i a h =
    let u = added g n t in
    rw (added_under g n t i a (omega arith), get_or-set_other u i n a 0 (λ q. omega arith))
    (set_comm u i n a (get_or u n 0 + g n) (λ q. omega arith))

-- two stores at one place
twice : (t : List ℕ) (i a x : ℕ) → set (set t i a) i (get_or (set t i a) i 0 + x) ≡ set t i (a + x)
twice [] i a x = refl
twice (y ∷ t) zero a x = refl
twice (y ∷ t) (suc i) a x = ap (λ (l : List ℕ). y ∷ l) (twice t i a x)

-- what is added to what was added is added together
added_both : (f g : ℕ → ℕ) (n : ℕ) (t : List ℕ) → added g n (added f n t) ≡ added (λ j. f j + g j) n t
unfolding added
added_both f g zero t = refl
added_both f g (suc n) t =
    let u = added f n t in
    let w = added (λ j. f j + g j) n t in
    let same : (get_or u n 0 + f n) + g n ≡ get_or w n 0 + (f n + g n) =
    omega (arith, added_later f n t n (omega arith), added_later (λ j. f j + g j) n t n (omega arith)) in
    ap (λ (l : List ℕ). set l n (get_or l n 0 + g n)) (added_under g n u n (get_or u n 0 + f n) (omega arith))
    ∙ twice (added g n u) n (get_or u n 0 + f n) (g n) ∙ ap (λ (l : List ℕ). set l n ((get_or u n 0 + f n) + g n))
    (added_both f g n t) ∙ ap (set w n) same

pub added_join : (f g h : ℕ → ℕ) (n : ℕ) (t u v : List ℕ) → u ≡ added f n t → v ≡ added g n u
    → ((j : ℕ) → j < n → f j + g j ≡ h j) → v ≡ added h n t
added_join f g h n t u v e w s = w ∙ ap (added g n) e ∙ added_both f g n t ∙ added_same _ h n t s

-- f from number m on: nothing before, and all of f from there
pub late_low : (m : ℕ) (f : ℕ → ℕ) (k : ℕ) → k < m → late m f k ≡ 0
unfolding late
late_low m f k h = rw (lt-ltb k m h)

pub late_high : (m : ℕ) (f : ℕ → ℕ) (k : ℕ) → m ≤ k → late m f k ≡ f k
unfolding late
late_high m f k h = rw (le-ltb k m h)

pub late_start : (m : ℕ) (f : ℕ → ℕ) (t : List ℕ) → t ≡ added (late m f) m t
unfolding added
late_start m f t = sym (rw (add-zero m) at (added_rest (late m f) 0 m t (λ j g l. late_low m f j (omega arith))))

-- a run that follows another is one run
late_on : (f : ℕ → ℕ) (m : ℕ) (t : List ℕ) (d : ℕ) → added (late m f) (d + m) (added f m t) ≡ added f (d + m) t
unfolding added
late_on f m t zero = rw (zero-add m) (sym (late_start m f (added f m t)))
late_on f m t (suc d) = rw (suc-add d m, late_on f m t d, late_high m f (d + m) (omega arith))

pub late_join : (f : ℕ → ℕ) (m n : ℕ) (t : List ℕ) → m ≤ n → added (late m f) n (added f m t) ≡ added f n t
late_join f m n t h =
    let e : (n - m) + m ≡ n = omega arith in
    rw e at (late_on f m t (n - m))

-- two numbers more
pub two_added : (f : ℕ → ℕ) (n : ℕ) (t u : List ℕ) (x y : ℕ) → u ≡ added f n t → x ≡ f n → y ≡ f (n + 1)
    → two_more u n x y ≡ added f (n + 2) t
unfolding two_more
two_added f n t u x y e ex ey =
    let last : n + 1 + 1 ≡ n + 2 = omega arith in
    rw last at (added_more f (n + 1) t _ _ y (added_more f n t u _ x e refl ex) refl ey)

pub two_most : {m n x y z : ℕ} {u v : List ℕ} (j : ℕ) → AtMost m n u → x ≤ z → y ≤ z → v ≡ two_more u j x y
    → AtMost (m + z) n v
unfolding two_more
two_most {x = x} {u = u} j a hx hy e =
    let other = get_or-set_other u j (j + 1) (get_or u j 0 + x) 0 (λ q. omega arith) in
    rw e (most_set (most_set (most_higher a (omega arith)) (λ l. omega (arith, a.each j l)))
    (λ l. omega (arith, other, a.each (j + 1) l)))

-- the numbers of a year: for each projection premium, then claims
module _ (c : ℕ → Cell) (k s : ℕ) (h : s < 5) where
  pub amount_premium : amount_by c (10 * k + 2 * s) ≡ premium_by (c s) k
  unfolding amount_by
  amount_premium =
      let even : (10 * k + 2 * s) % 2 ≡ 0 = omega arith in
      let projection : (10 * k + 2 * s) % 10 / 2 ≡ s = omega arith in
      let year : (10 * k + 2 * s) / 10 ≡ k = omega arith in
      rw (eq-eqb _ _ even, projection, year)

  pub amount_claims : amount_by c (10 * k + 2 * s + 1) ≡ claims_by (c s) k
  unfolding amount_by
  amount_claims =
      let odd : (10 * k + 2 * s + 1) % 2 ≡ 0 → ⊥ = λ e. omega arith in
      let projection : (10 * k + 2 * s + 1) % 10 / 2 ≡ s = omega arith in
      let year : (10 * k + 2 * s + 1) / 10 ≡ k = omega arith in
      rw (ne_eqb _ _ odd, projection, year)

-- what holds of every number of the table
pub amount_each : (P : ℕ → Type 0) (c : ℕ → Cell) (j : ℕ) → P (premium_by (c (j % 10 / 2)) (j / 10))
    → P (claims_by (c (j % 10 / 2)) (j / 10)) → P (amount_by c j)
unfolding amount_by
amount_each P c j p q = by (eqb (j % 2) 0)
  where
    by : (even : Bool) → P (cond even (premium_by (c (j % 10 / 2)) (j / 10)) (claims_by (c (j % 10 / 2)) (j / 10)))
    by true = p
    by false = q

-- after one addition every number but its own is as it was, and has space
pub capacity : {n : ℕ} (t u : List ℕ) (j i x y : ℕ) → u ≡ one_more t j x → (i ≡ j → ⊥) → AtMost 4000000000000000 n t
    → i < n → y ≤ 1000000000000 → get_or u i 0 + y < 2 ^ 64
capacity t u j i x y e o h here l =
    omega (arith, ap (λ (v : List ℕ). get_or v i 0) e, get_or-set_other t j i (get_or t j 0 + x) 0 o, h.each i here)

-- two additions
pub both : (t u v : List ℕ) (j x y p q : ℕ) → u ≡ one_more t j x → v ≡ one_more u (j + 1) y → x ≡ p → y ≡ q
    → v ≡ two_more t j p q
unfolding two_more
both t u v j x y p q e f g h = rw (f, e, g, h)

-- runs that follow each other, the first from year 0 on
pub from_start : (f : ℕ → ℕ) (n : ℕ) (u v : List ℕ) → v ≡ added (late 0 f) n u → v ≡ added f n u
from_start f n u v e = e ∙ added_same (late 0 f) f n u (λ j l. late_high 0 f j (omega arith))

pub joined : (f : ℕ → ℕ) (m n : ℕ) (u v w : List ℕ) → m ≤ n → v ≡ added (late 0 f) (10 * m) u
    → w ≡ added (late (10 * m) f) (10 * n) v
    → w ≡ added (late 0 f) (10 * n) u
joined f m n u v w h ev ew =
    ew ∙ ap (added (late (10 * m) f) (10 * n)) (from_start f (10 * m) u v ev)
    ∙ late_join f (10 * m) (10 * n) u (omega arith) ∙ added_same f (late 0 f) (10 * n) u
    (λ j l. sym (late_high 0 f j (omega arith)))
