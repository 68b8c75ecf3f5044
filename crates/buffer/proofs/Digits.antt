-- Laws of digits, and of one text written after another. Assumes nothing.
use mathlib.Core.Bool.{Bool, true, false, not}
use mathlib.Core.Logic.{◌⊎◌, inl, inr, ⊎_elim}
use mathlib.Core.List.{List, [], ◌∷◌, ◌++◌, append_assoc}
use mathlib.Core.Path.{◌≡◌, refl, sym, ap, subst, ◌∙◌}
use Prim.Native.Nat.{ℕ, zero, suc, ◌+◌, ◌*◌, ◌/◌, ◌%◌, ◌^◌, ◌≤◌, ◌<◌}
use native.Mathlib.Numerals.{add-one}
use native.Mathlib.Nat.{zero-add, suc-add, not-suc-le-zero, pow-suc, mul-suc}
use native.Mathlib.Omega.{arith}
use borrow.Author.Tests.{lt-ltb, le-ltb}
use lib.IntN.{ℤ, pos, negsuc, nat_abs}
use lib.Signed.{lt_z, lt_z_no, ◌<ℤ◌, ◌≤ℤ◌}
use lib.Dec.{T, ltb→lt}
use mir.Syntax.{w64}
use mir.Val.{SFits, to_z, of_z}
use mir.ValLaws.{to_z-of_z}
use lib.ListN.{length, length-append, set, drop, take, get_or}
use lib.Seq.{sets, sets-eq, length-sets, take-suc, take_all, length-take-le}
use Rattle.buffer.specs.Text.{spelled, decimal, signed, Wrote, joined}

pub le_or_lt : (a b : ℕ) → (a ≤ b) ⊎ (b < a)
le_or_lt zero b = inl (omega arith)
le_or_lt (suc a) zero = inr (omega arith)
le_or_lt (suc a) (suc b) = ⊎_elim (λ p. inl (omega arith)) (λ q. inr (omega arith)) (le_or_lt a b)

-- steps beyond enough change nothing
spelled_same : (f g n : ℕ) → n ≤ f → n ≤ g → spelled f n ≡ spelled g n
unfolding spelled
spelled_same zero zero n p q = refl
spelled_same zero (suc g) n p q = rw (lt-ltb n 10 (omega arith))
spelled_same (suc f) zero n p q = rw (lt-ltb n 10 (omega arith))
spelled_same (suc f) (suc g) n p q =
    ⊎_elim (λ h. rw (le-ltb n 10 h)
    (ap (λ (l : List ℕ). l ++ ((48 + n % 10) ∷ [])) (spelled_same f g (n / 10) (omega arith) (omega arith))))
    (λ h. rw (lt-ltb n 10 h)) (le_or_lt 10 n)

pub decimal_one : (n : ℕ) → n < 10 → decimal n ≡ (48 + n) ∷ []
unfolding decimal spelled
decimal_one zero h = refl
decimal_one (suc n) h = rw (lt-ltb (suc n) 10 h)

pub decimal_more : (n : ℕ) → 10 ≤ n → decimal n ≡ decimal (n / 10) ++ ((48 + n % 10) ∷ [])
unfolding decimal spelled
decimal_more zero h = absurd (not-suc-le-zero h)
decimal_more (suc n) h =
    rw (le-ltb (suc n) 10 h)
    (ap (λ (l : List ℕ). l ++ ((48 + suc n % 10) ∷ []))
    (spelled_same n (suc n / 10) (suc n / 10) (omega arith) (omega arith)))

-- ten times a number: a zero more; a thousand times: three
pub decimal_tens : (n : ℕ) → 0 < n → decimal (n * 10) ≡ decimal n ++ 48 ∷ []
decimal_tens n h =
    let tenth : n * 10 / 10 ≡ n = omega arith in
    let nought : n * 10 % 10 ≡ 0 = omega arith in
    rw (decimal_more (n * 10) (omega arith), tenth, nought)

pub decimal_thousands : (n : ℕ) → 0 < n → decimal (n * 1000) ≡ decimal n ++ 48 ∷ 48 ∷ 48 ∷ []
decimal_thousands n h =
    let thrice : n * 1000 ≡ n * 10 * 10 * 10 = omega arith in
    rw (
      thrice,
      decimal_tens (n * 10 * 10) (omega arith),
      decimal_tens (n * 10) (omega arith),
      decimal_tens n h,
      append_assoc,
      append_assoc,
    )

-- no more digits than k + 1 where n has no more
spelled_most : (f k n : ℕ) → n < 10 ^ (k + 1) → length (spelled f n) ≤ k + 1
unfolding spelled
spelled_most zero k n h = omega arith
spelled_most (suc f) zero n h = rw (lt-ltb n 10 h) (omega arith)
spelled_most (suc f) (suc k) n h =
    let more : 10 ^ (suc k + 1) ≡ 10 ^ (k + 1) * 10 = rw (suc-add k 1) (pow-suc 10 (k + 1)) in
    ⊎_elim
    (λ p. rw (le-ltb n 10 p)
    (omega (
      arith,
      length-append (spelled f (n / 10)) ((48 + n % 10) ∷ []),
      spelled_most f k (n / 10)
          (omega arith),
    )))
    (λ p. rw (lt-ltb n 10 p) (omega arith)) (le_or_lt 10 n)

-- ---- one text after another

sets_append : (s t e : List ℕ) (at : ℕ) → sets (sets e at s) (at + length s) t ≡ sets e at (s ++ t)
sets_append [] t e at = ap (λ (k : ℕ). sets e k t) (omega arith)
sets_append (a ∷ s) t e at =
    ap (λ (k : ℕ). sets (sets (set e at a) (suc at) s) k t) (omega arith) ∙ sets_append s t (set e at a) (suc at)

infixl 5 ◌then◌
pub ◌then◌ : {e s x t y : List ℕ} {at r q : ℕ} → Wrote e at s x r → Wrote x r t y q → Wrote e at (s ++ t) y q
◌then◌ {e} {s} {x} {t} {y} {at} {r} {q} v w =
    record {
      bytes = w.bytes ∙ ap (λ (l : List ℕ). sets l r t) v.bytes ∙ ap (λ (k : ℕ). sets (sets e at s) k t) v.place
          ∙ sets_append s t e at;
      place = omega (arith, w.place, v.place, length-append s t);
    }

-- the buffer keeps its length
pub kept : {e t x : List ℕ} {at r : ℕ} → Wrote e at t x r → length x ≡ length e
kept {e} {t} {x} {at} {r} w = ap length w.bytes ∙ length-sets e at t

-- nothing written
pub nothing : (e : List ℕ) (at : ℕ) → Wrote e at [] e at
nothing e at = record { bytes = refl; place = omega arith }

-- a text that starts at 0 and fits
pub from_start : {e t x : List ℕ} {r : ℕ} → Wrote e 0 t x r → length t ≤ length e → x ≡ t ++ drop (length t) e
from_start {e} {t} {x} {r} w h =
    w.bytes ∙ sets-eq t e 0 (omega arith) ∙ rw (zero-add (length t))

pub digits_most : (k n : ℕ) → n < 10 ^ (k + 1) → length (decimal n) ≤ k + 1
unfolding decimal
digits_most k n h = spelled_most n k n h

-- a trial run says the length
pub trial : {o t p : List ℕ} {want : ℕ} → Wrote o 0 t p want → want ≡ length t
trial {o} {t} v = omega (arith, v.place)

-- ---- a number's digits, one by one

module _ {e x : List ℕ} {at r : ℕ} (n d : ℕ) where
  pub one_digit : n < 10 → d ≡ 48 + n → Wrote e at (d ∷ []) x r → Wrote e at (decimal n) x r
  one_digit h f w = rw (decimal_one n h) (rw f at w)

  pub more_digits : {y : List ℕ} {q : ℕ} → 10 ≤ n → d ≡ 48 + n % 10 → Wrote e at (decimal (n / 10)) x r
      → Wrote x r (d ∷ []) y q → Wrote e at (decimal n) y q
  more_digits h f v w = rw (decimal_more n h) (v then (rw f at w))

-- a number of 64 bits takes at most 20 bytes
pub number_most : (n : ℕ) → n < 2 ^ 64 → length (decimal n) ≤ 20
number_most n h = digits_most 19 n (omega arith)

-- ---- signs

pub signed_below : (v : ℤ) → v <ℤ pos 0 → signed v ≡ 45 ∷ decimal (nat_abs v)
unfolding signed
signed_below (pos n) h = absurd (not-suc-le-zero (ltb→lt n 0 h.lt))
signed_below (negsuc k) h = refl

pub signed_other : (v : ℤ) → pos 0 ≤ℤ v → signed v ≡ decimal (nat_abs v)
unfolding signed
signed_other (pos n) h = refl
signed_other (negsuc k) h = absurd h.le

pub size_most : (v : ℤ) → SFits w64 v → nat_abs v < 2 ^ 64
size_most (pos n) h = omega (arith, h.sfits)
size_most (negsuc k) h = omega (arith, h.sfits)

-- what a test `v < 0` says
pub is_below : (v : ℤ) → SFits w64 v → lt_z (to_z w64 (of_z w64 v)) (pos 0) ≡ true → v <ℤ pos 0
is_below v f e = record { lt = subst T (sym (rw (to_z-of_z w64 v f) at e)) tt }

pub is_other : (v : ℤ) → SFits w64 v → lt_z (to_z w64 (of_z w64 v)) (pos 0) ≡ false → pos 0 ≤ℤ v
is_other v f e = lt_z_no (subst (λ (t : Bool). T (not t)) (sym (rw (to_z-of_z w64 v f) at e)) tt)

-- ---- a run of bytes

pub bytes_more : {e x y : List ℕ} {at r q : ℕ} (s : List ℕ) (i : ℕ) → i < length s → Wrote e at (take i s) x r
    → Wrote x r (get_or s i 0 ∷ []) y q
    → Wrote e at (take (i + 1) s) y q
bytes_more s i h v w = rw (add-one i, take-suc s i 0) (v then w)

pub bytes_all : {e x : List ℕ} {at r : ℕ} (s : List ℕ) (i : ℕ) → length s ≤ i → Wrote e at (take i s) x r
    → Wrote e at s x r
bytes_all s i h w = rw (take_all i s h) at w

pub bytes_place : {e x : List ℕ} {at r : ℕ} (s : List ℕ) (i : ℕ) → i ≤ length s → Wrote e at (take i s) x r → r ≡ at + i
bytes_place s i h w = omega (arith, w.place, length-take-le i s h)

-- ---- runs of texts

pub joined_more : {e x y : List ℕ} {at r q : ℕ} (f : ℕ → List ℕ) (n : ℕ) (t : List ℕ) → Wrote e at (t ++ joined f n) x r
    → Wrote x r (f n) y q
    → Wrote e at (t ++ joined f (n + 1)) y q
unfolding joined
joined_more f n t v w = rw (add-one n, ← append_assoc) (v then w)

-- n texts of at most m bytes each
pub joined_most : (f : ℕ → List ℕ) (m n : ℕ) → ((i : ℕ) → i < n → length (f i) ≤ m) → length (joined f n) ≤ m * n
unfolding joined
joined_most f m zero h = omega arith
joined_most f m (suc n) h =
    let before = joined_most f m n (λ i p. h i (omega arith)) in
    omega (arith, length-append (joined f n) (f n), h n (omega arith), before, mul-suc m n)

-- texts that are the same one by one
pub joined_same : (f g : ℕ → List ℕ) (n : ℕ) → ((i : ℕ) → i < n → f i ≡ g i) → joined f n ≡ joined g n
unfolding joined
joined_same f g zero h = refl
joined_same f g (suc n) h = rw (joined_same f g n (λ i p. h i (omega arith)), h n (omega arith))
