-- Laws of verdicts one after the other: what acceptance says of the parts, and when the parts make acceptance. Assumes
-- nothing.
use mathlib.Core.Path.{◌≡◌, refl, sym, ap}
use mathlib.Core.Logic.{⊎_elim}
use mathlib.Core.Bool.{Bool, true, false}
use Prim.Native.Nat.{ℕ, zero, suc, ◌+◌, ◌-◌, ◌<◌, ◌≤◌, zero-le}
use native.Mathlib.Nat.{zero-add, add-zero, sub-zero, le_refl, not-suc-le-zero, eq-or-lt_of_le}
use native.Mathlib.Numerals.{add-one}
use native.Mathlib.Omega.{arith}
use Rattle.verdict.specs.Verdicts.{need, first_refusal, refusal_of, count_of, plus, join, join_all, ◌and_then◌, Verdict}
use Rattle.std.specs.Prelude.{Result, Ok, Err, IsErr}
use Rattle.std.specs.Result.{IsErrAnd}
use Rattle.verdict.specs.declared.Refusal.{Refusal}

-- a test
pub need_true : (ok : Bool) (q p m : ℕ) → need ok q p ≡ Ok m → ok ≡ true
unfolding need
need_true true q p m e = refl
need_true false q p m e = cc

pub need_zero : (ok : Bool) (q p m : ℕ) → need ok q p ≡ Ok m → need ok q p ≡ Ok 0
unfolding need
need_zero true q p m e = refl
need_zero false q p m e = cc

pub need_good : (ok : Bool) (q p : ℕ) → ok ≡ true → need ok q p ≡ Ok 0
unfolding need
need_good ok q p e = rw e

pub need_fails : (ok : Bool) (q p : ℕ) (r : Refusal) → need ok q p ≡ Err r
    → (ok ≡ false) × (r ≡ record { number = q; place = p })
unfolding need
need_fails true q p r e = cc
need_fails false q p r e = (refl, cc e)

-- one verdict and then another
pub then_left : (v w : Verdict) (n : ℕ) → (v and_then w) ≡ Ok n → v ≡ Ok (count_of v)
unfolding first_refusal
then_left (Ok m) w n e = refl
then_left (Err r) w n e = cc

pub then_right : (v w : Verdict) (n : ℕ) → (v and_then w) ≡ Ok n → w ≡ Ok n
unfolding first_refusal
then_right (Ok m) w n e = e
then_right (Err r) w n e = cc

pub then_good : (v w : Verdict) (m n : ℕ) → v ≡ Ok m → w ≡ Ok n → (v and_then w) ≡ Ok n
unfolding first_refusal
then_good v w m n e f = rw (e, f)

pub then_count : (v w : Verdict) → count_of (v and_then w) ≤ count_of w
unfolding first_refusal
then_count (Ok m) w = le_refl _
then_count (Err r) w = zero-le

pub accepted : (v : Verdict) (n : ℕ) → v ≡ Ok n → v ≡ Ok (count_of v)
accepted v n e = rw e

-- A verdict that says by its number alone whether it refuses: 0 is acceptance. A test with a number above 0 does, and
-- so do two such verdicts one after the other.
unfoldable pub ZeroAccepts : Verdict → Type 0
ZeroAccepts v = refusal_of v ≡ 0 → v ≡ Ok (count_of v)

pub zero_accepts_need : (ok : Bool) (q p : ℕ) → ZeroAccepts (need ok (suc q) p)
unfolding ZeroAccepts need
zero_accepts_need true q p e = refl
zero_accepts_need false q p e = absurd (omega arith)

pub zero_accepts_then : (v w : Verdict) → ZeroAccepts v → ZeroAccepts w → ZeroAccepts (v and_then w)
unfolding ZeroAccepts first_refusal
zero_accepts_then (Ok n) w hv hw = hw
zero_accepts_then (Err r) w hv hw = hv

-- a count added
pub plus_none : (v : Verdict) → plus 0 v ≡ v
plus_none (Ok n) = ap Ok (zero-add n)
plus_none (Err r) = refl

pub plus_plus : (m n : ℕ) (v : Verdict) → plus m (plus n v) ≡ plus (m + n) v
plus_plus m n (Ok k) = ap Ok (omega arith)
plus_plus m n (Err r) = refl

pub plus_right : (n : ℕ) (v : Verdict) (m : ℕ) → plus n v ≡ Ok m → v ≡ Ok (count_of v)
plus_right n (Ok k) m e = refl
plus_right n (Err r) m e = cc

pub plus_count : (n : ℕ) (v : Verdict) → count_of (plus n v) ≤ n + count_of v
plus_count n (Ok m) = le_refl _
plus_count n (Err r) = zero-le

-- a run of verdicts, at the numbers that a loop has: n counted so far, k the next, left still to come
pub all_start : (f : ℕ → Verdict) (left : ℕ) → join_all f 0 left ≡ plus 0 (join_all f 0 (left - 0))
all_start f left = rw sub-zero (sym (plus_none (join_all f 0 left)))

pub all_good : (f : ℕ → Verdict) (n k left rest m : ℕ) → left ≡ rest + 1 → f k ≡ Ok m
    → plus n (join_all f k left) ≡ plus (n + m) (join_all f (k + 1) rest)
unfolding join_all
all_good f n k left rest m more is = rw (more, add-one rest, is) (plus_plus n m (join_all f (k + 1) rest))

pub all_bad : (f : ℕ → Verdict) (n k left : ℕ) (r : Refusal) → 0 < left → f k ≡ Err r
    → plus n (join_all f k left) ≡ Err r
unfolding join_all
all_bad f n k zero r h is = absurd (not-suc-le-zero h)
all_bad f n k (suc left) r h is = rw is

pub all_done : (f : ℕ → Verdict) (n k left : ℕ) → left ≡ 0 → plus n (join_all f k left) ≡ Ok n
unfolding join_all
all_done f n k left none = rw (none, add-zero)

-- each verdict of an accepted run accepts
join_left : (v w : Verdict) (n : ℕ) → join v w ≡ Ok n → v ≡ Ok (count_of v)
join_left (Ok m) w n e = refl
join_left (Err r) w n e = cc

join_right : (v w : Verdict) (n : ℕ) → join v w ≡ Ok n → w ≡ Ok (count_of w)
join_right (Ok m) (Ok k) n e = refl
join_right (Ok m) (Err r) n e = cc
join_right (Err r) w n e = cc

pub all_each : (f : ℕ → Verdict) (left k n i : ℕ) → join_all f k left ≡ Ok n → k ≤ i → i < k + left
    → f i ≡ Ok (count_of (f i))
unfolding join_all
all_each f zero k n i e lo hi = absurd (omega arith)
all_each f (suc left) k n i e lo hi =
    ⊎_elim
    (λ (eq : k ≡ i). rw (← eq) (join_left (f k) (join_all f (k + 1) left) n e))
    (λ (lt : k < i). all_each f left (k + 1) _ i (join_right (f k) (join_all f (k + 1) left) n e) (omega arith)
    (omega arith))
    (eq-or-lt_of_le lo)

-- a run whose verdicts all accept and count nothing
pub all_zero : (f : ℕ → Verdict) (left k : ℕ) → ((j : ℕ) → k ≤ j → j < k + left → f j ≡ Ok 0)
    → join_all f k left ≡ Ok 0
unfolding join_all
all_zero f zero k each = refl
all_zero f (suc left) k each =
    rw (each k (omega arith) (omega arith), all_zero f left (k + 1) (λ j lo hi. each j (omega arith) (omega arith)))

-- a run depends on its verdicts alone
pub all_same : (f g : ℕ → Verdict) (left k : ℕ) → ((j : ℕ) → k ≤ j → j < k + left → f j ≡ g j)
    → join_all f k left ≡ join_all g k left
unfolding join_all
all_same f g zero k same = refl
all_same f g (suc left) k same =
    rw (same k (omega arith) (omega arith), all_same f g left (k + 1) (λ j lo hi. same j (omega arith) (omega arith)))

-- `?` hands on the refusal that it met
pub handed_on : {T : Type 0} {e : Refusal} (r : Result T Refusal) → IsErr r × IsErrAnd r (λ f. f ≡ e) → r ≡ Err e
handed_on (Ok n) h = absurd h.1
handed_on (Err f) h = ap Err h.1
