-- Verdicts, and verdicts one after the other: the first refusal stands.
use Rattle.std.specs.Prelude.{ℕ, zero, suc, ◌+◌, Bool, cond, Result, Ok, Err}
use Rattle.verdict.specs.declared.Refusal.{Refusal}

-- accepted with a count, or refused
abbrev pub Verdict : Type 0
Verdict = Result ℕ Refusal

-- refused with the rule's number and the place
abbrev pub refused : {T : Type 0} → ℕ → ℕ → Result T Refusal
refused number place = Err (record { number = number; place = place })

-- The paper's values of a verdict: the refusal's number and its place, 0 and 0 where accepted; n, 0 where refused.
-- Every promise of a call that answers by a verdict goes by these three.
abbrev pub refusal_of : Verdict → ℕ
refusal_of (Ok n) = 0
refusal_of (Err r) = r.number

abbrev pub place_of : Verdict → ℕ
place_of (Ok n) = 0
place_of (Err r) = r.place

abbrev pub count_of : Verdict → ℕ
count_of (Ok n) = n
count_of (Err r) = 0

-- refused with the number and the place, unless the test holds
unfoldable pub need : Bool → ℕ → ℕ → Verdict
need holds number place = cond holds (Ok 0) (refused number place)

-- the first refusal of the two, else the second's count
unfoldable pub first_refusal : Verdict → Verdict → Verdict
first_refusal (Ok n) w = w
first_refusal (Err r) w = Err r

infixl 5 ◌and_then◌
abbrev pub ◌and_then◌ : Verdict → Verdict → Verdict
v and_then w = first_refusal v w

-- n more, unless refused
abbrev pub plus : ℕ → Verdict → Verdict
plus n (Ok m) = Ok (n + m)
plus n (Err r) = Err r

-- the first refusal of the two, else both counts added
abbrev pub join : Verdict → Verdict → Verdict
join (Ok n) w = plus n w
join (Err r) w = Err r

-- the verdicts of k, k + 1 and so on, left of them: the first refusal, else all counts added
unfoldable pub join_all : (ℕ → Verdict) → ℕ → ℕ → Verdict
join_all f k zero = Ok 0
join_all f k (suc left) = join (f k) (join_all f (k + 1) left)
