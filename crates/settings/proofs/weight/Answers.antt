-- `settings::weight` meets its contract: the table's rule is a test at each of its eighty entries, which antt computes.
-- Assumes nothing.
use mathlib.Core.List.{List, [], ◌∷◌}
use mathlib.Core.Bool.{Bool, true, false}
use mathlib.Core.Path.{◌≡◌, ◌∙◌, ap, sym}
use Prim.Native.Nat.{ℕ, ◌+◌, ◌*◌, ◌/◌, ◌%◌, ◌<◌, ◌≤◌}
use native.Mathlib.Omega.{arith}
use lib.Dec.{eqb, ltb, eqb→eq}
use lib.ListN.{get_or}
use borrow.Author.Tests.{lt-ltb, le-ltb}
use Rattle.settings.specs.Settings.{weight_in, weight_of}
use Rattle.settings.proofs.Weights.{weight_most}
use Rattle.settings.proofs.Table.{at}
use Rattle.settings.proofs.weight.Goals as goal

-- the table, a line for each setting
weights : List ℕ
weights =
    10 ∷ 10 ∷ 1000 ∷ 1000 ∷ 1000 ∷ 10 ∷ 10 ∷ 1000 ∷ 1000 ∷ 1000 ∷
    12 ∷ 12 ∷ 1000 ∷ 1000 ∷ 1000 ∷ 10 ∷ 10 ∷ 1000 ∷ 1000 ∷ 1000 ∷
    8 ∷ 8 ∷ 1000 ∷ 1000 ∷ 1000 ∷ 10 ∷ 10 ∷ 1000 ∷ 1000 ∷ 1000 ∷
    10 ∷ 10 ∷ 1300 ∷ 1000 ∷ 1000 ∷ 10 ∷ 10 ∷ 1300 ∷ 1000 ∷ 1000 ∷
    10 ∷ 10 ∷ 700 ∷ 1000 ∷ 1000 ∷ 10 ∷ 10 ∷ 700 ∷ 1000 ∷ 1000 ∷
    10 ∷ 10 ∷ 1000 ∷ 1200 ∷ 1000 ∷ 10 ∷ 10 ∷ 1000 ∷ 1000 ∷ 1000 ∷
    10 ∷ 10 ∷ 1000 ∷ 800 ∷ 1000 ∷ 10 ∷ 10 ∷ 1000 ∷ 1000 ∷ 1000 ∷
    10 ∷ 10 ∷ 1000 ∷ 1000 ∷ 1050 ∷ 10 ∷ 10 ∷ 1000 ∷ 1000 ∷ 1000 ∷ []

-- the entry at the place n is the weight of its setting, years and kind
right : ℕ → ℕ → Bool
right n x = eqb x (weight_in (ltb (n % 10) 5) (n / 10) (n % 5))

-- the rule at the entry j of a setting
entry : (early : Bool) (setting kind n j : ℕ) → n ≡ 10 * setting + j → j < 10 → setting < 8 → ltb j 5 ≡ early
    → n % 5 ≡ kind
    → get_or weights n 0 ≡ weight_in early setting kind
unfolding weights right
entry early setting kind n j e hj hs he hk =
    let hn : n % 10 ≡ j = omega arith in
    let hd : n / 10 ≡ setting = omega arith in
    eqb→eq (get_or weights n 0) (weight_in (ltb (n % 10) 5) (n / 10) (n % 5)) (at right weights tt n (omega arith))
    ∙ cc

bounded : (setting kind k : ℕ) {r : ℕ} → r ≡ weight_of setting kind k → (r ≡ weight_of setting kind k) × (r ≤ 1300)
bounded setting kind k e = (e, omega (arith, weight_most setting kind k))

pub returns-then-k-lt5 : goal.returns-then-k-lt5
unfolding weights weight_of
returns-then-k-lt5 c =
    let a = c.args in
    let kind = c.number-kind.result in
    rw (← c.number-kind.ensures.0)
    (bounded a.setting kind a.k
    (entry true a.setting kind (10 * a.setting + kind) kind (omega arith) (omega arith) (omega arith)
    (lt-ltb kind 5 (omega arith)) (omega arith)
    ∙ ap (λ (t : Bool). weight_in t a.setting kind) (sym (lt-ltb a.k 5 c.if-k-lt5.true))))

pub returns-else-k-lt5 : goal.returns-else-k-lt5
unfolding weights weight_of
returns-else-k-lt5 c =
    let a = c.args in
    let kind = c.number-kind.result in
    rw (← c.number-kind.ensures.0)
    (bounded a.setting kind a.k
    (entry false a.setting kind (10 * a.setting + 5 + kind) (5 + kind) (omega arith) (omega arith)
    (omega arith)
    (le-ltb (5 + kind) 5 (omega arith)) (omega arith)
    ∙ ap (λ (t : Bool). weight_in t a.setting kind) (sym (le-ltb a.k 5 c.if-k-lt5.false))))
