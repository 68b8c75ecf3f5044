-- `cost_rate_limits::all_at_most` meets its contract: a test of each of the first figures is one of each index.
-- Assumes nothing.
use mathlib.Core.Path.{◌≡◌, refl, ◌∙◌}
use mathlib.Core.Bool.{Bool}
use mathlib.Core.List.{List}
use Prim.Native.Nat.{ℕ, zero, suc, ◌≤◌}
use native.Mathlib.Omega.{arith}
use lib.Dec.{leb}
use lib.ListN.{get_or, take}
use Rattle.std.proofs.Common.{rules, tests}
use Rattle.std.proofs.lemmas.List.{get_or-take, length-take}
use Rattle.conditions.specs.Every.{every}
use Rattle.conditions.proofs.Checked.{slice_checked}
use Rattle.cost_rate_limits.specs.Limits.{all_at_most}
use Rattle.cost_rate_limits.proofs.all_at_most.Goals as goal

-- the first n figures, each of the first m of them tested
of_first : (test : ℕ → Bool) (xs : List ℕ) (n m : ℕ) → m ≤ n
    → every (λ (k : ℕ). test (get_or (take n xs) k 0)) m ≡ every (λ (k : ℕ). test (get_or xs k 0)) m
unfolding every
of_first test xs n zero h = refl
of_first test xs n (suc m) h = rw (of_first test xs n m (omega arith), get_or-take n xs m 0 (omega arith))

pub returns : goal.returns
unfolding all_at_most
returns c =
    let test : ℕ → Bool = λ x. leb x c.args.limit in
    let n = c.args.count in
    slice_checked test (take n c.args.figures.now) 0 n (omega (arith, length-take n c.args.figures.now)) (cc) _
    c.all.ensures.ran (λ x b q k. search (rules, tests))
    ∙ of_first test c.args.figures.now n n (omega arith)
