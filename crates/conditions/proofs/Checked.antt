-- What `all` answers over the numbers below n, and over a slice, where its closure answers as a test does. Assumes
-- nothing.
use mathlib.Core.Path.{◌≡◌, refl, ◌∙◌}
use mathlib.Core.Bool.{Bool}
use mathlib.Core.List.{List}
use Prim.Native.Nat.{ℕ, ◌-◌}
use native.Mathlib.Omega.{arith}
use lib.ListN.{length, get_or}
use denote.Param.Members.{Mut}
use denote.Ref.{Bor}
use Rattle.std.specs.declared.ops.Range.{Range}
use Rattle.std.specs.declared.slice.Iter.{Iter}
use Rattle.std.specs.Fn.{Called}
use Rattle.std.specs.Iterator.{ChecksAll}
use Rattle.std.specs.Slice.Iter.{iter_rest}
use Rattle.std.proofs.iter.Yields.{nat_range_steps, fronts}
use Rattle.std.proofs.lemmas.Iterator.{YieldsList-from_range, YieldsList-from_slice}
use Rattle.std.proofs.lemmas.Iterator.Search.{all_from_yields_List}
use Rattle.conditions.specs.Every.{every}
use Rattle.conditions.proofs.Every.{range_every, all_every}

pub range_checked : {F : Type 0} {g : Mut F (ℕ × Unit {0}) Bool} {f : F} {u : Range ℕ} (test : ℕ → Bool) (n : ℕ)
    → (r : Bool) → ChecksAll nat_range_steps g (record { start = 0; end = n }) f r u
    → ((k : ℕ) (b : Bool) (q : F) → Called g f (k, tt) b q → (q ≡ f) × (b ≡ test k)) → r ≡ every test n
range_checked {f = f} {u = u} test n r checks calls =
    let from_start : n - 0 ≡ n = omega arith in
    all_from_yields_List test u f r checks (YieldsList-from_range 0 n n refl from_start) calls ∙ range_every test n

-- n items; d is what the test of a number reads past the end
pub slice_checked : {A F : Type 0} {g : Mut F (Bor A × Unit {0}) Bool} {f : F} {s u : Iter A} (test : A → Bool)
    (xs : List A) (d : A) (n : ℕ) → length xs ≡ n → iter_rest s ≡ xs → (r : Bool) → ChecksAll fronts g s f r u
    → ((x : Bor A) (b : Bool) (q : F) → Called g f (x, tt) b q → (q ≡ f) × (b ≡ test x.now))
    → r ≡ every (λ (k : ℕ). test (get_or xs k d)) n
slice_checked {f = f} {u = u} test xs d n long rest r checks calls =
    all_from_yields_List test u f r checks (YieldsList-from_slice xs rest) calls ∙ all_every test xs d n long
