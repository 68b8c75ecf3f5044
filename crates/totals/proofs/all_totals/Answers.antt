use mathlib.Core.Logic.{inl}
use mathlib.Core.Path.{◌≡◌, refl}
use Prim.Native.Nat.{◌+◌, ◌-◌}
use native.Mathlib.Omega.{arith}
use Rattle.totals.proofs.SignedTotals.{sums_none, eight}
use Rattle.totals.proofs.all_totals.Goals as goal

pub group_sums-requires : goal.group_sums-requires
group_sums-requires c =
    (c.shifts_of-w.ensures, c.requires, c.loop-group.invariant.0, omega (arith, c.loop-group-test.true), tt, refl)

-- the group's table
pub invariant_of-valued : goal.invariant_of-valued
invariant_of-valued c = record {
  table = record {
    valid = c.requires;
    low = c.loop-group.invariant.0;
    high = omega (arith, c.loop-group-test.true);
    table = λ s h. c.group_sums.ensures.table s h (inl refl);
  };
  curve_is = c.curve_of-curve.ensures;
}

pub add_to-requires : goal.add_to-requires
add_to-requires c = (c.eight_settings-settings.ensures, c.loop-group.invariant.2)

pub loop-group-preserved : goal.loop-group-preserved
loop-group-preserved c =
    let e : c.loop-group.group + 1 - 1 ≡ c.loop-group.group = omega arith in (
      omega arith,
      omega (arith, c.loop-group-test.true),
      rw
          e c.add_to.ensures,
    )

pub returns : goal.returns
returns c =
    let l = c.loop-group in
    let e : l.group - 1 ≡ 5 = omega (arith, l.invariant.1) in
    eight _ _ (rw e at l.invariant.2)

pub curve_of-curve-requires : goal.curve_of-curve-requires
curve_of-curve-requires c = c.requires

pub shifts_of-w-requires : goal.shifts_of-w-requires
shifts_of-w-requires c = c.requires

pub loop-group-init : goal.loop-group-init
loop-group-init c = (omega arith, omega arith, sums_none _)
