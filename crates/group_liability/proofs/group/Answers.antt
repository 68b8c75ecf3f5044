-- `group_liability::group` meets its contract: where a refusal applies it is given and nothing is touched; else reply
-- and table are those of `value_group`.
-- What is promised of both follows from these two equations. Assumes nothing.
use mathlib.Core.Logic.{inr}
use mathlib.Core.Path.{refl, sym, ap, ◌∙◌}
use Prim.Native.Nat.{ℕ}
use mir.Syntax.{w64}
use mir.ValLaws.{to_z-of_z}
use native.Mathlib.Omega.{arith}
use Rattle.valuation.specs.Replies.{group_liability, group_reply, group_table}
use Rattle.std.specs.Prelude.{Some, Ok}
use Rattle.verdict.proofs.Verdicts.{handed_on}
use Rattle.valuation.proofs.Accepted.{group_setting, group_table_lem, group_range, group_valid}
use Rattle.settings_columns.proofs.Held.{projection_low}
use Rattle.valuation.proofs.GroupContract.{length_years, promised}
use Rattle.group_liability.proofs.group.Goals as goal

pub returns-in_err-check_group : goal.returns-in_err-check_group
unfolding group_reply group_table
returns-in_err-check_group c =
    let e = sym c.check_group.ensures ∙ c.in_err-check_group.was in
    promised _ _ _ _ _ _ (handed_on _ c.from_residual.ensures ∙ rw e) (rw e)

pub new-s-requires : goal.new-s-requires
new-s-requires c =
    let e = sym c.check_group.ensures ∙ c.in_ok-check_group.was in
    omega (arith, group_setting _ _ _ _ _ e)

pub shifts_of-w-requires : goal.shifts_of-w-requires
shifts_of-w-requires c =
    let e = sym c.check_group.ensures ∙ c.in_ok-check_group.was in
    group_valid _ _ _ _ _ e

pub group_sums-n-requires : goal.group_sums-n-requires
group_sums-n-requires c =
    let e = sym c.check_group.ensures ∙ c.in_ok-check_group.was in
    let s = c.new-s.result in (
      c.shifts_of-w.ensures,
      group_valid _ _ _ _ _ e,
      (group_range _ _ _ _ _ e).0,
      (group_range _ _ _ _ _ e).1,
      omega (arith, s.projection_is, projection_low s.number),
      refl,
    )

pub value_group-liability-requires : goal.value_group-liability-requires
value_group-liability-requires c =
    let e = sym c.check_group.ensures ∙ c.in_ok-check_group.was in
    let s = c.new-s.result in (
      (group_range _ _ _ _ _ e).0,
      (group_range _ _ _ _ _ e).1,
      group_table_lem _ _ _ _ _ e,
      group_valid _ _ _ _ _ e,
      c.group_sums-n.ensures.table _ (projection_low _) (inr (ap Some s.projection_is)),
    )

pub returns : goal.returns
unfolding group_reply group_table
returns c =
    let a = c.args in
    let b = a.book.now in
    let setting = a.setting in
    let g = a.group in
    let e = sym c.check_group.ensures ∙ c.in_ok-check_group.was in
    let s = c.value_group-liability in
    let own = c.new-s.ensures in
    let l = to_z-of_z w64 s.result (record { sfits = s.type_inv }) ∙ rw own at s.ensures.liability_is in
    let n = c.group_sums-n.ensures.n_is in
    promised _ _ _ _ _ _ (rw (e, l) (ap (λ (m : ℕ). Ok (record { liability = group_liability b setting g; n = m })) n))
    (rw (e, length_years _ _ 50) (rw own at s.ensures.table_is))
