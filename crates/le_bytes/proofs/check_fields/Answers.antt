use mathlib.Core.Path.{sym, ◌∙◌}
use native.Mathlib.Omega.{arith}
use Rattle.std.proofs.lemmas.Result.{err_from_is_err_and}
use Rattle.le_bytes.specs.Fields.{check_field, check_fields}
use Rattle.verdict.proofs.Verdicts.{all_start, all_good, all_bad, all_done, need_zero}
use Rattle.le_bytes.proofs.check_fields.Goals as goal

pub loop-k-init : goal.loop-k-init
unfolding check_fields
loop-k-init c = all_start _ _

pub returns-in_err-check_field : goal.returns-in_err-check_field
returns-in_err-check_field c =
    let p = err_from_is_err_and c.from_residual.result c.from_residual.ensures.1 in
    rw (p.1, p.2) (sym (c.loop-k.invariant ∙ all_bad _ _ _ _ _ (omega arith)
    (sym c.check_field.ensures ∙ c.in_err-check_field.was)))

pub loop-k-preserved : goal.loop-k-preserved
unfolding check_field
loop-k-preserved c =
    c.loop-k.invariant ∙ all_good _ _ _ _ _ 0 (omega arith)
    (need_zero _ _ _ _ (sym c.check_field.ensures ∙ c.in_ok-check_field.was))

pub returns : goal.returns
returns c = sym (c.loop-k.invariant ∙ all_done _ _ _ _ (omega arith))
