use mathlib.Core.Path.{sym, ap, ◌∙◌}
use Prim.Native.Nat.{◌≤◌}
use native.Mathlib.Omega.{arith}
use Rattle.verdict.specs.Verdicts.{count_of}
use Rattle.verdict.proofs.Verdicts.{all_start, all_good, all_bad, all_done, handed_on}
use Rattle.book.specs.Check.{check_chains}
use Rattle.book.proofs.Chains.{chain_count}
use Rattle.book_check.proofs.check_chains.Goals as goal
use Rattle.book_check.proofs.check_chains.Goals.{In_ok-n}

-- a chain has at most one record for each class
few : (c : In_ok-n) → c.in_ok-n.field-0 ≤ 122
few c =
    omega (
      arith,
      chain_count c.args.b.now c.args.last c.loop-k.k,
      ap count_of
          (sym c.check_chain.ensures ∙ c.in_ok-n.was),
    )

pub loop-k-init : goal.loop-k-init
unfolding check_chains
loop-k-init c = (omega arith, all_start _ 14)

pub returns-in_err-n : goal.returns-in_err-n
returns-in_err-n c =
    handed_on _ c.from_residual.ensures ∙ sym (c.loop-k.invariant.1 ∙ all_bad _ _ _ _ _ (omega arith)
    (sym c.check_chain.ensures ∙ c.in_err-n.was))

pub overflow_add-n : goal.overflow_add-n
overflow_add-n c = omega (arith, few c)

pub loop-k-preserved : goal.loop-k-preserved
loop-k-preserved c = (
  omega (arith, few c),
  c.loop-k.invariant.1 ∙ all_good _ _ _ _ _ _ (omega arith)
      (sym c.check_chain.ensures ∙ c.in_ok-n.was),
)

pub returns : goal.returns
returns c = sym (c.loop-k.invariant.1 ∙ all_done _ _ _ _ (omega arith))
