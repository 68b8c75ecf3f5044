use mathlib.Core.Path.{◌≡◌}
use native.Mathlib.Omega.{arith}
use Rattle.age_basis_definitions.specs.Conversion.{chain_class_at, linked_class_at}
use Rattle.age_basis_classes.proofs.Lowering.{lowered_none, lowered_more}
use Rattle.age_basis_classes.proofs.lower_chains.Goals as goal

pub loop-k-init : goal.loop-k-init
loop-k-init c = (omega arith, lowered_none _ _ _)

pub lower_chain-requires : goal.lower_chain-requires
lower_chain-requires c =
    (c.requires.0, omega arith, omega (arith, c.loop-k.invariant.1.size, c.requires.1))

pub loop-k-preserved : goal.loop-k-preserved
loop-k-preserved c =
    let book = c.args.book.now in (
      omega arith,
      lowered_more _ (chain_class_at book) c.loop-k.k _ _ _ c.loop-k.invariant.1 c.lower_chain.ensures,
    )

pub shape_of-out : goal.shape_of-out
shape_of-out c = c.loop-k.invariant.1.size

pub returns : goal.returns
unfolding linked_class_at
returns c =
    let l = c.loop-k in
    let all : l.k ≡ 14 = omega arith in
    rw all at l.invariant.1
