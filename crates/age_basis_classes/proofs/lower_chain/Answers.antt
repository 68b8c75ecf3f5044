use native.Mathlib.Omega.{arith}
use Rattle.age_basis_classes.proofs.Lowering.{project_start, project_end, project_ready}
use Rattle.age_basis_classes.proofs.Lowering.{project_more, project_falls}
use Rattle.age_basis_classes.proofs.lower_chain.Goals as goal

pub head_of-i-requires : goal.head_of-i-requires
head_of-i-requires c = (c.requires.1, omega (arith, c.requires.0.header.size))

pub loop-i-init : goal.loop-i-init
loop-i-init c = project_start _ _ _ _ c.head_of-i.ensures.0

pub lower_class-requires : goal.lower_class-requires
lower_class-requires c =
    let x = project_ready _ c.requires.0 _ c.requires.1 _ _ _ c.loop-i.invariant c.loop-i-test.true in
    (x.0, x.1, omega (arith, c.loop-i.invariant.passed.size, c.requires.2))

pub next_of-i-requires : goal.next_of-i-requires
next_of-i-requires c =
    (project_ready _ c.requires.0 _ c.requires.1 _ _ _ c.loop-i.invariant c.loop-i-test.true
    ).0

pub loop-i-smaller : goal.loop-i-smaller
loop-i-smaller c =
    let some = c.loop-i-test.true in
    project_falls _ c.requires.0 _ c.requires.1 _ _ _ c.loop-i.invariant some _ c.next_of-i.ensures.0

pub loop-i-preserved : goal.loop-i-preserved
loop-i-preserved c =
    let some = c.loop-i-test.true in
    project_more _ c.requires.0 _ c.requires.1 _ _ _ c.loop-i.invariant some _ c.next_of-i.ensures.0 _
    c.lower_class.ensures

pub shape_of-out : goal.shape_of-out
shape_of-out c = c.loop-i.invariant.passed.size

pub returns : goal.returns
returns c =
    project_end _ c.requires.0 _ c.requires.1 _ _ _ c.loop-i.invariant c.loop-i-test.false
