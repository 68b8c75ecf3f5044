-- `risk_scaling::factors` meets its contract: four scaled factors in a row. Assumes nothing.
use native.Mathlib.Omega.{arith}
use Rattle.risk_scaling.specs.Factors.{factors_of}
use Rattle.signed.proofs.Sizes.{signed_roundtrip}
use Rattle.risk_model.proofs.Rules.{coefficients_most}
use Rattle.risk_scaling.proofs.factors.Goals as goal

pub scaled-mortality-requires : goal.scaled-mortality-requires
scaled-mortality-requires c =
    (coefficients_most c.args.coefficients.now c.requires 0 (omega arith), omega arith, omega arith)

pub scaled-lapse-requires : goal.scaled-lapse-requires
scaled-lapse-requires c =
    (coefficients_most c.args.coefficients.now c.requires 1 (omega arith), omega arith, omega arith)

pub scaled-costs-requires : goal.scaled-costs-requires
scaled-costs-requires c =
    (coefficients_most c.args.coefficients.now c.requires 2 (omega arith), omega arith, omega arith)

pub scaled-claims-requires : goal.scaled-claims-requires
scaled-claims-requires c =
    (coefficients_most c.args.coefficients.now c.requires 3 (omega arith), omega arith, omega arith)

pub returns : goal.returns
unfolding factors_of
returns c =
    rw (
      signed_roundtrip c.scaled-mortality.result.number (omega (arith, c.scaled-mortality.type_inv)),
      signed_roundtrip c.scaled-lapse.result.number (omega (arith, c.scaled-lapse.type_inv)),
      signed_roundtrip c.scaled-costs.result.number (omega (arith, c.scaled-costs.type_inv)),
      signed_roundtrip c.scaled-claims.result.number (omega (arith, c.scaled-claims.type_inv)),
      c.scaled-mortality.ensures,
      c.at.ensures,
      c.scaled-lapse.ensures,
      c.at-2.ensures,
      c.scaled-costs.ensures,
      c.at-3.ensures,
      c.scaled-claims.ensures,
      c.at-4.ensures,
    )
