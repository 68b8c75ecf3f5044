-- `age_basis::convert` meets its contract: where a refusal applies it is given and nothing is touched; else the
-- converted book is written. Assumes nothing.
use mathlib.Core.Path.{refl, sym, ◌∙◌}
use Rattle.verdict.proofs.Verdicts.{handed_on}
use Rattle.book.proofs.Exact.{accepted_rules}
use Rattle.age_basis_definitions.proofs.ConvertContract.{convert_fits, convert_accepted, refused, delivered}
use Rattle.age_basis.proofs.convert.Goals as goal

pub returns-in_err-n : goal.returns-in_err-n
returns-in_err-n c =
    rw (handed_on _ c.from_residual.ensures)
    (refused _ _ _ (sym c.in_err-n.was ∙ c.check_convert.ensures) _ refl)

pub write_converted-requires : goal.write_converted-requires
write_converted-requires c =
    let e = sym c.check_convert.ensures ∙ c.in_ok-n.was in
    (accepted_rules 2 _ _ (convert_accepted _ _ _ e), convert_fits _ _ _ e)

pub returns : goal.returns
returns c =
    delivered _ _ _ (sym c.in_ok-n.was ∙ c.check_convert.ensures) _ _ refl
    c.write_converted.ensures
