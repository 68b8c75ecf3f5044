-- `five_projections::project_by` meets its contract, by what is asked for. Assumes nothing.
use mathlib.Core.Path.{sym, ◌∙◌}
use Rattle.cell_projection.proofs.Years.{added_same}
use Rattle.cell_projection.proofs.Single.{chosen_all, chosen_one}
use Rattle.five_projections.proofs.project_by.Goals as goal

pub returns-in_default : goal.returns-in_default
returns-in_default c =
    c.project.ensures.sums ∙ added_same _ _ 500 _ (λ j l. sym (chosen_all _ _ c.in_default.is j))

pub returns : goal.returns
returns c =
    c.project_in.ensures.sums ∙ added_same _ _ 500 _ (λ j l. sym (chosen_one _ _ _ c.in-Some.is j))
