-- `record_view::locate` meets its contract: the verdict is that of `check_record`, and the record starts where
-- `record_at` says. Assumes nothing.
use mathlib.Core.Path.{sym, ◌∙◌}
use native.Mathlib.Omega.{arith}
use Rattle.record_view.specs.RecordView.{located_in}
use Rattle.record_view.proofs.Found.{record_valid, record_number}
use Rattle.record_view.proofs.locate.Goals as goal

pub record_at-requires : goal.record_at-requires
record_at-requires c =
    let e = sym c.check_record.ensures ∙ c.in-Ok.is in
    omega (arith, record_number _ _ _ e, (record_valid _ _ _ e).header.few)

pub returns-in-Err : goal.returns-in-Err
unfolding located_in
returns-in-Err c = rw (sym c.check_record.ensures ∙ c.in-Err.is)

pub returns-in-Ok : goal.returns-in-Ok
unfolding located_in
returns-in-Ok c =
    rw
    (sym c.check_record.ensures ∙ c.in-Ok.is, c.record_at.ensures)
