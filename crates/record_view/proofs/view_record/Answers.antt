-- `record_view::view_record` meets its contract: what is located, with the part that stands there, is what the record
-- view shows. Assumes nothing.
use Rattle.record_view.proofs.Found.{shown}
use Rattle.record_view.proofs.view_record.Goals as goal

pub returns : goal.returns
returns c =
    shown c.args.book c.args.number c.locate-found.result c.part-part.result c.locate-found.ensures c.part-part.ensures
