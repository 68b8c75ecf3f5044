-- `book_read_lists::put_entry` meets its contract: one store, or none past the end. Assumes nothing.
use mathlib.Core.Path.{sym, refl, ◌∙◌}
use lib.Seq.{set_out}
use Rattle.book_read_lists.proofs.put_entry.Goals as goal
use Rattle.book_read_lists.proofs.put_entry.Goals.{then-at-list, else-at-list}

pub returns : goal.returns
returns c =
    let a = c.args in
    record {
      bytes = elim c.if-at-list.branch [
        | then-at-list w ↦ w.list-is
        | else-at-list w ↦ w.list-is ∙ sym (set_out a.list.now a.at a.x w.if-at-list.false)
      ];
      place = refl;
    }
