-- `Group::amounts_in` meets its contract: the group's table has the setting's projection. Assumes nothing.
use Rattle.settings_columns.proofs.Held.{projection_low}
use Rattle.totals_group.proofs.Group.amounts_in.Goals as goal

pub amounts_in-requires : goal.amounts_in-requires
amounts_in-requires c =
    let a = c.requires in
    let g = c.args.self.table in
    record {
      table_in = (g.low, g.high, a.0, a.1, g.valid, g.table _ (projection_low _));
      curve_of = c.args.self.curve_is;
    }

pub returns : goal.returns
returns c = c.amounts_in.ensures
