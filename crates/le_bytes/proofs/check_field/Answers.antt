-- `le_bytes::check_field` meets its contract: the code raises the number as `raised` does. Assumes nothing.
use Rattle.le_bytes.specs.Fields.{check_field}
use Rattle.le_bytes.proofs.Ranges.{raised_is}
use Rattle.le_bytes.proofs.check_field.Goals as goal

pub returns : goal.returns
unfolding check_field
returns c =
    let v = c.read_u32 in
    rw (c.need.ensures, raised_is _ _ v.ensures.1, v.ensures.0)
