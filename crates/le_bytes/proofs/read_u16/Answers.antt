-- `le_bytes::read_u16` meets its contract: two bytes. Assumes nothing.
use Rattle.le_bytes.specs.Bytes.{read_u16}
use borrow.Author.Rules.{rules}
use Rattle.le_bytes.proofs.read_u16.Goals as goal

pub returns : goal.returns
unfolding read_u16
returns c = search rules
