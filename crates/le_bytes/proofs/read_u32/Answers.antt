-- `le_bytes::read_u32` meets its contract: two numbers of two bytes. Assumes nothing.
use Rattle.le_bytes.specs.Bytes.{read_u32}
use borrow.Author.Rules.{rules}
use Rattle.le_bytes.proofs.read_u32.Goals as goal

pub returns : goal.returns
unfolding read_u32
returns c = search rules
