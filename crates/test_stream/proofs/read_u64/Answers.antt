-- `test_stream::read_u64` meets its contract: two numbers of four bytes. Assumes nothing.
use Rattle.le_bytes.specs.Bytes.{read_u64}
use borrow.Author.Rules.{rules}
use Rattle.test_stream.proofs.read_u64.Goals as goal

pub returns : goal.returns
unfolding read_u64
returns c = search rules
