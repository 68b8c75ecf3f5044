-- `test_stream::next_u64` meets its contract: the number is that of the bytes read. Assumes nothing.
use Rattle.std.proofs.Common.{rules}
use Rattle.std.proofs.lemmas.Result.{IfOk-at_ok}
use Rattle.le_bytes.specs.Bytes.{read_u64}
use Rattle.test_stream.proofs.Numbers.{number_read}
use Rattle.test_stream.proofs.next_u64.Goals as goal

pub returns : goal.returns
returns g c =
    number_read (λ x. read_u64 x 0) _ 8 _ c.in_ok-bytes.bytes c.map.result (λ x n q. search rules)
    (IfOk-at_ok _ c.in_ok-bytes.was c.next_array.ensures) c.map.ensures.cases
