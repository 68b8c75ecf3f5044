-- The measure is the number.
use Rattle.buffer.proofs.U64Decimal.+put.Given as goal

abbrev pub decreases-put : goal.decreases-put
decreases-put l = l.self
