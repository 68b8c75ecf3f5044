-- `Signed::at` meets its contract: the number that was read. Assumes nothing.
use borrow.Author.Rules.{rules}
use Rattle.signed.specs.Signs.{number_at}
use Rattle.signed.proofs.Sizes.{signed_roundtrip}
use Rattle.signed.proofs.Signed.at.Goals as goal

pub returns : goal.returns
unfolding number_at
returns g c = search (rules, signed_roundtrip)
