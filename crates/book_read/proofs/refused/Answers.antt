-- `book_read::refused` meets its contract: zeros beside the refusal. Assumes nothing.
use mathlib.Core.Path.{refl}
use Rattle.book_read.proofs.refused.Goals as goal

pub returns : goal.returns
returns c = refl
