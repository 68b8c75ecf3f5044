-- `book_read_values::curve_of` meets its contract: each rate, with its sign. Assumes nothing.
use Prim.Native.Nat.{ℕ, ◌+◌, ◌*◌}
use borrow.Author.Rules.{rules}
use Rattle.le_bytes.specs.Bytes.{read_u32}
use Rattle.book_contents.specs.Reading.{signed_of}
use Rattle.book_read_values.proofs.MadeByIndex.{made_each}
use Rattle.book_read_values.proofs.curve_of.Goals as goal

pub returns : goal.returns
returns c =
    made_each _ _ (λ (j : ℕ). signed_of (read_u32 c.args.book.now (56 + 4 * j))) _ 49
    (λ i y q few called. search rules) c.from_fn.ensures.items
