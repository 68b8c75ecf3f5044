-- `book_read_values::fields_of` meets its contract: each field. Assumes nothing.
use Prim.Native.Nat.{ℕ, ◌+◌, ◌*◌}
use borrow.Author.Rules.{rules}
use Rattle.le_bytes.specs.Bytes.{read_u32}
use Rattle.book_read_values.proofs.MadeByIndex.{made_each}
use Rattle.book_read_values.proofs.fields_of.Goals as goal

pub returns : goal.returns
returns g c =
    made_each _ _ (λ (j : ℕ). read_u32 c.args.book.now (c.args.at + 4 * j)) _ g.row.N
    (λ i y q few called. search rules) c.from_fn.ensures.items
