-- Of what is known of a product group's table there is one proof at most. Assumes nothing.
use mathlib.Core.List.{List}
use Prim.Native.Nat.{ℕ, zero, suc}
use Rattle.std.proofs.Props.{props}
use Rattle.book.specs.Rules.{RecordRules}
use Rattle.book.specs.Reading.{ChainFrom, ValidBook}
use Rattle.totals_group.specs.Sums.{GroupTable}

record_prop : (b : List ℕ) (last k i : ℕ) → IsProp (RecordRules b last k i)
record_prop b last k i = Prim.hlevel props

chain_prop : (b : List ℕ) (last k left i : ℕ) → IsProp (ChainFrom b last k left i)
unfolding ChainFrom
chain_prop b last k zero i = Prim.hlevel props
chain_prop b last k (suc left) i = Prim.hlevel (props, chain_prop b last k left)

book_prop : (basis : ℕ) (b : List ℕ) → IsProp (ValidBook basis b)
book_prop basis b = Prim.hlevel (props, chain_prop)

pub table_prop : (b : List ℕ) (g : ℕ) (t : List ℕ) → IsProp (GroupTable b g t)
table_prop b g t = Prim.hlevel (props, book_prop)
