-- `in_force_request::record_of` meets its contract. The invariant: what is found from record i on is what is found in
-- the whole chain. The measure is the number of classes above. Assumes nothing.
use mathlib.Core.Path.{◌≡◌}
use Prim.Native.Nat.{◌≤◌}
use Rattle.book.specs.Reading.{ChainFrom}
use Rattle.valuation.specs.Portfolio.{chain_links}
use Rattle.valuation.proofs.Members.{counted}
use Rattle.in_force_request.specs.Request.{of_class}
use Rattle.in_force_request.proofs.record_of.Given as goal

abbrev pub invariant-loop-k : goal.invariant-loop-k
invariant-loop-k l =
    (l.above ≤ l.initial.above) × ChainFrom l.book 120 l.k l.above l.i
    × (of_class l.book l.class (counted l.book l.above l.i) ≡ of_class l.book l.class (chain_links l.book l.k))

abbrev pub decreases-loop-k : goal.decreases-loop-k
decreases-loop-k l = l.above
