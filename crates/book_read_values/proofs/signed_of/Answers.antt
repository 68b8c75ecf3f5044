-- `book_read_values::signed_of` meets its contract: 2 ^ 32 is taken off from 2 ^ 31 on. Assumes nothing.
use mathlib.Core.Path.{◌≡◌, ap, ◌∙◌}
use mathlib.Core.Logic.{⊎_elim}
use Prim.Native.Nat.{ℕ, suc, ◌-◌, ◌≤◌, ◌<◌}
use Rattle.std.proofs.lemmas.Bool.{cases_lt}
use Rattle.std.proofs.lemmas.Int.{ints}
use native.Mathlib.Omega.{arith}
use borrow.Author.Tests.{le-leb, lt-leb, lt-ltb, le-ltb}
use lib.IntN.{negsuc}
use mir.Syntax.{w32}
use mir.Val.{to_z}
use mir.ValLaws.{to_z-of_z}
use Rattle.book_contents.specs.Reading.{signed_of}
use Rattle.book_read_values.proofs.signed_of.Goals as goal

-- the definition is that of 32 bits with a sign
signed_is : (u : ℕ) → u < 4294967296 → to_z w32 u ≡ signed_of u
unfolding signed_of
signed_is u small =
    ⊎_elim
    (λ (h : u < 2147483648). rw (le-leb u 2147483647 (omega arith), lt-ltb u 2147483648 h))
    (λ (h : 2147483648 ≤ u).
    let same : 4294967296 - suc u ≡ 4294967295 - u = omega arith in
    rw (lt-leb u 2147483647 (omega arith), le-ltb u 2147483648 h) (ap negsuc same))
    (cases_lt u 2147483648)

pub returns : goal.returns
returns c =
    let held : c.from.result ≡ signed_of c.args.u =
    c.from.ensures ∙ to_z-of_z w32 c.cast_signed.result (record { sfits = c.cast_signed.type_inv })
    ∙ c.cast_signed.ensures ∙ signed_is c.args.u c.requires in
    omega (arith, ints, held)
