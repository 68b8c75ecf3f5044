-- `book_read::read` meets its contract: what is accepted is read, and nothing is changed where it is refused. Assumes
-- nothing.
use mathlib.Core.Path.{◌≡◌, sym, ◌∙◌}
use native.Mathlib.Omega.{arith}
use Rattle.std.specs.Prelude.{Ok}
use Rattle.book.specs.Layout.{count_offset, lapse_offset, premium_offset, claims_offset}
use Rattle.book_contents.specs.Reading.{OfBytes}
use Rattle.book_contents.specs.CallContracts.{read_verdict}
use Rattle.book_contents.proofs.Projection.{read_counts, read_lapses, read_premiums, read_claims, filled}
use Rattle.book_contents.proofs.WriteReadContracts.{read_promised}
use Rattle.book_read.proofs.read.Goals as goal
use Rattle.book_read.proofs.read.Goals.{After-shared_slice_known-1, In-Ok}

-- the verdict of an accepted reading
read_is : (c : In-Ok) → let a = c.args in
    read_verdict a.book.now a.counts.now a.lapses.now a.premiums.now a.claims.now ≡ Ok
    c.in-Ok.field-0
read_is c = sym c.check_read-v.ensures ∙ c.in-Ok.is

bytes : (c : After-shared_slice_known-1) → OfBytes c.args.book.now
bytes c p = omega (arith, c.shared_slice_known-1.given p)

pub returns-in-Ok : goal.returns-in-Ok
returns-in-Ok c =
    let a = c.args in
    let e = read_is (goal.at.returns-in-Ok c).In-Ok in
    read_promised a.book.now a.counts.now a.lapses.now a.premiums.now a.claims.now _ _ _ _ _
    (bytes (goal.at.returns-in-Ok c).After-shared_slice_known-1)
    (rw (e, c.values_of-values.ensures))
    (rw e (filled a.book.now count_offset _ _ (read_counts _ _ _ _ _ _ e) c.fill_list.ensures))
    (rw e (filled a.book.now lapse_offset _ _ (read_lapses _ _ _ _ _ _ e) c.fill_list-in-Ok.ensures))
    (rw e (filled a.book.now premium_offset _ _ (read_premiums _ _ _ _ _ _ e) c.fill_list-in-Ok-2.ensures))
    (rw e (filled a.book.now claims_offset _ _ (read_claims _ _ _ _ _ _ e) c.fill_list-in-Ok-3.ensures))

pub returns-in-Err : goal.returns-in-Err
returns-in-Err c =
    let e = sym c.check_read-v.ensures ∙ c.in-Err.is in
    read_promised _ _ _ _ _ _ _ _ _ _ (bytes (goal.at.returns-in-Err c).After-shared_slice_known-1)
    (c.refused.ensures ∙ rw e) (rw e) (rw e) (rw e) (rw e)
