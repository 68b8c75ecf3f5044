-- `rate_row::put_row` meets its contract: three columns of what lives on, three of what stays, premium and claims.
-- Assumes nothing.
use Prim.Native.Nat.{ℕ}
use mathlib.Core.List.{List}
use native.Mathlib.Omega.{arith}
use Rattle.book.specs.Layout.{chain_sex}
use Rattle.rate_table.specs.Rows.{rate_of}
use Rattle.rate_table.specs.Puts.{Filled}
use Rattle.rate_table.proofs.Puts.{survival_is, persistency_is, filled_none, filled_more, row_filled}
use Rattle.rate_row.proofs.put_row.Goals as goal

pub returns : goal.returns
unfolding rate_of
returns c =
    let x = c.args in
    let b = x.book.now in
    let sex = chain_sex x.link.chain in
    let i = x.link.number in
    let w = c.requires.0 in
    let k = c.requires.2 in
    let premium = c.field_of.ensures.0 in
    let claims = c.field_of-2.ensures.0 in
    let lapse = c.field_of-lapse.ensures.0 in
    let mortality = c.mortality_of-mortality.ensures.0 in
    -- the first n columns of the row, in the table as it is then
    let Has : ℕ → List ℕ → Type 0 = λ n t. Filled (rate_of b sex i) x.rows.now t x.r n in
    let survives = survival_is b sex i x.link.class _ in
    let survival : Has 3 c.put_three.new.rows =
    c.put_three.ensures (rate_of b sex i) x.rows.now
    (survives 0 _ _ c.requires.3 mortality w.base c.of_sex.ensures)
    (survives 1 _ _ c.requires.3 mortality w.mortality_is_up c.of_sex-2.ensures)
    (survives 2 _ _ c.requires.3 mortality w.mortality_is_down c.of_sex-3.ensures)
    (filled_none (rate_of b sex i) x.rows.now x.r) in
    let persists = persistency_is b i _ in
    let persistency : Has 6 c.put_three-2.new.rows =
    c.put_three-2.ensures (rate_of b sex i) x.rows.now (persists 0 _ lapse w.base) (persists 3 _ lapse w.lapse_up)
    (persists 4 _ lapse w.lapse_down) survival in
    row_filled b sex i x.link.chain k _ _ x.r
    (filled_more (rate_of b sex i) _ _ _ x.r 7 _ (omega arith)
    (filled_more (rate_of b sex i) _ _ _ x.r 6 _ (omega arith) persistency c.put.ensures premium
    (omega (arith, premium, k.premium)))
    c.put-2.ensures claims (omega (arith, claims, k.claims)))
