use mir.Syntax.{w64}
use mir.ValLaws.{to_z-of_z}
use Prim.Native.Nat.{◌<◌}
use borrow.Author.Rules.{rules}
use lib.IntN.{pos}
use lib.ListN.{length, get_or}
use lib.Signed.{mag}
use mathlib.Core.List.{[]}
use mathlib.Core.Path.{◌≡◌}
use native.Mathlib.Omega.{arith}
use Rattle.buffer.specs.Text.{joined}
use Rattle.buffer.proofs.Digits.{nothing, joined_more}
use Rattle.listing_text.specs.Lines.{line_of, listing_text}
use Rattle.listing_text.proofs.put_listing.Goals as goal

pub loop-setting-init : goal.loop-setting-init
unfolding joined
loop-setting-init c = (nothing _ _, omega arith)

pub loop-setting-preserved : goal.loop-setting-preserved
unfolding line_of
loop-setting-preserved c =
    let total = get_or c.args.totals c.loop-setting.setting (pos 0) in
    let fits : mag total < 9223372036854775808 = search rules in
    let line = rw (to_z-of_z w64 total (record { sfits = fits })) at c.put_line-at.ensures.0 in
    (joined_more _ _ [] c.loop-setting.invariant.0 line, omega arith)

pub returns : goal.returns
unfolding listing_text
returns c =
    let eight : length c.args.totals ≡ 8 = search rules in
    let all : c.loop-setting.setting ≡ 8 = omega arith in
    (rw all at c.loop-setting.invariant.0, omega (arith, c.loop-setting.invariant.1))
