-- `listing_text::put_listing` meets its contract. The invariant: the lines of the settings passed are written, each of
-- at most 64 bytes. Assumes nothing.
use Prim.Native.Nat.{◌≤◌, ◌*◌}
use Rattle.buffer.specs.Text.{Wrote, joined}
use Rattle.listing_text.specs.Lines.{line_of}
use Rattle.listing_text.proofs.put_listing.Given as goal

abbrev pub invariant-loop-setting : goal.invariant-loop-setting
invariant-loop-setting l =
    Wrote l.initial.out 0 (joined (line_of l.fn.totals l.n) l.setting) l.out l.at × (l.at ≤ 64 * l.setting)
