-- The text of a listing in bytes: eight lines, one a setting, from eight totals and n.
use Rattle.std.specs.Prelude.{List, ◌++◌, ℕ, ℤ, pos, get_or}
use Rattle.buffer.specs.Text.{ended, signed_ended, joined}

-- a setting's line: the setting, its total, n; a blank (32) after the first two, the line's end (10) after n
unfoldable pub listing_line : ℕ → ℤ → ℕ → List ℕ
listing_line setting total n = ended setting 32 ++ signed_ended total 32 ++ ended n 10

-- the line of a setting, its total taken from the eight
unfoldable pub line_of : List ℤ → ℕ → ℕ → List ℕ
line_of totals n setting = listing_line setting (get_or totals setting (pos 0)) n

-- the lines of settings 0 to 7, in this order
unfoldable pub listing_text : List ℤ → ℕ → List ℕ
listing_text totals n = joined (line_of totals n) 8
