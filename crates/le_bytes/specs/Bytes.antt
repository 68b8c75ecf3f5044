-- Numbers in a list of bytes, least byte first. Past the end of the list a byte counts as 0.
use Rattle.std.specs.Prelude.{ℕ, ◌+◌, ◌*◌, ◌/◌, ◌%◌, List, [], ◌∷◌, ◌++◌, get_or}

-- the byte at a place
abbrev pub byte_at : List ℕ → ℕ → ℕ
byte_at b at = get_or b at 0

-- the number of two bytes at a place
unfoldable pub read_u16 : List ℕ → ℕ → ℕ
read_u16 b at = byte_at b at + 256 * byte_at b (at + 1)

-- the number of four bytes at a place
unfoldable pub read_u32 : List ℕ → ℕ → ℕ
read_u32 b at = read_u16 b at + 65536 * read_u16 b (at + 2)

-- the number of eight bytes at a place
unfoldable pub read_u64 : List ℕ → ℕ → ℕ
read_u64 b at = read_u32 b at + 4_294_967_296 * read_u32 b (at + 4)

-- a number in two bytes and in four
unfoldable pub two_bytes : ℕ → List ℕ
two_bytes x = x % 256 ∷ x / 256 % 256 ∷ []

unfoldable pub four_bytes : ℕ → List ℕ
four_bytes x = two_bytes x ++ two_bytes (x / 65536)
