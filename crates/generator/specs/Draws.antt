-- Draws out of two words of 64 bits (W-214): a start number and a counter from 0.
use Rattle.std.specs.Prelude.{ℕ, zero, suc, ◌+◌, ◌*◌, ◌/◌, ◌%◌, ◌^◌, bit_xor}
use Rattle.generator.specs.declared.GeneratorState.{GeneratorState}

-- exclusive or with itself shifted left 13, then right 7, then left 17, each time kept to 64 bits
unfoldable pub xorshift : ℕ → ℕ
xorshift x =
    let a = bit_xor x (x * 2 ^ 13 % 2 ^ 64) in
    let b = bit_xor a (a / 2 ^ 7) in
    bit_xor b (b * 2 ^ 17 % 2 ^ 64)

-- both words, one draw on: the counter adds 362,437
unfoldable pub step : GeneratorState → GeneratorState
step w = record { word = xorshift w.word; counter = (w.counter + 362437) % 2 ^ 64 }

-- the draw is the sum of both new words
unfoldable pub draw_of : GeneratorState → ℕ
draw_of w = (w.word + w.counter) % 2 ^ 64

-- both words, n draws on
unfoldable pub state_after : GeneratorState → ℕ → GeneratorState
state_after w zero = w
state_after w (suc n) = step (state_after w n)

-- draw i from these words on, counted from 0
unfoldable pub draw_at : GeneratorState → ℕ → ℕ
draw_at w i = draw_of (state_after w (i + 1))

-- both words before the first draw of a start number
abbrev pub seeded : ℕ → GeneratorState
seeded start = record { word = start; counter = 0 }
