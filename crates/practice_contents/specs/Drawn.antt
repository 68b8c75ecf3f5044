-- Practice books (W-214): the book of values and lists that are drawn.
use Rattle.std.specs.Prelude.{ℕ, ◌+◌, ◌*◌, ◌%◌, List, ℤ, pos, ◌-ℤ◌, replicate}
use Rattle.book.specs.Layout.{most_records, most_rate, curve_lift, curve_span, most_count, most_amount}
use Rattle.book_contents.specs.declared.Values.{Values}
use Rattle.book_contents.specs.Contents.{Contents, given}
use Rattle.book_contents.specs.Written.{book_of}
use Rattle.generator.specs.declared.GeneratorState.{GeneratorState}
use Rattle.generator.specs.Draws.{draw_at, seeded}
use Rattle.lists.specs.Each.{each}

-- A field out of a draw is the remainder by one more than its span, plus its lowest value: 0, and of a curve rate
-- curve_lift below 0.
unfoldable pub drawn_number : ℕ → ℕ → ℕ
drawn_number span draw = draw % (span + 1)

unfoldable pub drawn_rate : ℕ → ℤ
drawn_rate draw = pos (drawn_number curve_span draw) -ℤ pos curve_lift

-- The draws go through the book in its order: 5 cost rates, 49 curve rates, 242 of mortality, and then four for each
-- record, its count, lapse, premium and claims. So the first of each kind is this one, counted from 0.
abbrev pub curve_draw : ℕ
curve_draw = 5

abbrev pub mortality_draw : ℕ
mortality_draw = 54

-- the first draw of record i, from 0
abbrev pub record_draw : ℕ → ℕ
record_draw i = 296 + 4 * i

-- edition 1, so no percentages; SST year 2021; the tables; every chain from class 0
unfoldable pub drawn_values : GeneratorState → Values
drawn_values w =
    record {
      edition = 1;
      men = 0;
      women = 0;
      year = 2021;
      cost = each (λ (j : ℕ). drawn_number most_rate (draw_at w j)) 5;
      curve = each (λ (j : ℕ). drawn_rate (draw_at w (curve_draw + j))) 49;
      mortality = each (λ (j : ℕ). drawn_number most_rate (draw_at w (mortality_draw + j))) 242;
      first = replicate 14 0;
    }

-- the values and the four lists, those of 14 chains of 121 records
unfoldable pub drawn_contents : GeneratorState → Contents
drawn_contents w =
    given (drawn_values w)
    (each (λ (i : ℕ). drawn_number most_count (draw_at w (record_draw i))) most_records)
    (each (λ (i : ℕ). drawn_number most_rate (draw_at w (record_draw i + 1))) most_records)
    (each (λ (i : ℕ). drawn_number most_amount (draw_at w (record_draw i + 2))) most_records)
    (each (λ (i : ℕ). drawn_number most_amount (draw_at w (record_draw i + 3))) most_records)

-- the practice book of a start number, and how long each is
abbrev pub practice_contents : ℕ → Contents
practice_contents start = drawn_contents (seeded start)

abbrev pub practice_book : ℕ → List ℕ
practice_book start = book_of (practice_contents start)

abbrev pub practice_size : ℕ
practice_size = 41876
