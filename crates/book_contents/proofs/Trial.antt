-- The paper's book of one record, from values and lists: no hypothesis of the theorems is empty. Assumes nothing.
use mathlib.Core.Path.{◌≡◌, refl}
use mathlib.Core.List.{[], ◌∷◌}
use lib.IntN.{pos}
use lib.ListN.{replicate}
use Rattle.lists.specs.Sums.{sum_by}
use Rattle.verdict.specs.Verdicts.{need, first_refusal, join_all}
use Rattle.le_bytes.specs.Fields.{within}
use Rattle.std.specs.Prelude.{Ok}
use Rattle.book.specs.Check.{check_book}
use Rattle.book_contents.specs.Contents.{Contents, given, size_of}
use Rattle.book_contents.specs.Written.{book_of}
use Rattle.book_contents.specs.Limits.{check_most, curve_rate, check_curve, check_lengths, check_given_percents}
use Rattle.book_contents.specs.Limits.{check_edition}
use Rattle.book_contents.specs.Limits.{check_given_tables, check_lists, check_contents, Shaped}
use Rattle.book_contents.specs.Reading.{contents_of, InOrder}
use Rattle.book_contents.specs.CallContracts.{not_zero}
use Rattle.book_contents.proofs.Accepted.{written_accepted}
use Rattle.book_contents.proofs.Back.{read_written}
use Rattle.book_contents.proofs.Ordered.{written_ordered}

-- ten contracts of PG2 men at class 120; PG2's cost rate is a tenth
abbrev one_record : Contents
one_record =
    given
    (record {
      edition = 1;
      men = 0;
      women = 0;
      year = 2021;
      cost = 0 ∷ 100000 ∷ 0 ∷ 0 ∷ 0 ∷ [];
      curve = replicate 49 (pos 0);
      mortality = replicate 242 0;
      first = 121 ∷ 121 ∷ 121 ∷ 121 ∷ 121 ∷ 121 ∷ 120 ∷ 121 ∷ 121 ∷ 121 ∷ 121 ∷ 121 ∷ 121 ∷ 121 ∷ [];
    })
    (10 ∷ []) (0 ∷ []) (100000 ∷ []) (80000 ∷ [])

shaped : Shaped one_record.values
shaped = record { cost = refl; curve = refl; mortality = refl; first = refl }

pub one_record_taken : check_contents one_record 1244 ≡ Ok 0
unfolding check_contents check_lengths check_given_percents check_edition check_given_tables check_lists check_most
    check_curve
    curve_rate
    join_all need first_refusal within size_of sum_by
one_record_taken = refl

pub one_record_accepted : check_book 1 (book_of one_record) ≡ Ok 1
unfolding not_zero sum_by
one_record_accepted = written_accepted one_record 1244 0 one_record_taken

pub one_record_back : contents_of (book_of one_record) ≡ one_record
one_record_back = read_written one_record 1244 0 shaped one_record_taken

pub one_record_in_order : InOrder (book_of one_record)
one_record_in_order = written_ordered one_record 1244 0 shaped one_record_taken
