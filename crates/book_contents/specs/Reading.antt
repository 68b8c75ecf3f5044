-- The contents of a book: its values and, along its chains, its lists. Records that no chain links are left out.
use Rattle.std.specs.Prelude.{cond, ℕ, ◌+◌, ◌-◌, ◌*◌, ◌<◌, ◌≡◌, List, leb, eqb, ℤ, pos, negsuc, replicate, Ok}
use Rattle.le_bytes.specs.Bytes.{byte_at, read_u32}
use Rattle.verdict.specs.Verdicts.{need, ◌and_then◌, count_of, Verdict}
use Rattle.book.specs.Layout.{edition, percent_at, sst_year, records, chains, head_of, class_of, next_of, field_of}
use Rattle.book.specs.Layout.{link_at}
use Rattle.book.specs.Layout.{cost_place, curve_place, mortality_place, count_offset, lapse_offset, premium_offset}
use Rattle.book.specs.Layout.{claims_offset}
use Rattle.book.specs.Check.{check_book}
use Rattle.buffer.specs.Text.{joined}
use Rattle.lists.specs.Each.{each}
use Rattle.book_contents.specs.declared.Values.{Values}
use Rattle.book_contents.specs.Contents.{Contents, no_class, records_before}

-- the signed number that 32 bits hold, in two's complement
unfoldable pub signed_of : ℕ → ℤ
signed_of u = cond (leb u 2147483647) (pos u) (negsuc (4294967295 - u))

-- chain k's first class, 121 where it is empty; and those of all chains
unfoldable pub first_in : List ℕ → ℕ → ℕ
first_in b k = cond (eqb (head_of b k) 0) no_class (class_of b (head_of b k))

unfoldable pub firsts_of : List ℕ → List ℕ
firsts_of b = each (first_in b) chains

-- the values: edition, mortality percentages (zero bytes in edition 1), SST year, cost rates, curve, mortality, first
-- classes
unfoldable pub values_of : List ℕ → Values
values_of b =
    record {
      edition = edition b;
      men = percent_at b 0;
      women = percent_at b 1;
      year = sst_year b;
      cost = each (λ (j : ℕ). read_u32 b (cost_place + 4 * j)) 5;
      curve = each (λ (j : ℕ). signed_of (read_u32 b (curve_place + 4 * j))) 49;
      mortality = each (λ (j : ℕ). read_u32 b (mortality_place + 4 * j)) 242;
      first = firsts_of b;
    }

-- the list of one field along chain k, and the lists of all chains end to end
unfoldable pub list_in : List ℕ → ℕ → ℕ → List ℕ
list_in b offset k = each (λ (j : ℕ). field_of b (link_at b k j) offset) (no_class - first_in b k)

unfoldable pub field_list : List ℕ → ℕ → List ℕ
field_list b offset = joined (list_in b offset) chains

unfoldable pub contents_of : List ℕ → Contents
contents_of b =
    record {
      values = values_of b;
      counts = field_list b count_offset;
      lapses = field_list b lapse_offset;
      premiums = field_list b premium_offset;
      claims = field_list b claims_offset;
    }

-- 22: a buffer of so many numbers takes the lists of one kind
abbrev pub takes : List ℕ → ℕ → Verdict
takes b capacity = need (leb (records_before (firsts_of b) chains) capacity) 22 0

-- the book's refusals, then 22 for each of the four buffers
unfoldable pub check_read : List ℕ → ℕ → ℕ → ℕ → ℕ → Verdict
check_read b counts lapses premiums claims =
    check_book 1 b and_then takes b counts and_then takes b lapses and_then takes b premiums and_then takes b claims

-- the book is accepted: what the readers inside ask of their callers
abbrev pub Sound : List ℕ → Type 0
Sound b = check_book 1 b ≡ Ok (count_of (check_book 1 b))

-- values of zeros, beside a refusal
abbrev pub no_values : Values
no_values =
    record {
      edition = 0;
      men = 0;
      women = 0;
      year = 0;
      cost = replicate 5 0;
      curve = replicate 49 (pos 0);
      mortality = replicate 242 0;
      first = replicate 14 0;
    }

-- a list of bytes
abbrev pub OfBytes : List ℕ → Type 0
OfBytes b = (p : ℕ) → byte_at b p < 256

-- The records of a book all are linked and stand in chain order: the order in which books are written.
pub record InOrder (b : List ℕ) : Type 0 where
  -- a head, where it is not 0, is one higher than the number of records of the chains before
  pub heads : (k : ℕ) → k < chains → 0 < head_of b k → head_of b k ≡ records_before (firsts_of b) k + 1
  -- the next of a linked record, where it is not 0, is one higher than that record
  pub nexts : (k j : ℕ) → k < chains → 0 < link_at b k j → 0 < next_of b (link_at b k j)
      → next_of b (link_at b k j) ≡ link_at b k j + 1
  -- N is the number of records of all chains
  pub all : records b ≡ records_before (firsts_of b) chains
