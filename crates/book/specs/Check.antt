-- The check of a book, in the order of its refusals: the first that applies is given, with its number and its place.
-- basis is the age basis that the book must have, last its last class, lowest its lowest.
use Rattle.std.specs.Prelude.{ℕ, zero, suc, ◌+◌, ◌-◌, ◌*◌, List, Bool, not, cond, length, leb, eqb, Ok}
use Rattle.le_bytes.specs.Bytes.{byte_at, read_u16}
use Rattle.verdict.specs.Verdicts.{need, ◌and_then◌, plus, join_all, Verdict}
use Rattle.le_bytes.specs.Fields.{within, check_field, check_fields}
use Rattle.book.specs.Layout.{header_size, record_size, most_records, last_class, lowest_class, edition, age_basis}
use Rattle.book.specs.Layout.{sst_year, first_year, last_year, records, spare_bytes, percent_place, percent_at}
use Rattle.book.specs.Layout.{most_percent, chains, chain_code, chain_sex, head_place, head_of, cost_place, curve_place}
use Rattle.book.specs.Layout.{mortality_place, most_rate, curve_lift, curve_span, record_at, class_of, next_of}
use Rattle.book.specs.Layout.{count_offset, lapse_offset, premium_offset, claims_offset, most_count, most_amount}
use Rattle.book.specs.Cells.{holds}

-- 4, of the spare bytes of edition 1
unfoldable pub check_spare : List ℕ → Verdict
check_spare b = need (eqb (spare_bytes b) 0) 4 6

-- 23, of the percentages of edition 2: men, then women
unfoldable pub check_percents : List ℕ → Verdict
check_percents b =
    need (within 1 most_percent (percent_at b 0)) 23 (percent_place 0) and_then
    need (within 1 most_percent (percent_at b 1)) 23 (percent_place 1)

-- bytes 6 and 7, as the edition has them
unfoldable pub check_by_edition : List ℕ → Verdict
check_by_edition b = cond (eqb (edition b) 2) (check_percents b) (check_spare b)

-- 2 neither edition, 3 age basis, 4 year and N, 4 or 23 bytes 6 and 7, 5 the length that N asks for. size is the length
-- of the book that begins with these bytes.
unfoldable pub check_header : ℕ → ℕ → List ℕ → Verdict
check_header basis size b =
    need (within 1 2 (edition b)) 2 0 and_then
    need (eqb (age_basis b) basis) 3 1 and_then
    need (within first_year last_year (sst_year b)) 4 2 and_then
    need (leb (records b) most_records) 4 4 and_then
    check_by_edition b and_then
    need (eqb size (header_size + record_size * records b)) 5 size

-- 6 the five cost rates, 7 the curve's 49 rates, 8 the 242 of mortality
unfoldable pub check_tables : List ℕ → Verdict
check_tables b =
    check_fields b 6 0 most_rate cost_place 5 and_then
    check_fields b 7 curve_lift curve_span curve_place 49 and_then
    check_fields b 8 0 most_rate mortality_place 242

-- 10: the record that starts at a place has chain k's code and sex, and zero in its spare bytes
unfoldable pub check_owner : List ℕ → ℕ → ℕ → Verdict
check_owner b k at =
    need (eqb (byte_at b at) (chain_code k)) 10 at and_then
    need (eqb (byte_at b (at + 1)) (chain_sex k)) 10 at and_then
    need (eqb (byte_at b (at + 3)) 0) 10 at and_then
    need (eqb (read_u16 b (at + 6)) 0) 10 at

-- 21: its class is not below the lowest; 11: it is the class that its chain asks for. On basis 1 the lowest is 0: no
-- class is below that, and 21 is never given.
unfoldable pub check_class : List ℕ → ℕ → ℕ → ℕ → Verdict
check_class b lowest class at =
    need (leb lowest (byte_at b (at + 2))) 21 (at + 2) and_then
    need (eqb (byte_at b (at + 2)) class) 11 (at + 2)

-- 12: count, lapse, premium and claims are not too large
unfoldable pub check_amounts : List ℕ → ℕ → Verdict
check_amounts b at =
    check_field b 12 0 most_count (at + count_offset) and_then
    check_field b 12 0 most_rate (at + lapse_offset) and_then
    check_field b 12 0 most_amount (at + premium_offset) and_then
    check_field b 12 0 most_amount (at + claims_offset)

-- a chain ends where no class is left, and nowhere else
unfoldable pub ends_right : ℕ → ℕ → Bool
ends_right left next = cond (eqb left 0) (eqb next 0) (not (eqb next 0))

-- record i of chain k, with left classes above its own: 10, 21, 11, 12, 13 for its end, then 9 for its next
unfoldable pub check_link : List ℕ → ℕ → ℕ → ℕ → ℕ → Verdict
check_link b last k left i =
    check_owner b k (record_at i) and_then
    check_class b (lowest_class last) (last - left) (record_at i) and_then
    check_amounts b (record_at i) and_then
    need (ends_right left (next_of b i)) 13 (record_at i + 4) and_then
    need (leb (next_of b i) (records b)) 9 (record_at i + 4)

-- chain k from record i on, with left classes above that record's: each record in turn. Its count is how many hold
-- contracts.
unfoldable pub check_from : List ℕ → ℕ → ℕ → ℕ → ℕ → Verdict
check_from b last k zero i = check_link b last k zero i and_then Ok (holds b i)
check_from b last k (suc left) i =
    check_link b last k (suc left) i and_then
    plus (holds b i) (check_from b last k left (next_of b i))

-- chain k: 9 for its head, then its records. The first may have any class from the lowest to the last; above that none
-- is left, and it is 11.
unfoldable pub check_chain : List ℕ → ℕ → ℕ → Verdict
check_chain b last k =
    cond (eqb (head_of b k) 0) (Ok 0)
    (need (leb (head_of b k) (records b)) 9 (head_place k) and_then
    check_from b last k (last - class_of b (head_of b k)) (head_of b k))

-- the chains in the order of their heads, their counts added
unfoldable pub check_chains : List ℕ → ℕ → Verdict
check_chains b last = join_all (check_chain b last) 0 chains

-- the whole book: 1 for its length, the header, the tables, the chains
unfoldable pub check_book : ℕ → List ℕ → Verdict
check_book basis b =
    need (leb header_size (length b)) 1 (length b) and_then
    check_header basis (length b) b and_then
    check_tables b and_then
    check_chains b (last_class basis)
