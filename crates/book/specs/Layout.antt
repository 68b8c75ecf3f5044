-- Where everything stands in a book, and the ranges of its fields. Places and sizes are in bytes; records are numbered
-- from 1.
-- Book is document 01's term for the input file of a valuation: an insurer's contracts and the tables of one SST year.
use Rattle.std.specs.Prelude.{cond, ℕ, zero, suc, ◌+◌, ◌-◌, ◌*◌, ◌/◌, ◌%◌, List, eqb}
use Rattle.le_bytes.specs.Bytes.{byte_at, read_u16, read_u32}

-- sizes: what stands before the first record, and a record
abbrev pub header_size : ℕ
header_size = 1220

abbrev pub record_size : ℕ
record_size = 24

abbrev pub most_records : ℕ
most_records = 1694

-- the longest book
abbrev pub most_size : ℕ
most_size = header_size + record_size * most_records

-- The last class of an age basis: 120 on basis 1, where a class is the SST year less birth year less 1 (FINMA 4.3);
-- 121 on basis 2, where it is the SST year less birth year (W-204).
abbrev pub last_class : ℕ → ℕ
last_class basis = 119 + basis

-- the lowest class, 120 below the last: 0 on basis 1, 1 on basis 2
abbrev pub lowest_class : ℕ → ℕ
lowest_class last = last - 120

-- The header: edition, age basis, SST year, number of records N, and bytes 6 and 7, which edition 1 spares.
abbrev pub edition : List ℕ → ℕ
edition b = byte_at b 0

abbrev pub age_basis : List ℕ → ℕ
age_basis b = byte_at b 1

abbrev pub sst_year : List ℕ → ℕ
sst_year b = read_u16 b 2

-- an SST year is from the first to the last, both allowed
abbrev pub first_year : ℕ
first_year = 2017

abbrev pub last_year : ℕ
last_year = 2100

unfoldable pub records : List ℕ → ℕ
records b = read_u16 b 4

abbrev pub spare_bytes : List ℕ → ℕ
spare_bytes b = read_u16 b 6

-- edition 2 has mortality percentages there: that of a sex, 0 men, 1 women, is from 1 to the most
abbrev pub percent_place : ℕ → ℕ
percent_place sex = 6 + sex

abbrev pub percent_at : List ℕ → ℕ → ℕ
percent_at b sex = byte_at b (percent_place sex)

abbrev pub most_percent : ℕ
most_percent = 100

-- Chains: there are 14, from 0. Subgroup codes 1 to 7 have two each, men's (sex 0) and then women's (sex 1).
abbrev pub chains : ℕ
chains = 14

abbrev pub chain_code : ℕ → ℕ
chain_code k = k / 2 + 1

abbrev pub chain_sex : ℕ → ℕ
chain_sex k = k % 2

-- the head of chain k: the number of its first record, 0 where it is empty
abbrev pub head_place : ℕ → ℕ
head_place k = 8 + 2 * k

unfoldable pub head_of : List ℕ → ℕ → ℕ
head_of b k = read_u16 b (head_place k)

-- Tables: five cost rates, 49 curve rates, mortality of 121 classes of men and then of women. All are in millionths.
abbrev pub cost_place : ℕ
cost_place = 36

abbrev pub curve_place : ℕ
curve_place = 56

abbrev pub mortality_place : ℕ
mortality_place = 252

-- the bytes of one sex
abbrev pub mortality_size : ℕ
mortality_size = 484

-- a cost rate, mortality or lapse is from 0 to this
abbrev pub most_rate : ℕ
most_rate = 1000000

-- a curve rate is from -10,000, and from there on at most 210,000 higher: up to 200,000
abbrev pub curve_lift : ℕ
curve_lift = 10000

abbrev pub curve_span : ℕ
curve_span = 210000

-- A record: code, sex, class, a spare byte, next (two bytes), two spare bytes, count, lapse, premium, claims (four
-- bytes each).
abbrev pub record_at : ℕ → ℕ
record_at i = header_size + record_size * (i - 1)

abbrev pub code_of : List ℕ → ℕ → ℕ
code_of b i = byte_at b (record_at i)

abbrev pub sex_of : List ℕ → ℕ → ℕ
sex_of b i = byte_at b (record_at i + 1)

unfoldable pub class_of : List ℕ → ℕ → ℕ
class_of b i = byte_at b (record_at i + 2)

-- the record that follows record i in its chain, 0 where the chain ends
unfoldable pub next_of : List ℕ → ℕ → ℕ
next_of b i = read_u16 b (record_at i + 4)

-- record i's four-byte field at an offset
unfoldable pub field_of : List ℕ → ℕ → ℕ → ℕ
field_of b i offset = read_u32 b (record_at i + offset)

abbrev pub count_offset : ℕ
count_offset = 8

abbrev pub lapse_offset : ℕ
lapse_offset = 12

abbrev pub premium_offset : ℕ
premium_offset = 16

abbrev pub claims_offset : ℕ
claims_offset = 20

-- a count of contracts; premium and claims of a contract and year, in centimes
abbrev pub most_count : ℕ
most_count = 100000

abbrev pub most_amount : ℕ
most_amount = 10000000

-- the record after record i; after the end (0) there is none
abbrev pub record_after : List ℕ → ℕ → ℕ
record_after b i = cond (eqb i 0) 0 (next_of b i)

-- the record j steps along the chain from record i, 0 past the chain's end
unfoldable pub link_from : List ℕ → ℕ → ℕ → ℕ
link_from b i zero = i
link_from b i (suc j) = link_from b (record_after b i) j

-- linked record j, from 0, of chain k; 0 past the chain's end
abbrev pub link_at : List ℕ → ℕ → ℕ → ℕ
link_at b k j = link_from b (head_of b k) j
