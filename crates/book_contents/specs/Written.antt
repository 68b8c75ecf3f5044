-- The book of given contents, byte by byte in the order of the layout (docs/FILE_FORMAT.md; book/specs/Layout).
use Rattle.std.specs.Prelude.{cond, ℕ, ◌+◌, ◌-◌, ◌*◌, List, [], ◌∷◌, ◌++◌, eqb, ℤ, pos, negsuc, get_or}
use Rattle.le_bytes.specs.Bytes.{two_bytes, four_bytes}
use Rattle.book.specs.Layout.{header_size, record_size, chains, chain_code, chain_sex}
use Rattle.buffer.specs.Text.{joined}
use Rattle.book_contents.specs.declared.Values.{Values}
use Rattle.book_contents.specs.Contents.{Contents, size_of, records_before}

-- a signed number as 32 bits hold it, in two's complement: 4,294,967,295 is -1
unfoldable pub twos_complement : ℤ → ℕ
twos_complement (pos n) = n
twos_complement (negsuc m) = 4294967295 - m

-- the first n numbers of a list, four bytes each; and of a list of signed ones
unfoldable pub fields : List ℕ → ℕ → List ℕ
fields l n = joined (λ (j : ℕ). four_bytes (get_or l j 0)) n

unfoldable pub signed_fields : List ℤ → ℕ → List ℕ
signed_fields l n = joined (λ (j : ℕ). four_bytes (twos_complement (get_or l j (pos 0)))) n

-- Records stand in chain order and are numbered from 1: entry j, from 0, of chain k is this record.
abbrev pub number_of : List ℕ → ℕ → ℕ → ℕ
number_of first k j = records_before first k + j + 1

-- chain k's head: its first record, 0 where it is empty
unfoldable pub head_for : List ℕ → ℕ → ℕ
head_for first k = cond (eqb (size_of first k) 0) 0 (number_of first k 0)

-- the next of entry j of chain k: one higher, but 0 at the chain's last
unfoldable pub next_for : List ℕ → ℕ → ℕ → ℕ
next_for first k j = cond (eqb (j + 1) (size_of first k)) 0 (number_of first k (j + 1))

-- bytes 0 to 7: edition, age basis 1, SST year, N, mortality percentages of men and women
unfoldable pub front_bytes : Values → List ℕ
front_bytes h =
    h.edition ∷ 1 ∷ [] ++ two_bytes h.year ++ two_bytes (records_before h.first chains) ++ h.men ∷ h.women ∷ []

-- bytes 8 to 35: the heads
unfoldable pub head_bytes : List ℕ → List ℕ
head_bytes first = joined (λ (k : ℕ). two_bytes (head_for first k)) chains

-- bytes 0 to 1,219: fixed fields, heads, cost rates, curve, mortality
unfoldable pub header_bytes : Values → List ℕ
header_bytes h =
    front_bytes h ++ head_bytes h.first ++ fields h.cost 5 ++ signed_fields h.curve 49
    ++ fields h.mortality 242

-- a record: code, sex, class, a spare byte, next, two spare bytes, and four numbers
unfoldable pub encoded_record : ℕ → ℕ → ℕ → ℕ → ℕ → ℕ → ℕ → List ℕ
encoded_record k class next count lapse premium claims =
    chain_code k ∷ chain_sex k ∷ class ∷ 0 ∷ [] ++ two_bytes next ++ two_bytes 0
    ++ four_bytes count ++ four_bytes lapse ++ four_bytes premium ++ four_bytes claims

-- entry j of chain k: its class is j above the first, its numbers stand after those of the entries before it
unfoldable pub record_bytes_of : Contents → ℕ → ℕ → List ℕ
record_bytes_of v k j =
    encoded_record k (get_or v.values.first k 0 + j) (next_for v.values.first k j)
    (get_or v.counts (records_before v.values.first k + j) 0)
    (get_or v.lapses (records_before v.values.first k + j) 0)
    (get_or v.premiums (records_before v.values.first k + j) 0)
    (get_or v.claims (records_before v.values.first k + j) 0)

-- the records of chain k
unfoldable pub chain_bytes : Contents → ℕ → List ℕ
chain_bytes v k = joined (record_bytes_of v k) (size_of v.values.first k)

-- the book: the header, and then the records, chain after chain
unfoldable pub book_of : Contents → List ℕ
book_of v = header_bytes v.values ++ joined (chain_bytes v) chains

-- its length
abbrev pub book_size : List ℕ → ℕ
book_size first = header_size + record_size * records_before first chains
