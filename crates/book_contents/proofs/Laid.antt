-- What stands where in the book of given values: a list in which that book stands has each of its fields at its place,
-- and the other way round.
-- Assumes nothing.
use mathlib.Core.Path.{◌≡◌, refl}
use mathlib.Core.List.{List, [], ◌++◌}
use Prim.Native.Nat.{ℕ, zero, suc, ◌+◌, ◌*◌, ◌<◌}
use native.Mathlib.Omega.{arith}
use lib.IntN.{pos}
use lib.ListN.{length, get_or, length-append}
use Rattle.lists.specs.Sums.{sum_by}
use Rattle.le_bytes.specs.Bytes.{two_bytes, four_bytes}
use Rattle.book.specs.Layout.{header_size, record_size, chains, head_place, cost_place, curve_place, mortality_place}
use Rattle.buffer.specs.Text.{joined}
use Rattle.book_contents.specs.Contents.{Contents, size_of, records_before}
use Rattle.book_contents.specs.Written.{twos_complement, fields, signed_fields, head_for}
use Rattle.book_contents.specs.Written.{encoded_record}
use Rattle.book_contents.specs.Written.{record_bytes_of, chain_bytes, front_bytes, head_bytes, header_bytes, book_of}
use Rattle.book_contents.specs.Written.{book_size}
use Rattle.book_contents.proofs.Stands.{Stands, stands_left, stands_right, stands_both, stands_part}
use Rattle.book_contents.proofs.Stands.{stands_joined}
use Rattle.book_contents.proofs.Stands.{joined_length}
use Rattle.book_contents.proofs.Numbers.{two_length, four_length}

-- every field of the book of v, at its place in b
pub record Laid (b : List ℕ) (v : Contents) : Type 0 where
  pub front : Stands b 0 (front_bytes v.values)
  pub head : (k : ℕ) → k < chains → Stands b (head_place k) (two_bytes (head_for v.values.first k))
  pub cost : (j : ℕ) → j < 5 → Stands b (cost_place + 4 * j) (four_bytes (get_or v.values.cost j 0))
  pub curve : (j : ℕ) → j < 49
      → Stands b (curve_place + 4 * j) (four_bytes (twos_complement (get_or v.values.curve j (pos 0))))
  pub mortality : (j : ℕ) → j < 242 → Stands b (mortality_place + 4 * j) (four_bytes (get_or v.values.mortality j 0))
  pub entry : (k j : ℕ) → k < chains → j < size_of v.values.first k
      → Stands b (header_size + record_size * (records_before v.values.first k + j)) (record_bytes_of v k j)

-- lengths
pub record_length : (k class next count lapse premium claims : ℕ)
    → length (encoded_record k class next count lapse premium claims) ≡ 24
unfolding encoded_record four_bytes two_bytes
record_length k class next count lapse premium claims = refl

module _ (v : Contents) where
  entry_length : (k j : ℕ) → length (record_bytes_of v k j) ≡ 24
  unfolding record_bytes_of
  entry_length k j = record_length _ _ _ _ _ _ _

  chain_length : (k : ℕ) → length (chain_bytes v k) ≡ 24 * size_of v.values.first k
  unfolding chain_bytes
  chain_length k = joined_length (record_bytes_of v k) 24 (size_of v.values.first k) (entry_length k)

  chains_length : (k : ℕ) → length (joined (chain_bytes v) k) ≡ 24 * records_before v.values.first k
  unfolding joined sum_by
  chains_length zero = refl
  chains_length (suc k) =
      omega (arith, length-append (joined (chain_bytes v) k) (chain_bytes v k), chains_length k, chain_length k)

  front_length : length (front_bytes v.values) ≡ 8
  unfolding front_bytes two_bytes
  front_length = refl

run_length : (f : ℕ → ℕ) (n : ℕ) → length (joined (λ (j : ℕ). four_bytes (f j)) n) ≡ 4 * n
run_length f n = joined_length (λ (j : ℕ). four_bytes (f j)) 4 n (λ k. four_length (f k))

two_run_length : (f : ℕ → ℕ) (n : ℕ) → length (joined (λ (j : ℕ). two_bytes (f j)) n) ≡ 2 * n
two_run_length f n = joined_length (λ (j : ℕ). two_bytes (f j)) 2 n (λ k. two_length (f k))

module _ (v : Contents) where
  heads_length : length (head_bytes v.values.first) ≡ 28
  unfolding head_bytes
  heads_length = two_run_length _ 14

  costs_length : length (fields v.values.cost 5) ≡ 20
  unfolding fields
  costs_length = run_length _ 5

  rates_length : length (signed_fields v.values.curve 49) ≡ 196
  unfolding signed_fields
  rates_length = run_length _ 49

  deaths_length : length (fields v.values.mortality 242) ≡ 968
  unfolding fields
  deaths_length = run_length _ 242

-- the six parts of a book at their places
record Parts (b p q r s t u : List ℕ) : Type 0 where
  front : Stands b 0 p
  heads : Stands b 8 q
  cost : Stands b cost_place r
  curve : Stands b curve_place s
  mortality : Stands b mortality_place t
  records : Stands b header_size u

module _ (b p q r s t u : List ℕ) (hp : length p ≡ 8) (hq : length q ≡ 28) (hr : length r ≡ 20) (hs : length s ≡ 196)
    (ht : length t ≡ 968) where
  two_parts : length (p ++ q) ≡ 36
  two_parts = omega (arith, length-append p q)

  three_parts : length (p ++ q ++ r) ≡ 56
  three_parts = omega (arith, two_parts, length-append (p ++ q) r)

  four_parts : length (p ++ q ++ r ++ s) ≡ 252
  four_parts = omega (arith, three_parts, length-append (p ++ q ++ r) s)

  five_parts : length (p ++ q ++ r ++ s ++ t) ≡ 1220
  five_parts = omega (arith, four_parts, length-append (p ++ q ++ r ++ s) t)

  parts_of : Stands b 0 (p ++ q ++ r ++ s ++ t ++ u) → Parts b p q r s t u
  parts_of h =
      let h5 = stands_left b (p ++ q ++ r ++ s ++ t) u 0 h in
      let h4 = stands_left b (p ++ q ++ r ++ s) t 0 h5 in
      let h3 = stands_left b (p ++ q ++ r) s 0 h4 in
      let h2 = stands_left b (p ++ q) r 0 h3 in
      record {
        front = stands_left b p q 0 h2;
        heads = stands_right b p q 0 8 (omega arith) h2;
        cost = stands_right b (p ++ q) r 0 36 (omega (arith, two_parts)) h3;
        curve = stands_right b (p ++ q ++ r) s 0 56 (omega (arith, three_parts)) h4;
        mortality = stands_right b (p ++ q ++ r ++ s) t 0 252 (omega (arith, four_parts)) h5;
        records = stands_right b (p ++ q ++ r ++ s ++ t) u 0 1220 (omega (arith, five_parts)) h;
      }

  of_parts : Parts b p q r s t u → Stands b 0 (p ++ q ++ r ++ s ++ t ++ u)
  of_parts x =
      let h2 = stands_both b p q 0 8 (omega arith) x.front x.heads in
      let h3 = stands_both b (p ++ q) r 0 36 (omega (arith, two_parts)) h2 x.cost in
      let h4 = stands_both b (p ++ q ++ r) s 0 56 (omega (arith, three_parts)) h3 x.curve in
      let h5 = stands_both b (p ++ q ++ r ++ s) t 0 252 (omega (arith, four_parts)) h4 x.mortality in
      stands_both b (p ++ q ++ r ++ s ++ t) u 0 1220 (omega (arith, five_parts)) h5 x.records

-- runs of fields
module _ (b : List ℕ) (f : ℕ → ℕ) (at n : ℕ) where
  run_field : Stands b at (joined (λ (j : ℕ). four_bytes (f j)) n) → (j : ℕ) → j < n
      → Stands b (at + 4 * j) (four_bytes (f j))
  run_field h j l = rw (run_length f j) at (stands_part b (λ (j : ℕ). four_bytes (f j)) at n j l h)

  run_stands : ((j : ℕ) → j < n → Stands b (at + 4 * j) (four_bytes (f j)))
      → Stands b at (joined (λ (j : ℕ). four_bytes (f j)) n)
  run_stands h = stands_joined b (λ (j : ℕ). four_bytes (f j)) at n (λ j l. rw (run_length f j) (h j l))

  two_run_field : Stands b at (joined (λ (j : ℕ). two_bytes (f j)) n) → (j : ℕ) → j < n
      → Stands b (at + 2 * j) (two_bytes (f j))
  two_run_field h j l = rw (two_run_length f j) at (stands_part b (λ (j : ℕ). two_bytes (f j)) at n j l h)

  two_run_stands : ((j : ℕ) → j < n → Stands b (at + 2 * j) (two_bytes (f j)))
      → Stands b at (joined (λ (j : ℕ). two_bytes (f j)) n)
  two_run_stands h = stands_joined b (λ (j : ℕ). two_bytes (f j)) at n (λ j l. rw (two_run_length f j) (h j l))

-- records
module _ (b : List ℕ) (v : Contents) where
  chained_entry : Stands b header_size (joined (chain_bytes v) chains) → (k j : ℕ) → k < chains
      → j < size_of v.values.first k
      → Stands b (header_size + record_size * (records_before v.values.first k + j)) (record_bytes_of v k j)
  unfolding chain_bytes
  chained_entry h k j few l =
      let part = stands_part b (record_bytes_of v k) _ (size_of v.values.first k) j l
      (stands_part b (chain_bytes v) header_size chains k few h) in
      let place : header_size + length (joined (chain_bytes v) k) + length
      (joined (record_bytes_of v k) j) ≡ header_size + record_size * (records_before v.values.first k + j)
      = omega (arith, chains_length v k, joined_length (record_bytes_of v k) 24 j (entry_length v k)) in
      rw place at part

  entry_chained : ((k j : ℕ) → k < chains → j < size_of v.values.first k
      → Stands b (header_size + record_size * (records_before v.values.first k + j)) (record_bytes_of v k j))
      → Stands b header_size (joined (chain_bytes v) chains)
  unfolding chain_bytes
  entry_chained h =
      stands_joined b (chain_bytes v) header_size chains
      (λ k few. stands_joined b (record_bytes_of v k) (header_size + length (joined (chain_bytes v) k))
      (size_of v.values.first k)
      (λ j l.
      let place : header_size + length (joined (chain_bytes v) k) + length
      (joined (record_bytes_of v k) j) ≡ header_size + record_size * (records_before v.values.first k + j)
      = omega (arith, chains_length v k, joined_length (record_bytes_of v k) 24 j (entry_length v k)) in
      rw place (h k j few l)))

  pub stands_laid : Stands b 0 (book_of v) → Laid b v
  unfolding book_of header_bytes fields signed_fields head_bytes
  stands_laid h =
      let x = parts_of b (front_bytes v.values) (head_bytes v.values.first) (fields v.values.cost 5)
      (signed_fields v.values.curve 49) (fields v.values.mortality 242) (joined (chain_bytes v) chains)
      (front_length v) (heads_length v) (costs_length v) (rates_length v) (deaths_length v) h in
      record {
        front = x.front;
        head = two_run_field b (head_for v.values.first) 8 14 x.heads;
        cost = run_field b (λ (j : ℕ). get_or v.values.cost j 0) cost_place 5 x.cost;
        curve = run_field b (λ (j : ℕ). twos_complement (get_or v.values.curve j (pos 0))) curve_place 49 x.curve;
        mortality = run_field b (λ (j : ℕ). get_or v.values.mortality j 0) mortality_place 242 x.mortality;
        entry = chained_entry x.records;
      }

  pub laid_stands : Laid b v → Stands b 0 (book_of v)
  unfolding book_of header_bytes fields signed_fields head_bytes
  laid_stands x =
      of_parts b (front_bytes v.values) (head_bytes v.values.first) (fields v.values.cost 5)
      (signed_fields v.values.curve 49) (fields v.values.mortality 242) (joined (chain_bytes v) chains)
      (front_length v) (heads_length v) (costs_length v) (rates_length v) (deaths_length v)
      (record {
        front = x.front;
        heads = two_run_stands b (head_for v.values.first) 8 14 x.head;
        cost = run_stands b (λ (j : ℕ). get_or v.values.cost j 0) cost_place 5 x.cost;
        curve = run_stands b (λ (j : ℕ). twos_complement (get_or v.values.curve j (pos 0))) curve_place 49 x.curve;
        mortality = run_stands b (λ (j : ℕ). get_or v.values.mortality j 0) mortality_place 242 x.mortality;
        records = entry_chained x.entry;
      })

pub book_length : (v : Contents) → length (book_of v) ≡ book_size v.values.first
unfolding book_of header_bytes
book_length v =
    omega (
      arith,
      length-append (front_bytes v.values ++ head_bytes v.values.first ++ fields v.values.cost 5
          ++ signed_fields v.values.curve 49 ++ fields v.values.mortality 242) (joined (chain_bytes v) chains),
      chains_length v chains,
      five_parts [] (front_bytes v.values) (head_bytes v.values.first) (fields v.values.cost 5)
          (signed_fields v.values.curve 49) (fields v.values.mortality 242) []
          (front_length v) (heads_length v) (costs_length v) (rates_length v) (deaths_length v),
    )
