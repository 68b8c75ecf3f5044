-- The records of a chain, one more at a time, and where a chain's entries stand in the lists. Assumes nothing.
use mathlib.Core.Path.{◌≡◌}
use mathlib.Core.List.{List, []}
use Prim.Native.Nat.{ℕ, ◌+◌, ◌≤◌, ◌<◌}
use native.Mathlib.Omega.{arith}
use lib.ListN.{length, get_or}
use Rattle.buffer.specs.Text.{Wrote, joined}
use Rattle.buffer.proofs.Digits.{joined_more}
use Rattle.book_contents.specs.Contents.{Contents, size_of, records_before}
use Rattle.book_contents.specs.Written.{next_for, encoded_record, record_bytes_of}
use Rattle.book_contents.specs.Limits.{Fit}
use Rattle.book_contents.proofs.Linked.{before_most, before_more}

module _ {e : List ℕ} {at : ℕ} where
  -- the record of entry j, with the chain's start and the entry's next as they were computed
  pub records_more : {x y : List ℕ} {r q : ℕ} (v : Contents) (k j sum next : ℕ)
      → sum ≡ records_before v.values.first k
      → next ≡ next_for v.values.first k j
      → Wrote e at (joined (record_bytes_of v k) j) x r
      → Wrote x r
      (encoded_record k (get_or v.values.first k 0 + j) next (get_or v.counts (sum + j) 0)
      (get_or v.lapses (sum + j) 0) (get_or v.premiums (sum + j) 0) (get_or v.claims (sum + j) 0))
      y q
      → Wrote e at (joined (record_bytes_of v k) (j + 1)) y q
  unfolding record_bytes_of
  records_more v k j sum next es en h w = joined_more (record_bytes_of v k) j [] h (rw (es, en) at w)

-- How many stand before the lists of chain k, how long they are, and how long all lists are: what a pass along the
-- lists takes.
pub record Room (v : Contents) (k sum size : ℕ) : Type 0 where
  pub few : sum + size ≤ 1694
  pub class : get_or v.values.first k 0 + size ≤ 121
  pub counts : sum + size ≤ length v.counts
  pub lapses : sum + size ≤ length v.lapses
  pub premiums : sum + size ≤ length v.premiums
  pub claims : sum + size ≤ length v.claims

pub chain_capacity : (v : Contents) (k sum size : ℕ) → Fit v → k < 14 → sum ≡ records_before v.values.first k
    → size ≡ size_of v.values.first k → Room v k sum size
unfolding size_of
chain_capacity v k sum size f few is_sum is-size =
    let more = before_more v.values.first 14 k few in
    let most = before_most v.values.first 14 in
    record {
      few = omega arith;
      class = omega (arith, f.first k);
      counts = omega (arith, f.counts_size);
      lapses = omega (arith, f.lapses_size);
      premiums = omega (arith, f.premiums_size);
      claims = omega (arith, f.claims_size);
    }
