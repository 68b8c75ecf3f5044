-- A list in which the book of values that are not refused is laid: its header, its heads, its records and their links.
-- Assumes nothing.
use mathlib.Core.Path.{◌≡◌, refl, ap, ◌∙◌}
use mathlib.Core.Logic.{◌⊎◌, ⊎_elim}
use mathlib.Core.List.{List}
use Prim.Native.Nat.{ℕ, zero, suc, ◌+◌, ◌*◌, ◌<◌, ◌≤◌}
use native.Mathlib.Nat.{eq-or-lt_of_le}
use native.Mathlib.Omega.{arith}
use borrow.Author.Tests.{eq-eqb, ne_eqb}
use lib.ListN.{get_or}
use Rattle.lists.proofs.Sums.{sum_most, sum_within}
use Rattle.le_bytes.specs.Bytes.{byte_at, read_u16, two_bytes}
use Rattle.book.specs.Layout.{header_size, record_size, chains, records, head_place, head_of, record_at, class_of}
use Rattle.book.specs.Layout.{next_of}
use Rattle.book.specs.Layout.{field_of, count_offset, lapse_offset, premium_offset, claims_offset, link_from, link_at}
use Rattle.book.specs.Rules.{RecordRules}
use Rattle.book.proofs.Links.{link_none, link_next}
use Rattle.buffer.proofs.Digits.{le_or_lt}
use Rattle.book_contents.specs.Contents.{Contents, size_of, records_before}
use Rattle.book_contents.specs.Written.{number_of, head_for, next_for, record_bytes_of, front_bytes}
use Rattle.book_contents.specs.Limits.{Fit}
use Rattle.book_contents.proofs.Numbers.{two_read, four_read}
use Rattle.book_contents.proofs.Laid.{Laid}
use Rattle.book_contents.proofs.Entries.{Entry, entry_of}

-- sizes
module _ (first : List ℕ) where
  pub size_most : (k : ℕ) → size_of first k ≤ 121
  unfolding size_of
  size_most k = omega arith

  pub before_most : (n : ℕ) → records_before first n ≤ 121 * n
  before_most n = sum_most 0 ◌+◌ (λ x. x) refl (λ x y. omega arith) (size_of first) 121 n (λ k h. size_most k)

  -- a chain's numbers come before those of later chains
  pub before_more : (n k : ℕ) → k < n → records_before first k + size_of first k ≤ records_before first n
  before_more n k h = sum_within (size_of first) n k h

  -- heads and nexts
  pub head_none : (k : ℕ) → size_of first k ≡ 0 → head_for first k ≡ 0
  unfolding head_for
  head_none k e = rw (eq-eqb _ _ e)

  pub head_some : (k : ℕ) → 0 < size_of first k → head_for first k ≡ number_of first k 0
  unfolding head_for
  head_some k h = rw (ne_eqb (size_of first k) 0 (λ z. absurd (omega arith)))

  pub next_last : (k j : ℕ) → j + 1 ≡ size_of first k → next_for first k j ≡ 0
  unfolding next_for
  next_last k j e = rw (eq-eqb _ _ e)

  pub next_more : (k j : ℕ) → j + 1 < size_of first k → next_for first k j ≡ number_of first k (j + 1)
  unfolding next_for
  next_more k j h = rw (ne_eqb (j + 1) (size_of first k) (λ z. absurd (omega arith)))

  pub head_most : (k : ℕ) → k < chains → head_for first k ≤ records_before first chains
  head_most k few =
      ⊎_elim
      (λ (h : size_of first k ≤ 0). omega (arith, head_none k (omega arith)))
      (λ (h : 0 < size_of first k). omega (arith, head_some k h, before_more chains k few))
      (le_or_lt (size_of first k) 0)

  pub next_most : (k j : ℕ) → k < chains → j < size_of first k → next_for first k j ≤ records_before first chains
  next_most k j few h =
      ⊎_elim
      (λ (e : j + 1 ≡ size_of first k). omega (arith, next_last k j e))
      (λ (g : j + 1 < size_of first k). omega (arith, next_more k j g, before_more chains k few))
      (eq-or-lt_of_le (omega arith))

module _ (b : List ℕ) (v : Contents) (f : Fit v) (x : Laid b v) where
  -- the header
  pub edition_is : byte_at b 0 ≡ v.values.edition
  unfolding front_bytes two_bytes
  edition_is = x.front 0 (omega arith)

  pub basis_is : byte_at b 1 ≡ 1
  unfolding front_bytes two_bytes
  basis_is = x.front 1 (omega arith)

  pub year_is : read_u16 b 2 ≡ v.values.year
  unfolding front_bytes two_bytes read_u16
  year_is = omega (arith, x.front 2 (omega arith), x.front 3 (omega arith), f.year_high)

  pub records_is : records b ≡ records_before v.values.first chains
  unfolding front_bytes two_bytes read_u16 records
  records_is = omega (arith, x.front 4 (omega arith), x.front 5 (omega arith), before_most v.values.first chains)

  pub men_is : byte_at b 6 ≡ v.values.men
  unfolding front_bytes two_bytes
  men_is = x.front 6 (omega arith)

  pub women_is : byte_at b 7 ≡ v.values.women
  unfolding front_bytes two_bytes
  women_is = x.front 7 (omega arith)

  pub head_is : (k : ℕ) → k < chains → head_of b k ≡ head_for v.values.first k
  unfolding head_of
  head_is k few =
      two_read b (head_place k) (head_for v.values.first k)
      (omega (arith, head_most v.values.first k few, before_most v.values.first chains)) (x.head k few)

  -- entry j of chain k
  module _ (k j : ℕ) (few : k < chains) (inside : j < size_of v.values.first k) where
    at_place : header_size + record_size * (records_before v.values.first k + j) ≡ record_at
        (number_of v.values.first k j)
    at_place = omega arith

    entry : Entry b (record_at (number_of v.values.first k j)) k (get_or v.values.first k 0 + j)
        (next_for v.values.first k j)
        (get_or v.counts (records_before v.values.first k + j) 0)
        (get_or v.lapses (records_before v.values.first k + j) 0)
        (get_or v.premiums (records_before v.values.first k + j) 0)
        (get_or v.claims (records_before v.values.first k + j) 0)
    unfolding record_bytes_of
    entry = entry_of b _ _ _ _ _ _ _ _ (rw at_place at (x.entry k j few inside))

    pub class_of_entry : class_of b (number_of v.values.first k j) ≡ get_or v.values.first k 0 + j
    unfolding class_of
    class_of_entry = entry.class_is

    -- the class of the last entry is the last class
    class_size : get_or v.values.first k 0 + size_of v.values.first k ≡ 121
    unfolding size_of
    class_size = omega (arith, f.first k)

    pub next_of_entry : next_of b (number_of v.values.first k j) ≡ next_for v.values.first k j
    unfolding next_of
    next_of_entry =
        two_read b _ _ (omega
        (arith, next_most v.values.first k j few inside, before_most v.values.first chains))
        entry.next_stands

    pub count_of_entry : field_of b (number_of v.values.first k j) count_offset ≡ get_or v.counts
        (records_before v.values.first k + j) 0
    unfolding field_of
    count_of_entry =
        four_read b _ _ (omega (arith, f.count (records_before v.values.first k + j))) entry.count_stands

    pub lapse_of_entry : field_of b (number_of v.values.first k j) lapse_offset ≡ get_or v.lapses
        (records_before v.values.first k + j) 0
    unfolding field_of
    lapse_of_entry =
        four_read b _ _ (omega (arith, f.lapse (records_before v.values.first k + j))) entry.lapse_stands

    pub premium_of_entry : field_of b (number_of v.values.first k j) premium_offset ≡ get_or v.premiums
        (records_before v.values.first k + j) 0
    unfolding field_of
    premium_of_entry = four_read b _ _ (omega (arith, f.premium (records_before v.values.first k + j)))
        entry.premium_stands

    pub claims_of_entry : field_of b (number_of v.values.first k j) claims_offset ≡ get_or v.claims
        (records_before v.values.first k + j) 0
    unfolding field_of
    claims_of_entry =
        four_read b _ _ (omega (arith, f.claim (records_before v.values.first k + j))) entry.claims_stands

    next_cases : (j + 1 ≡ size_of v.values.first k) ⊎ (j + 1 < size_of v.values.first k)
    next_cases = eq-or-lt_of_le (omega arith)

    pub rules_of_entry : RecordRules b 120 k (number_of v.values.first k j)
    rules_of_entry =
        record {
          first = omega arith;
          inside = omega (arith, records_is, before_more v.values.first chains k few);
          code = entry.code_is;
          sex = entry.sex_is;
          spare = entry.spare_is;
          spare_two = two_read b _ 0 (omega arith) entry.spare_stands;
          class_low = omega arith;
          class_high = omega (arith, class_of_entry, class_size);
          count = omega (arith, count_of_entry, f.count (records_before v.values.first k + j));
          lapse = omega (arith, lapse_of_entry, f.lapse (records_before v.values.first k + j));
          premium = omega (arith, premium_of_entry, f.premium (records_before v.values.first k + j));
          claims = omega (arith, claims_of_entry, f.claim (records_before v.values.first k + j));
          ends = λ e. next_of_entry ∙ next_last v.values.first k j (omega (arith, class_of_entry, class_size));
          goes_on = λ z.
              ⊎_elim
              (λ (e : j + 1 ≡ size_of v.values.first k). omega (arith, class_of_entry, class_size))
              (λ (g : j + 1 < size_of v.values.first k). absurd
              (omega (arith, next_of_entry, next_more v.values.first k j g)))
              next_cases;
        }

  -- links: from entry j on, one entry higher for each step, up to the chain's last
  module _ (k : ℕ) (few : k < chains) where
    link_steps : (m j : ℕ) → j + m < size_of v.values.first k
        → link_from b (number_of v.values.first k j) m ≡ number_of v.values.first k (j + m)
    unfolding link_from
    link_steps zero j h = omega arith
    link_steps (suc m) j h =
        let step : next_of b (number_of v.values.first k j) ≡ number_of v.values.first k (j + 1)
        = next_of_entry k j few (omega arith) ∙ next_more v.values.first k j (omega arith) in
        let same : number_of v.values.first k (j + 1 + m) ≡ number_of v.values.first k (j + suc m) =
        omega arith in
        link_next b (number_of v.values.first k j) m (omega arith) ∙ ap (λ (i : ℕ). link_from b i m) step
        ∙ link_steps m (j + 1) (omega arith) ∙ same

    link_past : (m j : ℕ) → j < size_of v.values.first k → size_of v.values.first k ≤ j + m
        → link_from b (number_of v.values.first k j) m ≡ 0
    link_past zero j h g = absurd (omega arith)
    link_past (suc m) j h g =
        ⊎_elim
        (λ (e : j + 1 ≡ size_of v.values.first k).
        link_next b (number_of v.values.first k j) m (omega arith)
        ∙ ap (λ (i : ℕ). link_from b i m) (next_of_entry k j few h ∙ next_last v.values.first k j e)
        ∙ link_none b m)
        (λ (l : j + 1 < size_of v.values.first k).
        link_next b (number_of v.values.first k j) m (omega arith)
        ∙ ap (λ (i : ℕ). link_from b i m) (next_of_entry k j few h ∙ next_more v.values.first k j l)
        ∙ link_past m (j + 1) l (omega arith))
        (eq-or-lt_of_le (omega arith))

    pub link_in : (j : ℕ) → j < size_of v.values.first k → link_at b k j ≡ number_of v.values.first k j
    link_in j h =
        let same : number_of v.values.first k (0 + j) ≡ number_of v.values.first k j = omega arith in
        ap (λ (i : ℕ). link_from b i j) (head_is k few ∙ head_some v.values.first k (omega arith))
        ∙ link_steps j 0 (omega arith) ∙ same

    pub link_out : (j : ℕ) → size_of v.values.first k ≤ j → link_at b k j ≡ 0
    link_out j h =
        ⊎_elim
        (λ (z : size_of v.values.first k ≤ 0). ap (λ (i : ℕ). link_from b i j) (head_is k few
        ∙ head_none v.values.first k (omega arith)) ∙ link_none b j)
        (λ (s : 0 < size_of v.values.first k).
        ap (λ (i : ℕ). link_from b i j) (head_is k few ∙ head_some v.values.first k s)
        ∙ link_past j 0 s (omega arith))
        (le_or_lt (size_of v.values.first k) 0)

    -- a linked record is an entry
    pub link_entry : (j : ℕ) → 0 < link_at b k j → j < size_of v.values.first k
    link_entry j l =
        ⊎_elim
        (λ (g : size_of v.values.first k ≤ j). absurd (omega (arith, link_out j g)))
        (λ (g : j < size_of v.values.first k). g)
        (le_or_lt (size_of v.values.first k) j)
