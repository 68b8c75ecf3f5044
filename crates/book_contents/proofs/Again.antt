-- An accepted book whose records all are linked and stand in chain order is written again, from its own reading, to the
-- same bytes.
-- What is read from an accepted book is not refused. Assumes nothing.
use mathlib.Core.Path.{◌≡◌, refl, sym, ap, ◌∙◌}
use mathlib.Core.Logic.{⊎_elim}
use mathlib.Core.List.{List, [], ◌∷◌, ◌++◌}
use mathlib.Core.Bool.{true}
use Prim.Native.Nat.{ℕ, zero, suc, ◌+◌, ◌-◌, ◌*◌, ◌<◌, ◌≤◌, zero-le}
use native.Mathlib.Nat.{eq-or-lt_of_le, pos_of_ne-zero}
use native.Mathlib.Numerals.{add-one}
use native.Mathlib.Omega.{arith}
use borrow.Author.Tests.{eq-eqb, ne_eqb}
use lib.IntN.{ℤ, pos}
use lib.ListN.{length, get_or, length-append, get_or-append}
use lib.Seq.{get_or-append-add}
use Rattle.le_bytes.specs.Bytes.{byte_at, read_u16, read_u32, two_bytes}
use Rattle.std.specs.Prelude.{Ok}
use Rattle.book.specs.Layout.{header_size, record_size, edition, chains, records, head_place, head_of, record_at}
use Rattle.book.specs.Layout.{class_of}
use Rattle.book.specs.Layout.{next_of, field_of, cost_place, curve_place, mortality_place, most_rate, most_count}
use Rattle.book.specs.Layout.{most_amount}
use Rattle.book.specs.Layout.{count_offset, lapse_offset, premium_offset, claims_offset, record_after, link_from}
use Rattle.book.specs.Layout.{link_at}
use Rattle.book.specs.Check.{check_book}
use Rattle.book.specs.Rules.{RecordRules, Rules}
use Rattle.book.specs.Reading.{ChainFrom, ValidBook}
use Rattle.book.proofs.Links.{after_some, link_next}
use Rattle.book.proofs.Valid.{valid, chain_here, chain_next}
use Rattle.book.proofs.Exact.{accepted_rules}
use Rattle.buffer.specs.Text.{joined}
use Rattle.buffer.proofs.Digits.{le_or_lt}
use Rattle.book_contents.specs.Contents.{no_class, size_of, records_before}
use Rattle.book_contents.specs.Written.{twos_complement, number_of, head_for, next_for, record_bytes_of}
use Rattle.book_contents.specs.Written.{front_bytes, book_of}
use Rattle.book_contents.specs.Written.{book_size}
use Rattle.book_contents.specs.Limits.{curve_rate, check_contents, Fit}
use Rattle.book_contents.specs.Reading.{signed_of, first_in, firsts_of, list_in, field_list, values_of}
use Rattle.book_contents.specs.Reading.{contents_of}
use Rattle.book_contents.specs.Reading.{OfBytes, InOrder}
use Rattle.book_contents.proofs.Stands.{Stands, stands_whole, stands_both, each_all}
use Rattle.book_contents.proofs.Numbers.{two_stands, four_stands, two_length, u32_small, signed_back}
use Rattle.book_contents.proofs.Numbers.{signed_rate}
use Rattle.book_contents.proofs.Laid.{Laid, laid_stands, book_length}
use Rattle.book_contents.proofs.Fit.{fit_good}
use Rattle.book_contents.proofs.Entries.{of_entry}
use Rattle.book_contents.proofs.Linked.{head_none, head_some, next_last, next_more}
use Rattle.book_contents.proofs.Lists.{firsts_at, firsts_size, lists_size, lists_at}
use Rattle.lists.specs.Each.{each}
use Rattle.lists.proofs.Each.{each_at}

-- one step more along a chain, at its end
pub link_last : (b : List ℕ) (j i : ℕ) → link_from b i (suc j) ≡ record_after b (link_from b i j)
unfolding link_from
link_last b zero i = refl
link_last b (suc j) i = link_last b j (record_after b i)

-- a chain has a record for each class that is left
chain_links_lem : (b : List ℕ) (last k j left i : ℕ) → j ≤ left → ChainFrom b last k left i → 0 < link_from b i j
unfolding link_from
chain_links_lem b last k zero left i h c = (chain_here b last k left i c).first
chain_links_lem b last k (suc j) zero i h c = absurd (omega arith)
chain_links_lem b last k (suc j) (suc left) i h c =
    let some : 0 < i = (chain_here b last k (suc left) i c).first in
    rw (link_next b i j some)
    (chain_links_lem b last k j left (next_of b i) (omega arith)
    (chain_next b last k (suc left) left i (omega arith) c))

-- What the rules say of a chain, by its first class.
module _ (b : List ℕ) (v : ValidBook 1 b) (r : Rules 1 b) (k : ℕ) (few : k < chains) where
  first_none : head_of b k ≡ 0 → first_in b k ≡ 121
  unfolding first_in
  first_none z = rw (eq-eqb _ _ z)

  first_some : 0 < head_of b k → first_in b k ≡ class_of b (head_of b k)
  unfolding first_in
  first_some s = rw (ne_eqb (head_of b k) 0 (λ z. absurd (omega arith)))

  head_class : 0 < head_of b k → class_of b (head_of b k) ≤ 120
  unfolding link_from
  head_class s = ((r.chain k few).linked 0 s).class_high

  pub first_most : first_in b k ≤ 121
  first_most =
      ⊎_elim
      (λ (z : head_of b k ≤ 0). omega (arith, first_none (omega arith)))
      (λ (s : 0 < head_of b k). omega (arith, first_some s, head_class s))
      (le_or_lt (head_of b k) 0)

  size_is : first_in b k + size_of (firsts_of b) k ≡ 121
  size_is = omega (arith, first_most, firsts_size b k few)

  size_some : 0 < size_of (firsts_of b) k → 0 < head_of b k
  size_some s = pos_of_ne-zero (λ z. absurd (omega (arith, size_is, first_none z)))

  size_none : size_of (firsts_of b) k ≡ 0 → head_of b k ≡ 0
  size_none e =
      ⊎_elim
      (λ (z : head_of b k ≤ 0). omega arith)
      (λ (s : 0 < head_of b k). absurd (omega (arith, size_is, first_some s, head_class s)))
      (le_or_lt (head_of b k) 0)

  -- as many records are linked as the lists are long
  pub links_some : (j : ℕ) → j < size_of (firsts_of b) k → 0 < link_at b k j
  links_some j h =
      let s = size_some (omega arith) in
      chain_links_lem b 120 k j (120 - class_of b (head_of b k)) (head_of b k) (omega (arith, size_is, first_some s))
      (v.chain k few (λ z. absurd (omega arith)))

  link_class : (j : ℕ) → j < size_of (firsts_of b) k → class_of b (link_at b k j) ≡ first_in b k + j
  link_class j h = (r.chain k few).rising j (links_some j h)
      ∙ ap (λ (c : ℕ). c + j) (sym (first_some (size_some (omega arith))))

-- Every field of the reading stands at its place.
module _ (b : List ℕ) (bytes : OfBytes b) (v : ValidBook 1 b) (r : Rules 1 b) (o : InOrder b) where
  -- entry j of chain k is the record after those of the chains before and the j before it
  order_first : (k : ℕ) → k < chains → 0 < size_of (firsts_of b) k → link_at b k 0 ≡ number_of (firsts_of b) k 0
  unfolding link_from
  order_first k few h = omega (arith, o.heads k few (size_some b v r k few h))

  order_at : (k j : ℕ) → k < chains → j < size_of (firsts_of b) k → link_at b k j ≡ number_of (firsts_of b) k j
  order_at k zero few h = order_first k few h
  order_at k (suc j) few h =
      let some = links_some b v r k few j (omega arith) in
      let step = link_last b j (head_of b k) ∙ after_some b (link_at b k j) some in
      let more = rw step at (links_some b v r k few (suc j) h) in
      omega (arith, step, o.nexts k j few some more, order_at k j few (omega arith))

  head_right : (k : ℕ) → k < chains → head_of b k ≡ head_for (firsts_of b) k
  unfolding link_from
  head_right k few =
      ⊎_elim
      (λ (z : size_of (firsts_of b) k ≤ 0). size_none b v r k few (omega arith)
      ∙ sym (head_none (firsts_of b) k (omega arith)))
      (λ (s : 0 < size_of (firsts_of b) k). order_at k 0 few s ∙ sym (head_some (firsts_of b) k s))
      (le_or_lt (size_of (firsts_of b) k) 0)

  next_right : (k j : ℕ) → k < chains → j < size_of (firsts_of b) k → next_of b (link_at b k j) ≡ next_for (firsts_of b)
      k j
  next_right k j few h =
      let here = (r.chain k few).linked j (links_some b v r k few j h) in
      ⊎_elim
      (λ (e : j + 1 ≡ size_of (firsts_of b) k).
      here.ends (omega (arith, link_class b v r k few j h, size_is b v r k few)) ∙ sym (next_last (firsts_of b) k j e))
      (λ (l : j + 1 < size_of (firsts_of b) k).
      let step : link_at b k (j + 1) ≡ next_of b (link_at b k j) =
      rw (add-one j) (link_last b j (head_of b k) ∙ after_some b (link_at b k j) (links_some b v r k few j h)) in
      sym step ∙ order_at k (j + 1) few l ∙ sym (next_more (firsts_of b) k j l))
      (eq-or-lt_of_le (omega arith))

  field_right : (offset k j : ℕ) → k < chains → j < size_of (firsts_of b) k
      → field_of b (number_of (firsts_of b) k j) offset ≡ get_or (field_list b offset)
      (records_before (firsts_of b) k + j) 0
  field_right offset k j few h =
      ap (λ (i : ℕ). field_of b i offset) (sym (order_at k j few h))
      ∙ sym (lists_at b (firsts_of b) (firsts_size b) offset k j few h)

  front_right : Stands b 0 (front_bytes (values_of b))
  unfolding front_bytes values_of records
  front_right =
      let two : Stands b 0 (byte_at b 0 ∷ 1 ∷ []) = lead in
      let t₄ = byte_at b 0 ∷ 1 ∷ [] ++ two_bytes (read_u16 b 2) in
      let t₆ = t₄ ++ two_bytes (records_before (firsts_of b) chains) in
      let h₄ = stands_both b (byte_at b 0 ∷ 1 ∷ []) (two_bytes (read_u16 b 2)) 0 2 (omega arith) two
      (two_stands b 2 (read_u16 b 2) bytes refl) in
      let l₄ : length t₄ ≡ 4 = omega (arith, two_length (read_u16 b 2)) in
      let h₆ = stands_both b t₄ (two_bytes (records_before (firsts_of b) chains)) 0 4 (omega (arith, l₄)) h₄
      (two_stands b 4 (records_before (firsts_of b) chains) bytes (omega (arith, o.all))) in
      let l₆ : length t₆ ≡ 6 =
      omega (
        arith,
        l₄,
        length-append t₄ (two_bytes (records_before (firsts_of b) chains)),
        two_length (records_before (firsts_of b) chains),
      ) in
      stands_both b t₆ (byte_at b 6 ∷ byte_at b 7 ∷ []) 0 6 (omega (arith, l₆)) h₆ percents
    where
      lead : Stands b 0 (byte_at b 0 ∷ 1 ∷ [])
      lead zero h = refl
      lead (suc zero) h = r.header.basis_is
      lead (suc (suc p)) h = absurd (omega arith)

      percents : Stands b 6 (byte_at b 6 ∷ byte_at b 7 ∷ [])
      percents zero h = refl
      percents (suc zero) h = refl
      percents (suc (suc p)) h = absurd (omega arith)

  entry_right : (k j : ℕ) → k < chains → j < size_of (firsts_of b) k
      → Stands b (header_size + record_size * (records_before (firsts_of b) k + j))
      (record_bytes_of (contents_of b) k j)
  unfolding record_bytes_of contents_of values_of class_of next_of field_of
  entry_right k j few h =
      let place : header_size + record_size * (records_before (firsts_of b) k + j) ≡ record_at
      (number_of (firsts_of b) k j) =
      omega arith in
      let e = order_at k j few h in
      let rules : RecordRules b 120 k (number_of (firsts_of b) k j) =
      rw e at ((r.chain k few).linked j (links_some b v r k few j h)) in
      let class : class_of b (number_of (firsts_of b) k j) ≡ get_or (firsts_of b) k 0 + j =
      rw (← e, firsts_at b k few) (link_class b v r k few j h) in
      let next : next_of b (number_of (firsts_of b) k j) ≡ next_for (firsts_of b) k j = rw (← e) (next_right k j few h)
      in
      rw place
      (of_entry b (record_at (number_of (firsts_of b) k j)) k _ _ _ _ _ _
      (record {
        code_is = rules.code;
        sex_is = rules.sex;
        class_is = class;
        spare_is = rules.spare;
        next_stands = two_stands b _ _ bytes next;
        spare_stands = two_stands b _ 0 bytes rules.spare_two;
        count_stands = four_stands b _ _ bytes (field_right count_offset k j few h);
        lapse_stands = four_stands b _ _ bytes (field_right lapse_offset k j few h);
        premium_stands = four_stands b _ _ bytes (field_right premium_offset k j few h);
        claims_stands = four_stands b _ _ bytes (field_right claims_offset k j few h);
      }))

  laid_again : Laid b (contents_of b)
  unfolding contents_of values_of head_of
  laid_again =
      record {
        front = front_right;
        head = λ k few. two_stands b (head_place k) _ bytes (head_right k few);
        cost = λ j l. four_stands b _ _ bytes (sym (each_at (λ (i : ℕ). read_u32 b (cost_place + 4 * i)) 0 5 j l));
        curve = λ j l.
            let at = curve_place + 4 * j in
            let e = each_at (λ (i : ℕ). signed_of (read_u32 b (curve_place + 4 * i))) (pos 0) 49 j l in
            four_stands b _ _ bytes (sym (ap twos_complement e ∙ signed_back (read_u32 b at) (u32_small b at 0 bytes)));
        mortality = λ j l. four_stands b _ _ bytes
            (sym (each_at (λ (i : ℕ). read_u32 b (mortality_place + 4 * i)) 0 242 j l));
        entry = entry_right;
      }

-- The book of the reading is the book.
pub written_again : (b : List ℕ) (n : ℕ) → OfBytes b → check_book 1 b ≡ Ok n → InOrder b
    → book_of (contents_of b) ≡ b
unfolding contents_of values_of
written_again b n bytes e o =
    let v = valid 1 b n e in
    let r = accepted_rules 1 b n e in
    let size : length (book_of (contents_of b)) ≡ length b =
    omega (arith, book_length (contents_of b), r.header.size, o.all) in
    stands_whole b (book_of (contents_of b)) size (laid_stands b (contents_of b) (laid_again b bytes v r o))

-- What is read keeps the rules of values. Past its end a list reads 0.
each_most : (f : ℕ → ℕ) (n most : ℕ) → ((j : ℕ) → j < n → f j ≤ most) → (j : ℕ) → get_or (each f n) j 0 ≤ most
each_most f n most = each_all (λ (x : ℕ). x ≤ most) f 0 n zero-le

append_most : (s t : List ℕ) (most : ℕ) → ((j : ℕ) → get_or s j 0 ≤ most) → ((j : ℕ) → get_or t j 0 ≤ most) → (j : ℕ)
    → get_or (s ++ t) j 0 ≤ most
append_most s t most hs ht j =
    ⊎_elim
    (λ (g : length s ≤ j).
    let place : length s + (j - length s) ≡ j = omega arith in
    rw place at (rw (← get_or-append-add s t (j - length s) 0) at (ht (j - length s))))
    (λ (l : j < length s). omega (arith, get_or-append s t 0 j l, hs j))
    (le_or_lt (length s) j)

joined_most : (f : ℕ → List ℕ) (n most : ℕ) → ((k : ℕ) → k < n → (j : ℕ) → get_or (f k) j 0 ≤ most) → (j : ℕ)
    → get_or (joined f n) j 0 ≤ most
unfolding joined
joined_most f zero most h j = zero-le
joined_most f (suc n) most h j =
    append_most (joined f n) (f n) most (joined_most f n most (λ k l. h k (omega arith))) (h n (omega arith)) j

module _ (b : List ℕ) (v : ValidBook 1 b) (r : Rules 1 b) where
  list_most : (offset most : ℕ)
      → ((k j : ℕ) → k < chains → j < size_of (firsts_of b) k → field_of b (link_at b k j) offset ≤ most)
      → (i : ℕ) → get_or (field_list b offset) i 0 ≤ most
  unfolding field_list list_in
  list_most offset most h =
      joined_most (list_in b offset) chains most
      (λ k few. each_most (λ (j : ℕ). field_of b (link_at b k j) offset) (no_class - first_in b k) most
      (λ j l. h k j few (omega (arith, firsts_size b k few))))

  linked_rules : (k j : ℕ) → k < chains → j < size_of (firsts_of b) k → RecordRules b 120 k (link_at b k j)
  linked_rules k j few h = (r.chain k few).linked j (links_some b v r k few j h)

  curve_most : OfBytes b → (j : ℕ)
      → curve_rate (get_or (each (λ (i : ℕ). signed_of (read_u32 b (curve_place + 4 * i))) 49) j (pos 0)) ≡ true
  unfolding curve_rate
  curve_most bytes =
      each_all (λ (z : ℤ). curve_rate z ≡ true) (λ (i : ℕ). signed_of (read_u32 b (curve_place + 4 * i))) (pos 0) 49
      refl
      (λ j l.
      signed_rate (read_u32 b (curve_place + 4 * j)) (u32_small b (curve_place + 4 * j) 0 bytes) (r.tables.curve j l))

  -- the spare bytes of edition 1 are zero, each
  spare_both : edition b ≡ 1 → byte_at b 6 + 256 * byte_at b 7 ≡ 0
  unfolding read_u16
  spare_both one = omega (arith, r.header.spare one)

  reading_fit : OfBytes b → Fit (contents_of b)
  unfolding contents_of values_of firsts_of field_list
  reading_fit bytes =
      let sizes = firsts_size b in
      record {
        first = each_most (first_in b) chains 121 (λ k few. first_most b v r k few);
        counts_size = lists_size b (firsts_of b) sizes count_offset chains (omega arith);
        lapses_size = lists_size b (firsts_of b) sizes lapse_offset chains (omega arith);
        premiums_size = lists_size b (firsts_of b) sizes premium_offset chains (omega arith);
        claims_size = lists_size b (firsts_of b) sizes claims_offset chains (omega arith);
        edition_low = r.header.edition_low;
        edition_high = r.header.edition_high;
        no_men = λ one. omega (arith, spare_both one);
        no_women = λ one. omega (arith, spare_both one);
        men_low = λ two. r.header.percent_low two 0 (omega arith);
        men_high = λ two. r.header.percent_high two 0 (omega arith);
        women_low = λ two. r.header.percent_low two 1 (omega arith);
        women_high = λ two. r.header.percent_high two 1 (omega arith);
        year_low = r.header.year_low;
        year_high = r.header.year_high;
        cost = each_most _ 5 most_rate r.tables.cost;
        curve = curve_most bytes;
        mortality = each_most _ 242 most_rate r.tables.mortality;
        count = list_most count_offset most_count (λ k j few h. (linked_rules k j few h).count);
        lapse = list_most lapse_offset most_rate (λ k j few h. (linked_rules k j few h).lapse);
        premium = list_most premium_offset most_amount (λ k j few h. (linked_rules k j few h).premium);
        claim = list_most claims_offset most_amount (λ k j few h. (linked_rules k j few h).claims);
      }

-- What is read from an accepted book, in order or not, is not refused where the caller's buffer takes its book.
pub reading_taken : (b : List ℕ) (n capacity : ℕ) → check_book 1 b ≡ Ok n → OfBytes b
    → book_size (firsts_of b) ≤ capacity
    → check_contents (contents_of b) capacity ≡ Ok 0
unfolding contents_of values_of
reading_taken b n capacity e bytes enough =
    fit_good (contents_of b) capacity (reading_fit b (valid 1 b n e) (accepted_rules 1 b n e) bytes) enough

-- So a book in order is written again: its reading is not refused in a buffer of its own length.
pub taken_again : (b : List ℕ) (n : ℕ) → OfBytes b → check_book 1 b ≡ Ok n → InOrder b
    → check_contents (contents_of b) (length b) ≡ Ok 0
taken_again b n bytes e o =
    reading_taken b n (length b) e bytes (omega (arith, (accepted_rules 1 b n e).header.size, o.all))
