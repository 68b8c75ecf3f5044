-- What a pass along the chains of an accepted book takes, and runs of numbers, one more at a time. Assumes nothing.
use mathlib.Core.Path.{◌≡◌, refl, ap, ◌∙◌}
use mathlib.Core.List.{List, [], ◌∷◌, ◌++◌}
use Prim.Native.Nat.{ℕ, ◌+◌, ◌-◌, ◌<◌, ◌≤◌}
use native.Mathlib.Numerals.{add-one}
use native.Mathlib.Omega.{arith}
use borrow.Author.Tests.{leb-true}
use lib.ListN.{length, drop}
use lib.Seq.{sets, length-sets}
use Rattle.verdict.specs.Verdicts.{first_refusal, Verdict}
use Rattle.std.specs.Prelude.{Ok, Err}
use Rattle.verdict.specs.declared.Refusal.{Refusal}
use Rattle.verdict.proofs.Verdicts.{need_true, then_left, then_right, accepted}
use Rattle.book.specs.Layout.{header_size, chains, head_of, next_of, link_from, link_at}
use Rattle.book.specs.Check.{check_book}
use Rattle.book.specs.Reading.{Inside}
use Rattle.book.proofs.Links.{after_some}
use Rattle.book.proofs.Valid.{valid}
use Rattle.book.proofs.Exact.{accepted_rules}
use Rattle.buffer.specs.Text.{Wrote}
use Rattle.buffer.proofs.Digits.{◌then◌, from_start}
use Rattle.book_contents.specs.Contents.{no_class, records_before}
use Rattle.book_contents.specs.Reading.{first_in, firsts_of, field_list, check_read, Sound}
use Rattle.book_contents.proofs.Lists.{firsts_size, lists_size}
use Rattle.book_contents.proofs.Again.{link_last, links_some, first_most}
use Rattle.lists.specs.Each.{each}

-- the book has its header, and every head leads into it
pub sound_long : (b : List ℕ) → Sound b → header_size ≤ length b
sound_long b e = omega (arith, (accepted_rules 1 b _ e).header.size)

pub sound_head : (b : List ℕ) → Sound b → (k : ℕ) → k < chains → 0 < head_of b k → Inside b (head_of b k)
unfolding link_from
sound_head b e k few some =
    let r = accepted_rules 1 b _ e in
    (some, omega (arith, r.header.size, ((r.chain k few).linked 0 some).inside))

module _ (b : List ℕ) (e : Sound b) (k : ℕ) (few : k < chains) where
  pub sound_first : first_in b k ≤ 121
  sound_first = first_most b (valid 1 b _ e) (accepted_rules 1 b _ e) k few

  -- entry j of chain k lies in the book, and is followed by the next one
  pub sound_inside : (j : ℕ) → j < no_class - first_in b k → Inside b (link_at b k j)
  sound_inside j h =
      let r = accepted_rules 1 b _ e in
      let some = links_some b (valid 1 b _ e) r k few j (omega (arith, firsts_size b k few)) in
      (some, omega (arith, r.header.size, ((r.chain k few).linked j some).inside))

  pub sound_next : (j : ℕ) → j < no_class - first_in b k → link_at b k (j + 1) ≡ next_of b (link_at b k j)
  sound_next j h = rw (add-one j) (link_last b j (head_of b k) ∙ after_some b (link_at b k j) (sound_inside j h).0)

pub sound_size : (b : List ℕ) (offset : ℕ) → length (field_list b offset) ≡ records_before (firsts_of b) chains
unfolding field_list
sound_size b offset = lists_size b (firsts_of b) (firsts_size b) offset chains (omega arith)

-- numbers written one after the other
pub each_wrote : {e x y : List ℕ} {at r q : ℕ} (f : ℕ → ℕ) (j : ℕ) → Wrote e at (each f j) x r
    → Wrote x r (f j ∷ []) y q → Wrote e at (each f (j + 1)) y q
unfolding each
each_wrote f j v w = rw (add-one j) (v then w)

-- a refused book gives its refusal, however long the four buffers are
pub book_refused : (b : List ℕ) (counts lapses premiums claims : ℕ) (r : Refusal) → check_book 1 b ≡ Err r
    → check_read b counts lapses premiums claims ≡ Err r
unfolding check_read first_refusal
book_refused b counts lapses premiums claims r e = rw e

-- what an accepted reading says of the book and of the four buffers
module _ (b : List ℕ) (counts lapses premiums claims n : ℕ)
    (e : check_read b counts lapses premiums claims ≡ Ok n) where
  pub read_sound : Sound b
  read_sound = by (check_book 1 b) refl
    where
      by : (v : Verdict) → check_book 1 b ≡ v → Sound b
      by (Ok m) h = accepted _ m h
      by (Err r) h = let f = book_refused b counts lapses premiums claims r h in cc

  pub read_counts : records_before (firsts_of b) chains ≤ counts
  unfolding check_read
  read_counts = leb-true _ _
      (need_true _ _ _ _ (then_right _ _ _ (then_left _ _ _ (then_left _ _ _ (then_left _ _ _ e)))))

  pub read_lapses : records_before (firsts_of b) chains ≤ lapses
  unfolding check_read
  read_lapses = leb-true _ _ (need_true _ _ _ _ (then_right _ _ _ (then_left _ _ _ (then_left _ _ _ e))))

  pub read_premiums : records_before (firsts_of b) chains ≤ premiums
  unfolding check_read
  read_premiums = leb-true _ _ (need_true _ _ _ _ (then_right _ _ _ (then_left _ _ _ e)))

  pub read_claims : records_before (firsts_of b) chains ≤ claims
  unfolding check_read
  read_claims = leb-true _ _ (need_true _ _ _ _ (then_right _ _ _ e))

-- a buffer that takes the lists of one kind has them, and then its numbers as they were
pub filled : (b : List ℕ) (offset : ℕ) (entry exit : List ℕ) → records_before (firsts_of b) chains ≤ length entry
    → exit ≡ sets entry 0 (field_list b offset)
    → exit ≡ field_list b offset ++ drop (length (field_list b offset)) entry
filled b offset entry exit fits e =
    let w : Wrote entry 0 (field_list b offset) exit (0 + length (field_list b offset)) =
    record { bytes = e; place = refl } in
    from_start w (omega (arith, sound_size b offset))

pub filled_kept : (b : List ℕ) (offset : ℕ) (entry exit : List ℕ) → exit ≡ sets entry 0 (field_list b offset)
    → length exit ≡ length entry
filled_kept b offset entry exit e = ap length e ∙ length-sets entry 0 (field_list b offset)

-- what the readers of an accepted book stand on
pub ruleset reading = (sound_long, sound_inside, read_sound, filled_kept)
