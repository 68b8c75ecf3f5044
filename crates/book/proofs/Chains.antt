-- Laws of the check of a chain: one record, one step, and how much is counted. Assumes nothing.
use mathlib.Core.Path.{◌≡◌, ◌∙◌}
use mathlib.Core.List.{List}
use mathlib.Core.Bool.{Bool, true, false, cond}
use Prim.Native.Nat.{ℕ, zero, suc, ◌+◌, ◌-◌, ◌<◌, ◌≤◌, zero-le}
use native.Mathlib.Nat.{pos_of_ne-zero, le_trans}
use native.Mathlib.Numerals.{add-one}
use native.Mathlib.Omega.{arith}
use borrow.Author.Tests.{leb-true, eqb-false, ne_eqb, not-true}
use lib.Dec.{leb, eqb}
use Rattle.verdict.specs.declared.Refusal.{Refusal}
use Rattle.verdict.specs.Verdicts.{first_refusal, need, plus, count_of, Verdict}
use Rattle.std.specs.Prelude.{Ok, Err}
use Rattle.verdict.proofs.Verdicts.{plus_plus, plus_count, then_count, need_true, then_left, then_right, accepted}
use Rattle.book.specs.Layout.{lowest_class, records, head_place, head_of, record_at, class_of, next_of}
use Rattle.book.specs.Check.{check_owner, check_class, check_amounts, ends_right, check_link, check_from, check_chain}
use Rattle.book.specs.Cells.{holds}
use Rattle.book.proofs.Cells.{holds_one}

module _ (b : List ℕ) (last k : ℕ) where
  -- one step of a pass: n counted so far, left classes above record i
  pub from_bad : (left i n : ℕ) (r : Refusal) → check_link b last k left i ≡ Err r
      → plus n (check_from b last k left i) ≡ Err r
  unfolding check_from first_refusal
  from_bad zero i n r e = rw e
  from_bad (suc left) i n r e = rw e

  pub from_end : (left i n m : ℕ) → left ≡ 0 → check_link b last k left i ≡ Ok m
      → plus n (check_from b last k left i) ≡ Ok (n + holds b i)
  unfolding check_from first_refusal
  from_end zero i n m z e = rw e
  from_end (suc left) i n m z e = absurd (omega arith)

  pub from_more : (left rest i n m : ℕ) → left ≡ rest + 1 → check_link b last k left i ≡ Ok m
      → plus n (check_from b last k left i) ≡ plus (n + holds b i) (check_from b last k rest (next_of b i))
  unfolding check_from first_refusal
  from_more left rest i n m s e =
      let t : left ≡ suc rest = s ∙ add-one rest in
      rw (t, rw t at e) (plus_plus n (holds b i) (check_from b last k rest (next_of b i)))

  -- a chain counts each of its records at most once
  from_count : (left i : ℕ) → count_of (check_from b last k left i) ≤ left + 1
  unfolding check_from
  from_count zero i =
      le_trans (then_count (check_link b last k zero i) (Ok (holds b i))) (omega (arith, holds_one b i))
  from_count (suc left) i =
      let rest = check_from b last k left (next_of b i) in
      le_trans (then_count (check_link b last k (suc left) i) (plus (holds b i) rest))
      (omega (arith, holds_one b i, plus_count (holds b i) rest, from_count left (next_of b i)))

  -- what an accepted record says
  module _ (left i m : ℕ) (e : check_link b last k left i ≡ Ok m) where
    pub link_owner : check_owner b k (record_at i) ≡ Ok (count_of (check_owner b k (record_at i)))
    unfolding check_link
    link_owner = then_left _ _ _ (then_left _ _ _ (then_left _ _ _ (then_left _ _ _ e)))

    pub link_class : let v = check_class b (lowest_class last) (last - left) (record_at i) in v ≡ Ok (count_of v)
    unfolding check_link
    link_class = accepted _ _ (then_right _ _ _ (then_left _ _ _ (then_left _ _ _ (then_left _ _ _ e))))

    pub link_amounts : check_amounts b (record_at i) ≡ Ok (count_of (check_amounts b (record_at i)))
    unfolding check_link
    link_amounts = accepted _ _ (then_right _ _ _ (then_left _ _ _ (then_left _ _ _ e)))

    pub link_ends : ends_right left (next_of b i) ≡ true
    unfolding check_link
    link_ends = need_true _ _ _ _ (then_right _ _ _ (then_left _ _ _ e))

    pub link_inside : next_of b i ≤ records b
    unfolding check_link
    link_inside = leb-true _ _ (need_true _ _ _ _ (then_right _ _ _ e))

    pub link_some : 0 < left → 0 < next_of b i
    unfolding ends_right
    link_some h =
        let t : ends_right left (next_of b i) ≡ true = link_ends in
        pos_of_ne-zero (eqb-false _ _ (not-true _ (rw (ne_eqb left 0 (λ z. absurd (omega arith))) at t)))

pick_count : (t : Bool) (v : Verdict) (n : ℕ) → count_of v ≤ n → count_of (cond t (Ok 0) v) ≤ n
pick_count true v n h = zero-le
pick_count false v n h = h

pub chain_count : (b : List ℕ) (last k : ℕ) → count_of (check_chain b last k) ≤ last + 1
unfolding check_chain
chain_count b last k =
    let head = head_of b k in
    pick_count (eqb head 0) _ _
    (le_trans (then_count (need (leb head (records b)) 9 (head_place k))
    (check_from b last k (last - class_of b head) head))
    (le_trans (from_count b last k (last - class_of b head) head) (omega arith)))
