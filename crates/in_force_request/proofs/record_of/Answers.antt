use mathlib.Core.Path.{◌≡◌, refl, sym, ap, ◌∙◌}
use Prim.Native.Nat.{ℕ, zero, suc, ◌+◌, ◌-◌, ◌<◌}
use Rattle.std.specs.Prelude.{Some}
use Rattle.in_force_request.specs.Request.{if_any}
use native.Mathlib.Omega.{arith}
use Rattle.book.specs.Layout.{class_of}
use Rattle.book.specs.Rules.{RecordRules}
use Rattle.book.specs.Reading.{ChainFrom}
use Rattle.book.proofs.Valid.{chain_here, chain_next}
use Rattle.in_force_request.proofs.Records.{chain_empty, chain_list, counted_here, counted_on, counted_end}
use Rattle.in_force_request.proofs.record_of.Goals as goal
use Rattle.in_force_request.proofs.record_of.Goals.{At-loop-k, Else-head-eq0}

pub head_of-head-requires : goal.head_of-head-requires
head_of-head-requires c = (c.requires.1, omega (arith, c.requires.0.header.size))

pub returns-then-head-eq0 : goal.returns-then-head-eq0
returns-then-head-eq0 c =
    let none = sym c.head_of-head.ensures.0 ∙ c.if-head-eq0.true in
    rw (chain_empty _ c.requires.0 _ c.requires.1 c.args.class none)

-- a number that is not 0 is one of a record
found : (i : ℕ) → 0 < i → Some i ≡ if_any i
found zero h = absurd (omega arith)
found (suc i) h = refl

-- the chain from its head on
module _ (c : Else-head-eq0) where
  whole : ChainFrom c.args.book.now 120 c.args.k
      (120 - class_of c.args.book.now c.head_of-head.result)
      c.head_of-head.result
  whole =
      let e = c.head_of-head.ensures.0 in
      rw e (c.requires.0.chain c.args.k c.requires.1 (λ none. c.if-head-eq0.false (e ∙ none)))

  head_rules : RecordRules c.args.book.now 120 c.args.k
      c.head_of-head.result
  head_rules = chain_here _ 120 _ _ _ whole

pub class_of-above-requires : goal.class_of-above-requires
class_of-above-requires c =
    let r = head_rules (goal.at.class_of-above-requires c).Else-head-eq0 in
    (r.first, omega (arith, r.inside, c.requires.0.header.size))

pub overflow_sub-above : goal.overflow_sub-above
overflow_sub-above c =
    omega (arith, (head_rules (goal.at.overflow_sub-above c).Else-head-eq0).class_high, c.class_of-above.ensures)

pub loop-k-init : goal.loop-k-init
loop-k-init c =
    let h = c.head_of-head in
    let e = h.ensures.0 in
    let list = chain_list _ c.requires.0 _ c.requires.1 c.args.class (λ none. c.if-head-eq0.false (e ∙ none)) in (
      omega arith,
      rw c.class_of-above.ensures.0 (whole (goal.at.loop-k-init c).Else-head-eq0),
      rw (c.class_of-above.ensures.0, e) (sym list),
    )

-- the record that the loop stands at
here : (m : At-loop-k) → RecordRules m.args.book.now 120 m.args.k m.loop-k.i
here m = chain_here _ 120 _ _ m.loop-k.i m.loop-k.invariant.1

pub class_of-here-requires : goal.class_of-here-requires
class_of-here-requires c =
    let r = here (goal.at.class_of-here-requires c).At-loop-k in
    (r.first, omega (arith, r.inside, c.requires.0.header.size))

pub returns-then-here-class : goal.returns-then-here-class
returns-then-here-class c =
    let l = c.loop-k in
    let r = here (goal.at.returns-then-here-class c).At-loop-k in
    let is =
    sym (counted_here _ _ l.above l.i (sym c.class_of-here.ensures.0 ∙ c.if-here-class.true)) ∙ l.invariant.2 in
    found l.i r.first ∙ ap if_any is

pub returns-then-above-eq0 : goal.returns-then-above-eq0
returns-then-above-eq0 c =
    let l = c.loop-k in
    ap if_any
    (sym (counted_end _ _ l.above l.i c.if-above-eq0.true
    (λ is. c.if-here-class.false (c.class_of-here.ensures.0 ∙ is)))
    ∙ l.invariant.2)

pub next_of-i-requires : goal.next_of-i-requires
next_of-i-requires c =
    let r = here (goal.at.next_of-i-requires c).At-loop-k in
    (r.first, omega (arith, r.inside, c.requires.0.header.size))

pub loop-k-preserved : goal.loop-k-preserved
loop-k-preserved c =
    let b = c.args.book.now in
    let l = c.loop-k in
    let left : ℕ = l.above - 1 in
    let more : l.above ≡ left + 1 = omega (arith, c.if-above-eq0.false) in
    let next = c.next_of-i.ensures.0 in
    let test = c.class_of-here.ensures.0 in
    let other : class_of b l.i ≡ c.args.class → ⊥ = λ is. c.if-here-class.false (test ∙ is) in (
      omega arith,
      rw next (chain_next b 120 c.args.k l.above left l.i more l.invariant.1),
      rw next (sym (counted_on b c.args.class l.above left l.i more other) ∙ l.invariant.2),
    )
