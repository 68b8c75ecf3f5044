use mathlib.Core.Path.{◌≡◌, sym, ap, ◌∙◌}
use Prim.Native.Nat.{ℕ, ◌-◌}
use native.Mathlib.Omega.{arith}
use Rattle.book.specs.Layout.{field_of, next_of, link_from, link_at}
use Rattle.buffer.proofs.Digits.{nothing, kept}
use Rattle.book_contents.specs.Contents.{no_class}
use Rattle.book_contents.specs.Reading.{first_in, list_in}
use Rattle.book_contents.proofs.Projection.{sound_next, each_wrote}
use Rattle.lists.specs.Each.{each}
use Rattle.book_read_lists.proofs.fill_chain.Goals as goal

pub loop-init : goal.loop-init
unfolding each link_from
loop-init c = (omega arith, c.head_of-i.ensures.0, nothing _ _, omega arith)

pub loop-preserved : goal.loop-preserved
loop-preserved c =
    let l = c.loop in
    let f = c.first_in.ensures.0 in
    let b = c.args.book.now in
    let less = c.loop-test.true in
    let next = c.next_of-i.ensures.0 ∙ ap (next_of b) l.invariant.1
    ∙ sym (sound_next b c.requires.3 c.args.k c.requires.0 l.counter (omega (arith, less, f))) in
    let field = c.field_of.ensures.0
    ∙ ap (λ (i : ℕ). field_of b i c.args.offset) l.invariant.1 in
    let w = c.put_entry-next.ensures in (
      omega (arith, less),
      next,
      each_wrote (λ (j : ℕ). field_of b (link_at b c.args.k j) c.args.offset) l.counter l.invariant.2
          (rw field at w),
      omega (arith, w.place, l.invariant.3),
    )

pub shape_of-list : goal.shape_of-list
shape_of-list c = kept c.loop.invariant.2

pub returns : goal.returns
unfolding list_in
returns c =
    let l = c.loop in
    let f = c.first_in.ensures.0 in
    let all : l.counter ≡ no_class - first_in c.args.book.now c.args.k =
    omega (arith, f, c.loop-test.false, l.invariant.0) in
    (rw all at l.invariant.2, omega (arith, l.invariant.3, l.invariant.0))
