use mathlib.Core.Path.{◌≡◌}
use native.Mathlib.Omega.{arith}
use Rattle.buffer.specs.Text.{joined}
use Rattle.buffer.proofs.Digits.{nothing, kept}
use Rattle.book_contents.specs.Contents.{given_lists, size_of}
use Rattle.book_contents.specs.Written.{chain_bytes}
use Rattle.book_write_chains.proofs.ChainRecords.{records_more, chain_capacity}
use Rattle.book_write_chains.proofs.put_chain.Goals as goal

pub loop-j-init : goal.loop-j-init
unfolding joined
loop-j-init c =
    let chain = c.args.chain in (
      omega arith,
      nothing _ _,
      omega arith,
      chain_capacity _ _ _ _ c.requires.1 chain.known chain.counted c.size-j-end.ensures.0,
    )

pub loop-j-preserved : goal.loop-j-preserved
loop-j-preserved c =
    let x = c.args in
    let l = c.loop-j in
    let link = c.next_for-link in
    let v = given_lists x.chain.values.now x.lists in (
      omega (arith, c.loop-j-test.true),
      records_more v x.chain.number l.j x.chain.before link.result x.chain.counted link.ensures l.invariant.1
          c.put_record-next.ensures.0,
      omega (arith, c.put_record-next.ensures.1, l.invariant.2),
      l.invariant.3,
    )

pub shape_of-out : goal.shape_of-out
shape_of-out c = kept c.loop-j.invariant.1

pub returns : goal.returns
unfolding chain_bytes
returns c =
    let l = c.loop-j in
    let chain = c.args.chain in
    let all : l.j ≡ size_of chain.values.now.first chain.number = omega (arith, c.size-j-end.ensures.0) in
    (rw all at l.invariant.1, omega (arith, l.invariant.2))
