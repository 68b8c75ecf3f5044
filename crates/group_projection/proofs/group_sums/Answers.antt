use mathlib.Core.Path.{◌≡◌, ◌∙◌}
use mathlib.Core.List.{List}
use Prim.Native.Nat.{ℕ, ◌+◌, ◌-◌, ◌*◌, ◌<◌}
use native.Mathlib.Omega.{arith}
use lib.ListN.{get_or}
use Rattle.std.specs.Prelude.{Option}
use Rattle.lists.proofs.AtMost.{most_higher, most_replicate}
use Rattle.book.specs.Cells.{chains_of, held_of_group}
use Rattle.settings_decrements.specs.Decrements.{decrements_of}
use Rattle.valuation.specs.Arithmetic.{rounded}
use Rattle.valuation.specs.Steps.{premium_sum, claims_sum}
use Rattle.valuation.specs.Portfolio.{group_links, group_cells}
use Rattle.cell_projection.specs.Tables.{amount_in, Among, added_all}
use Rattle.cell_projection.proofs.Records.{amount_in_le, premium_column_at, claims_column_at}
use Rattle.group_projection.proofs.Adding.{zeros, gather_more, gather_end, group_held_none}
use Rattle.group_projection.proofs.Adding.{group_held_more, sum_from_zero, sum_same, premium_sum_is}
use Rattle.group_projection.proofs.Adding.{claims_sum_is}
use Rattle.group_projection.proofs.group_sums.Goals as goal

pub loop-k-init : goal.loop-k-init
unfolding zeros
loop-k-init c =
    let none = c.requires.5 in (
      omega arith,
      omega arith,
      omega arith,
      (rw none, rw none (most_higher (most_replicate 500 0) (omega arith))),
      group_held_none _ _,
    )

pub loop-k-preserved : goal.loop-k-preserved
loop-k-preserved c =
    let l = c.loop-k in
    let b = c.args.book.now in
    let e = c.add_chain-n.ensures in (
      omega arith,
      omega arith,
      omega (arith, e.few),
      gather_more (amount_in b c.args.which) b (λ k i f s. amount_in_le b c.args.which k i s) c.requires.1 _ _
          zeros l.k l.numbers _ l.invariant.3 (omega arith) (omega arith) (omega arith) e.sums,
      group_held_more b _ l.k l.n c.add_chain-n.result (omega arith) l.invariant.4 e.n_is,
    )

-- the sum over the records of what a projection adds in a year
module _ (b : List ℕ) (which : Option ℕ) (g s k : ℕ) (t : List ℕ)
    (e : t ≡ added_all (amount_in b which) (group_links b g) zeros)
    (h : s < 5) (among : Among which s) (l : k < 50) where
  premium_sum_lem : get_or t (10 * k + 2 * s) 0 ≡ premium_sum rounded (group_cells b (decrements_of b s) g) k
  unfolding zeros
  premium_sum_lem =
      sum_from_zero (amount_in b which) (group_links b g) t e _ (omega arith) ∙ sum_same _ _
      (λ i. premium_column_at b which k s i among h l) (group_links b g)
      ∙ premium_sum_is b (decrements_of b s) k (group_links b g)

  claims_sum_lem : get_or t (10 * k + 2 * s + 1) 0 ≡ claims_sum rounded (group_cells b (decrements_of b s) g) k
  unfolding zeros
  claims_sum_lem =
      sum_from_zero (amount_in b which) (group_links b g) t e _ (omega arith) ∙ sum_same _ _
      (λ i. claims_column_at b which k s i among h l) (group_links b g)
      ∙ claims_sum_is b (decrements_of b s) k (group_links b g)

pub returns : goal.returns
unfolding held_of_group
returns c =
    let l = c.loop-k in
    let b = c.args.book.now in
    let g = c.args.group in
    let f = c.first_chain-from in
    let to : ℕ = 4 + 2 * g in
    let e : l.k ≡ to = omega arith in
    let some : to - f.result ≡ chains_of g = omega (arith, f.ensures.1) in
    let p = rw (some, f.ensures.0) at
    (gather_end (amount_in b c.args.which) b (λ k i h s. amount_in_le b c.args.which k i s) c.requires.1
    f.result to zeros l.k l.numbers e l.invariant.3) in
    record {
      table =
          λ s h among.
          record {
            premium_is = λ k q. premium_sum_lem b c.args.which g s k l.numbers p h among q;
            claims_is = λ k q. claims_sum_lem b c.args.which g s k l.numbers p h among q;
            most = most_higher l.invariant.3.1 (omega arith);
          };
      n_is = rw (e, some, f.ensures.0) at l.invariant.4;
    }
