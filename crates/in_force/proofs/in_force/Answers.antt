-- `in_force::in_force` meets its contract: the first refusal is given and nothing is touched; else the numbers are
-- those of `run`. Assumes nothing.
use mathlib.Core.Path.{◌≡◌, refl, sym, ap, ◌∙◌}
use Prim.Native.Nat.{ℕ}
use native.Mathlib.Omega.{arith}
use lib.ListN.{length}
use Rattle.std.specs.Prelude.{Some, Ok}
use Rattle.std.specs.Result.{result_ok}
use Rattle.verdict.proofs.Verdicts.{handed_on}
use Rattle.book.specs.Check.{check_book}
use Rattle.book.proofs.Valid.{valid}
use Rattle.valuation.specs.Portfolio.{chain_links}
use Rattle.in_force_request.specs.Request.{of_class, record_at_class, if_any, asked_check}
use Rattle.in_force_request.proofs.Records.{link_standing, if_some, if_none}
use Rattle.in_force_request.proofs.Asked.{asked_setting, asked_code, asked_sex, asked_numbers}
use Rattle.in_force.specs.InForceRun.{in_force_run}
use Rattle.in_force.proofs.InForceContract.{by_asked, by_book, by_class, by_none, not_shown, shown}
use Rattle.in_force.proofs.in_force.Goals as goal
use Rattle.in_force.proofs.in_force.Goals.{After-record_of, In_ok-check_asked, In_ok-check, In_ok-i}

pub returns-in_err-check_asked : goal.returns-in_err-check_asked
returns-in_err-check_asked c =
    let e = sym c.check_asked.ensures ∙ c.in_err-check_asked.was in
    not_shown _ _ _ _ _ _ _ _ _ (by_asked _ _ _ _ _ _ _ e) (handed_on _ c.from_residual.ensures) refl

-- the caller's own tests are passed
asked : (c : In_ok-check_asked) → asked_check c.args.setting c.args.code c.args.sex (length c.args.out.now)
    ≡ Ok c.in_ok-check_asked.field-0
asked c = sym c.check_asked.ensures ∙ c.in_ok-check_asked.was

pub returns-in_err-check : goal.returns-in_err-check
returns-in_err-check c =
    let f = sym c.check.ensures ∙ c.in_err-check.was in
    let a = asked (goal.at.returns-in_err-check c).In_ok-check_asked in
    not_shown _ _ _ _ _ _ _ _ _ (by_book _ _ _ _ _ _ _ a _ f) (handed_on _ c.from_residual-in_err-check.ensures) refl

-- and so is the book's check
checked : (c : In_ok-check) → check_book 1 c.args.book.now ≡ Ok c.in_ok-check.field-0
checked c = sym c.check.ensures ∙ c.in_ok-check.was

pub chain_of-chain-requires : goal.chain_of-chain-requires
chain_of-chain-requires c =
    let e = asked (goal.at.chain_of-chain-requires c).In_ok-check_asked in
    ((asked_code _ _ _ _ _ e).0, (asked_code _ _ _ _ _ e).1, asked_sex _ _ _ _ _ e)

pub record_of-requires : goal.record_of-requires
record_of-requires c =
    (valid 1 _ _ (checked (goal.at.record_of-requires c).In_ok-check), c.chain_of-chain.ensures.1)

-- what `record_of` found is the record that is asked for
found : (c : After-record_of) → c.record_of.result ≡
    if_any (record_at_class c.args.book.now c.args.code c.args.sex c.args.class)
unfolding record_at_class
found c =
    let b = c.args.book.now in
    c.record_of.ensures
    ∙ ap (λ (k : ℕ). if_any (of_class b c.args.class (chain_links b k))) c.chain_of-chain.ensures.0

pub returns-in_err-i : goal.returns-in_err-i
returns-in_err-i c =
    let p = goal.at.returns-in_err-i c in
    let e = c.in_err-i.was in
    let none = c.ok_or.ensures.ok_part ∙ ap result_ok e in
    let told = rw none at c.ok_or.ensures.value in
    rw (handed_on _ c.from_residual-in_err-i.ensures, ← e, told)
    (not_shown _ _ _ _ _ _ _ _ _
    (by_class _ _ _ _ _ _ _ (asked p.In_ok-check_asked) _ (checked p.In_ok-check)
    (if_none _ (sym (found p.After-record_of) ∙ none))) refl refl)

-- the record that is found
record_is : (c : In_ok-i) → c.record_of.result ≡ Some c.in_ok-i.i
record_is c = c.ok_or.ensures.ok_part ∙ ap result_ok c.in_ok-i.was

pub run-requires : goal.run-requires
run-requires c =
    let v = valid 1 _ _ (checked (goal.at.run-requires c).In_ok-check) in
    let d = asked (goal.at.run-requires c).In_ok-check_asked in
    let e = if_some _ _ (sym c.record_of.ensures ∙ record_is (goal.at.run-requires c).In_ok-i) in
    let f = c.chain_of-chain.ensures.1 in (
      omega (arith, asked_setting _ _ _ _ _ d),
      v,
      f,
      rw (← e.0) (link_standing _ v _ f _ e.1),
      asked_numbers _ _ _ _ _ d,
    )

pub returns : goal.returns
unfolding in_force_run
returns c =
    let p = goal.at.returns c in
    let e = if_some _ _ (sym (found p.After-record_of) ∙ record_is p.In_ok-i) in
    shown _ _ _ _ _ _ _ _ 0
    (by_none _ _ _ _ _ _ _ (asked p.In_ok-check_asked) _ (checked p.In_ok-check)
    (λ none. omega (arith, e.0, e.1, none)))
    refl
    (rw (← e.0) at c.run.ensures)
