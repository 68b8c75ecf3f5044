-- What Check promises follows from its verdict. Assumes nothing.
use mathlib.Core.Path.{◌≡◌}
use mathlib.Core.List.{List}
use Prim.Native.Nat.{ℕ}
use Rattle.verdict.specs.Verdicts.{Verdict}
use Rattle.book.specs.Check.{check_book}
use Rattle.book.specs.CallContracts.{CheckContract}
use Rattle.book.proofs.Exact.{accepted_rules, rules_accepted, accepted_held}
use Rattle.book.proofs.Numbers.{zero_accepted}

pub check_promised : (b : List ℕ) (v : Verdict) → v ≡ check_book 1 b → CheckContract b v
check_promised b v is =
    record {
      reply_is = is;
      keeps_rules = λ none. accepted_rules 1 b _ (zero_accepted 1 b (rw is at none));
      accepts = λ rules. rw (is, rules_accepted 1 b rules);
      n_is = λ none. rw is (accepted_held 1 b _ (zero_accepted 1 b (rw is at none)));
    }
