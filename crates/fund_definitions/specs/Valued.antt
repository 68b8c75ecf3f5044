-- What valuing one fund gives: its reply, and the caller's numbers with its half from a place on.
use Rattle.std.specs.Prelude.{ℕ, ◌+◌, ◌≡◌, List, ◌++◌, ℤ, length, take, drop}
use Rattle.verdict.specs.Verdicts.{Verdict}
use Rattle.fund_definitions.specs.Fund.{fund_reply, fund_half}

pub record FundValued (table fund : List ℕ) (at : ℕ) (before after : List ℤ) (reply : Verdict) : Type 0 where
  pub reply_is : reply ≡ fund_reply (length before) table fund
  pub numbers_are : after
      ≡ take at before ++ fund_half (length before) table fund (take 8 (drop at before)) ++ drop (at + 8) before
