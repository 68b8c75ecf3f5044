-- What the telling call promises holds of the reply as defined: the figure given is the report's length and at most
-- 9,525. Assumes nothing.
use mathlib.Core.Path.{◌≡◌, refl}
use mathlib.Core.List.{List}
use Prim.Native.Nat.{ℕ, ◌≤◌}
use native.Mathlib.Omega.{arith}
use Rattle.verdict.specs.Verdicts.{count_of, Verdict}
use Rattle.std.specs.Prelude.{Ok, Err}
use Rattle.verdict.proofs.Verdicts.{ZeroAccepts, zero_accepts_need, zero_accepts_then}
use Rattle.book.proofs.Numbers.{zero_accepted}
use Rattle.text_reply.specs.Replies.{text_refusal, text_length, length_for, TextReply}
use Rattle.report_text.specs.Report.{report_check, report_length, report_length_reply, ReportLengthContract}
use Rattle.report_text.proofs.Lengths.{report_most}
use Rattle.report_text.proofs.Refusals.{report_valid}

-- refusal 0 is acceptance, of the telling call too
report_told : (b : List ℕ) (setting : ℕ) → ZeroAccepts (report_check b setting)
unfolding ZeroAccepts report_check
report_told b setting = zero_accepts_then _ _ (zero_accepts_need _ 13 0) (zero_accepted 1 b)

zero_accepts_reply : (v : Verdict) (n : ℕ) → ZeroAccepts v → text_refusal (length_for v n) ≡ 0
    → (v ≡ Ok (count_of v)) × (text_length (length_for v n) ≡ n)
unfolding ZeroAccepts
zero_accepts_reply (Ok m) n told e = (refl, refl)
zero_accepts_reply (Err r) n told e = let z : ◌≡◌ {A = ℕ} 0 1 = cc (told e) in absurd (omega arith)

-- no reply says more than an accepted book's report has
zero_accepts_most : (v : Verdict) (n most : ℕ) → ((m : ℕ) → v ≡ Ok m → n ≤ most)
    → text_length (length_for v n) ≤ most
zero_accepts_most (Ok m) n most h = h m refl
zero_accepts_most (Err r) n most h = omega arith

pub report_length_contract : (b : List ℕ) (setting : ℕ) (reply : TextReply)
    → reply ≡ report_length_reply b setting → ReportLengthContract b setting reply
unfolding report_length_reply report_length
report_length_contract b setting reply reply_is = record {
  reply_is = reply_is;
  exact = λ none.
      rw reply_is (zero_accepts_reply (report_check b setting) _ (report_told b setting) (rw reply_is at none)).1;
  most =
      rw reply_is
      (zero_accepts_most (report_check b setting) _ _
      (λ n e. omega (arith, report_most b (report_valid b setting n e) setting)));
}
