-- A call that writes a text into a passed buffer: what it replies, the buffer afterwards, and what is promised of both.
use Rattle.std.specs.Prelude.{List, ◌++◌, ◌≡◌, ℕ, ◌≤◌, leb, length, drop, Result, Ok, Err}
use Rattle.verdict.specs.Verdicts.{need, ◌and_then◌, Verdict}
use Rattle.verdict.specs.declared.Refusal.{Refusal}

-- the text's length, or the refusal
abbrev pub TextReply : Type 0
TextReply = Result ℕ Refusal

-- The paper's values of a reply: the refusal's number and place, 0 and 0 where accepted; the length, 0 where refused.
abbrev pub text_refusal : TextReply → ℕ
text_refusal (Ok n) = 0
text_refusal (Err r) = r.number

abbrev pub text_place : TextReply → ℕ
text_place (Ok n) = 0
text_place (Err r) = r.place

abbrev pub text_length : TextReply → ℕ
text_length (Ok n) = n
text_length (Err r) = 0

-- the reply by a verdict: a length, or the refusal
abbrev pub length_for : Verdict → ℕ → TextReply
length_for (Ok m) n = Ok n
length_for (Err r) n = Err r

-- the buffer afterwards by a verdict: the text, then what stood there; as it was where refused
abbrev pub buffer_for : Verdict → List ℕ → List ℕ → List ℕ
buffer_for (Ok m) text before = text ++ drop (length text) before
buffer_for (Err r) text before = before

-- the refusals of the call: v, those before it writes; then 20 where a buffer of `capacity` bytes is shorter than the
-- text
unfoldable pub with_capacity : Verdict → List ℕ → ℕ → Verdict
with_capacity v text capacity = v and_then need (leb (length text) capacity) 20 0

-- what the call replies: the text's length, or the first refusal
unfoldable pub text_reply : Verdict → List ℕ → ℕ → TextReply
text_reply v text capacity = length_for (with_capacity v text capacity) (length text)

-- what the buffer then holds
unfoldable pub text_buffer : Verdict → List ℕ → List ℕ → List ℕ
text_buffer v text before = buffer_for (with_capacity v text (length before)) text before

-- What the call promises: its reply and the buffer equal their definitions.
pub record TextContract (v : Verdict) (text before after : List ℕ) (reply : TextReply) : Type 0 where
  pub reply_is : reply ≡ text_reply v text (length before)
  pub buffer_is : after ≡ text_buffer v text before
  -- follows from the two: the bytes written stand in the buffer
  pub within : text_length reply ≤ length after
