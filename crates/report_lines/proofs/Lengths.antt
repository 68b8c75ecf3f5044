-- How long a number, a line of the year report and a run of texts are. Assumes nothing.
use mathlib.Core.Path.{◌≡◌}
use mathlib.Core.List.{List, [], ◌∷◌, ◌++◌, append_assoc}
use Prim.Native.Nat.{ℕ, ◌+◌, ◌/◌, ◌%◌, ◌^◌, ◌<◌, ◌≤◌}
use native.Mathlib.Numerals.{add-one}
use native.Mathlib.Omega.{arith}
use lib.ListN.{length, length-append}
use Rattle.buffer.specs.Text.{decimal, ended, joined}
use Rattle.buffer.proofs.Digits.{decimal_one, decimal_more, digits_most}
use Rattle.report_lines.specs.Sheet.{sheet_line}

-- a number has one digit, or one more than its tenth
pub length_one : (n : ℕ) → n < 10 → 1 ≡ length (decimal n)
length_one n h = rw (decimal_one n h)

pub length_more : (n k : ℕ) → 10 ≤ n → k ≡ length (decimal (n / 10)) → k + 1 ≡ length (decimal n)
length_more n k h e =
    rw (decimal_more n h) (omega (arith, length-append (decimal (n / 10)) ((48 + n % 10) ∷ [])))

-- after a text t, one more text of a run
pub joined_length : (f : ℕ → List ℕ) (n : ℕ) (t : List ℕ) (l k : ℕ)
    → l ≡ length (t ++ joined f n) → k ≡ length (f n) → l + k ≡ length (t ++ joined f (n + 1))
unfolding joined
joined_length f n t l k e h =
    rw (add-one n, ← append_assoc) (omega (arith, length-append (t ++ joined f n) (f n)))

module _ (g k p o : ℕ) where
  pub length_line :
      length (sheet_line g k p o)
      ≡ length (decimal g) + length (decimal k) + length (decimal p) + length (decimal o) + 4
  unfolding sheet_line ended
  length_line = simp length-append (omega arith)

  -- a product group of one digit, a year of two, a premium of 15 and an outgo of 16, three commas and the line's end
  pub line_most : g < 10 → k < 100 → p < 10 ^ 15 → o < 10 ^ 16 → length (sheet_line g k p o) ≤ 38
  line_most hg hk hp ho =
      omega (arith, length_line, digits_most 0 g hg, digits_most 1 k hk, digits_most 14 p hp, digits_most 15 o ho)
