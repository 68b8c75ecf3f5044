-- Numbers as text, in base ten; the line of a refusal; and what writing text into the caller's buffer means.
use Rattle.std.specs.Prelude.{cond, List, [], ◌∷◌, ◌++◌, ◌≡◌, ℕ, zero, suc, ◌+◌, ◌/◌, ◌%◌, ltb, ℤ, pos, negsuc, length}
use Rattle.std.proofs.lemmas.List.Edits.{sets}

-- the digits of n, the first one not 0 unless n is; `left` is a number of steps that is enough where n ≤ left
unfoldable pub spelled : ℕ → ℕ → List ℕ
spelled zero n = (48 + n) ∷ []
spelled (suc left) n = cond (ltb n 10) ((48 + n) ∷ []) (spelled left (n / 10) ++ ((48 + n % 10) ∷ []))

unfoldable pub decimal : ℕ → List ℕ
decimal n = spelled n n

-- a whole number, with a minus sign (45) below 0
unfoldable pub signed : ℤ → List ℕ
signed (pos n) = decimal n
signed (negsuc k) = 45 ∷ decimal (suc k)

-- a number and the byte that ends it: 32 is a blank, 44 a comma, 10 a line's end
unfoldable pub ended : ℕ → ℕ → List ℕ
ended n b = decimal n ++ b ∷ []

unfoldable pub signed_ended : ℤ → ℕ → List ℕ
signed_ended v b = signed v ++ b ∷ []

-- the word `refused` and a blank
abbrev pub refused_word : List ℕ
refused_word = 114 ∷ 101 ∷ 102 ∷ 117 ∷ 115 ∷ 101 ∷ 100 ∷ 32 ∷ []

-- the line of a refused book: that word, the refusal's number and its place
unfoldable pub refusal_text : ℕ → ℕ → List ℕ
refusal_text number place = refused_word ++ ended number 32 ++ ended place 10

-- `text` stands in the buffer from `at` on, all else is as it was (what passes the buffer's end is dropped), and `next`
-- is the place after it
pub record Wrote (entry : List ℕ) (at : ℕ) (text exit : List ℕ) (next : ℕ) : Type 0 where
  pub bytes : exit ≡ sets entry at text
  pub place : next ≡ at + length text

-- the first n texts of a run, one after the other
unfoldable pub joined : (ℕ → List ℕ) → ℕ → List ℕ
joined f zero = []
joined f (suc n) = joined f n ++ f n
