-- What the steps of the code make of the caller's buffer; no call that others make speaks of it.
use Rattle.std.specs.Prelude.{ℕ, ◌-◌, ◌<◌, ◌≡◌, List, Bool, cond, length}
use Rattle.le_bytes.specs.Bytes.{byte_at}

-- at the places that `lowers` names stands one less than in the book b; all else is as it was
pub record Lowered (b : List ℕ) (lowers : ℕ → Bool) (before after : List ℕ) : Type 0 where
  pub size : length after ≡ length before
  pub bytes : (p : ℕ) → p < length before → byte_at after p ≡ cond (lowers p) (byte_at b p - 1) (byte_at before p)
