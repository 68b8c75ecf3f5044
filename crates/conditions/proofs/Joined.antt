-- Laws of two tests joined by 'and' or 'or': what the outcome says of each. Assumes nothing.
use mathlib.Core.Path.{◌≡◌, refl}
use mathlib.Core.Bool.{Bool, true, false, ◌&&◌, ◌||◌, true≢false}

pub and_left : (s t : Bool) → (s && t) ≡ true → s ≡ true
and_left true t e = refl
and_left false t e = e

pub and_right : (s t : Bool) → (s && t) ≡ true → t ≡ true
and_right true t e = e
and_right false t e = absurd (true≢false (cc))

pub and_false : (s t : Bool) → t ≡ false → (s && t) ≡ false
and_false true t e = e
and_false false t e = refl

-- neither holds
pub or_left : (s t : Bool) → (s || t) ≡ false → s ≡ false
or_left true t e = e
or_left false t e = refl

pub or_right : (s t : Bool) → (s || t) ≡ false → t ≡ false
or_right true t e = absurd (true≢false e)
or_right false t e = e

-- one holds, and the first does not
pub or_other : (s t : Bool) → (s || t) ≡ true → s ≡ false → t ≡ true
or_other true t e f = cc
or_other false t e f = e
