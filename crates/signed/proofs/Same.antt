-- One number with a sign is the same as another. Assumes nothing.
use mathlib.Core.Path.{◌≡◌}
use mathlib.Core.Bool.{true}
use lib.IntN.{ℤ}
use Rattle.std.proofs.lemmas.Bool.Decides.{Decides-int_eq}
use Rattle.signed.specs.Signs.{same}

pub same_means : (x y : ℤ) → same x y ≡ true → x ≡ y
same_means x y e = (Decides-int_eq x y).0 e

pub same_good : (x y : ℤ) → x ≡ y → same x y ≡ true
same_good x y e = (Decides-int_eq x y).1 e
