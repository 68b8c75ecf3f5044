-- The version as one number, as programs compare it: that of 2.2.0 is 20,200.
use Rattle.std.specs.Prelude.{ℕ, ◌+◌, ◌*◌}

abbrev pub version_number : ℕ → ℕ → ℕ → ℕ
version_number major minor patch = 10_000 * major + 100 * minor + patch
