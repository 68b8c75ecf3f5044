-- Numbers of two and four bytes: what is read where their bytes stand, and what stands where they are read. Assumes
-- nothing.
use mathlib.Core.Path.{◌≡◌, refl}
use mathlib.Core.List.{List}
use mathlib.Core.Bool.{Bool, true, false, cond}
use Prim.Native.Nat.{ℕ, zero, suc, ◌+◌, ◌-◌, ◌/◌, ◌%◌, ◌<◌, ◌≤◌}
use native.Mathlib.Nat.{add-zero}
use native.Mathlib.Omega.{arith}
use borrow.Author.Tests.{leb-true, leb-false, le-leb, lt-leb}
use lib.Dec.{leb}
use lib.IntN.{ℤ, pos, negsuc}
use lib.ListN.{length}
use Rattle.le_bytes.specs.Bytes.{byte_at, read_u16, read_u32, two_bytes, four_bytes}
use Rattle.le_bytes.specs.Fields.{raised}
use Rattle.book_contents.specs.Written.{twos_complement}
use Rattle.book_contents.specs.Limits.{curve_rate}
use Rattle.book_contents.specs.Reading.{signed_of}
use Rattle.book_contents.proofs.Stands.{Stands, stands_left, stands_right, stands_both}

module _ (b : List ℕ) (at x : ℕ) where
  two_low : Stands b at (two_bytes x) → read_u16 b at ≡ x % 65536
  unfolding two_bytes read_u16
  two_low h =
      let e : byte_at b at ≡ byte_at b (at + 0) = rw add-zero in
      omega (arith, e, h 0 (omega arith), h 1 (omega arith))

  pub two_read : x < 65536 → Stands b at (two_bytes x) → read_u16 b at ≡ x
  two_read small h = omega (arith, two_low h)

  two_bytes_lem : ((p : ℕ) → byte_at b p < 256) → read_u16 b at ≡ x % 65536 → Stands b at (two_bytes x)
  unfolding two_bytes read_u16
  two_bytes_lem bytes e zero h = rw add-zero (omega (arith, bytes at, bytes (at + 1)))
  two_bytes_lem bytes e (suc zero) h = omega (arith, bytes at, bytes (at + 1))
  two_bytes_lem bytes e (suc (suc p)) h = absurd (omega arith)

  u16_small : ((p : ℕ) → byte_at b p < 256) → read_u16 b at < 65536
  unfolding read_u16
  u16_small bytes = omega (arith, bytes at, bytes (at + 1))

  pub two_stands : ((p : ℕ) → byte_at b p < 256) → read_u16 b at ≡ x → Stands b at (two_bytes x)
  two_stands bytes e = two_bytes_lem bytes (omega (arith, u16_small bytes))

pub two_length : (x : ℕ) → length (two_bytes x) ≡ 2
unfolding two_bytes
two_length x = refl

pub four_length : (x : ℕ) → length (four_bytes x) ≡ 4
unfolding four_bytes two_bytes
four_length x = refl

module _ (b : List ℕ) (at x : ℕ) where
  pub four_read : x < 4294967296 → Stands b at (four_bytes x) → read_u32 b at ≡ x
  unfolding four_bytes read_u32
  four_read small h =
      let place : at + 2 ≡ at + length (two_bytes x) = omega (arith, two_length x) in
      omega (
        arith,
        two_low b at x (stands_left b (two_bytes x) (two_bytes (x / 65536)) at h),
        two_low b (at + 2) (x / 65536) (stands_right b (two_bytes x) (two_bytes (x / 65536)) at (at + 2) place h),
      )

  pub u32_small : ((p : ℕ) → byte_at b p < 256) → read_u32 b at < 4294967296
  unfolding read_u32
  u32_small bytes = omega (arith, u16_small b at x bytes, u16_small b (at + 2) x bytes)

  pub four_stands : ((p : ℕ) → byte_at b p < 256) → read_u32 b at ≡ x → Stands b at (four_bytes x)
  unfolding four_bytes read_u32
  four_stands bytes e =
      let place : at + 2 ≡ at + length (two_bytes x) = omega (arith, two_length x) in
      let low = u16_small b at x bytes in
      let high = u16_small b (at + 2) x bytes in
      stands_both b (two_bytes x) (two_bytes (x / 65536)) at (at + 2) place
      (two_bytes_lem b at x bytes (omega arith))
      (two_bytes_lem b (at + 2) (x / 65536) bytes (omega arith))

-- curve rates: their range, and the 32 bits that hold them
pub curve_small : (z : ℤ) → curve_rate z ≡ true → twos_complement z < 4294967296
unfolding curve_rate twos_complement
curve_small (pos n) e = omega (arith, leb-true (n + 10000) 210000 e)
curve_small (negsuc m) e = omega (arith, leb-true (m + 1) 10000 e)

pub curve_raised : (z : ℤ) → curve_rate z ≡ true → raised 10000 (twos_complement z) ≤ 210000
unfolding curve_rate twos_complement
curve_raised (pos n) e = omega (arith, leb-true (n + 10000) 210000 e)
curve_raised (negsuc m) e = omega (arith, leb-true (m + 1) 10000 e)

pub curve_back : (z : ℤ) → curve_rate z ≡ true → signed_of (twos_complement z) ≡ z
unfolding curve_rate twos_complement signed_of
curve_back (pos n) e = rw (le-leb n 2147483647 (omega (arith, leb-true (n + 10000) 210000 e)))
curve_back (negsuc m) e =
    let le : m ≤ 9999 = omega (arith, leb-true (m + 1) 10000 e) in
    let high : 2147483647 < twos_complement (negsuc m) = omega arith in
    let same : 4294967295 - twos_complement (negsuc m) ≡ m = omega arith in
    rw (lt-leb (twos_complement (negsuc m)) 2147483647 high, same)

module _ (u : ℕ) (small : u < 4294967296) where
  pub signed_back : twos_complement (signed_of u) ≡ u
  unfolding signed_of twos_complement
  signed_back = by_size (leb u 2147483647) refl
    where
      by_size : (t : Bool) → leb u 2147483647 ≡ t → twos_complement (cond t (pos u) (negsuc (4294967295 - u))) ≡ u
      by_size true e = refl
      by_size false e = omega arith

  pub signed_rate : raised 10000 u ≤ 210000 → curve_rate (signed_of u) ≡ true
  unfolding signed_of curve_rate
  signed_rate h = by_size (leb u 2147483647) refl
    where
      by_size : (t : Bool) → leb u 2147483647 ≡ t → curve_rate (cond t (pos u) (negsuc (4294967295 - u))) ≡ true
      by_size true e = le-leb (u + 10000) 210000 (omega (arith, leb-true u 2147483647 e))
      by_size false e = le-leb (4294967295 - u + 1) 10000 (omega (arith, leb-false u 2147483647 e))
