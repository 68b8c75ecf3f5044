-- The fields of a record, from its 24 bytes and back. Assumes nothing.
use mathlib.Core.Path.{◌≡◌}
use mathlib.Core.List.{List, [], ◌∷◌, ◌++◌}
use Prim.Native.Nat.{ℕ, zero, suc, ◌+◌}
use native.Mathlib.Nat.{add-zero}
use native.Mathlib.Omega.{arith}
use lib.ListN.{length, length-append}
use Rattle.le_bytes.specs.Bytes.{byte_at, two_bytes, four_bytes}
use Rattle.book.specs.Layout.{chain_code, chain_sex}
use Rattle.book_contents.specs.Written.{encoded_record}
use Rattle.book_contents.proofs.Stands.{Stands, stands_left, stands_right, stands_both}
use Rattle.book_contents.proofs.Numbers.{two_length, four_length}

pub record Entry (b : List ℕ) (at k class next count lapse premium claims : ℕ) : Type 0 where
  pub code_is : byte_at b at ≡ chain_code k
  pub sex_is : byte_at b (at + 1) ≡ chain_sex k
  pub class_is : byte_at b (at + 2) ≡ class
  pub spare_is : byte_at b (at + 3) ≡ 0
  pub next_stands : Stands b (at + 4) (two_bytes next)
  pub spare_stands : Stands b (at + 6) (two_bytes 0)
  pub count_stands : Stands b (at + 8) (four_bytes count)
  pub lapse_stands : Stands b (at + 12) (four_bytes lapse)
  pub premium_stands : Stands b (at + 16) (four_bytes premium)
  pub claims_stands : Stands b (at + 20) (four_bytes claims)

-- the first four bytes
abbrev lead : ℕ → ℕ → List ℕ
lead k class = chain_code k ∷ chain_sex k ∷ class ∷ 0 ∷ []

lead_stands : (b : List ℕ) (at k class : ℕ) → byte_at b at ≡ chain_code k → byte_at b (at + 1) ≡ chain_sex k
    → byte_at b (at + 2) ≡ class → byte_at b (at + 3) ≡ 0
    → Stands b at (lead k class)
lead_stands b at k class e₀ e₁ e₂ e₃ zero h = rw add-zero e₀
lead_stands b at k class e₀ e₁ e₂ e₃ (suc zero) h = e₁
lead_stands b at k class e₀ e₁ e₂ e₃ (suc (suc zero)) h = e₂
lead_stands b at k class e₀ e₁ e₂ e₃ (suc (suc (suc zero))) h = e₃
lead_stands b at k class e₀ e₁ e₂ e₃ (suc (suc (suc (suc p)))) h = absurd (omega arith)

module _ (b : List ℕ) (at k class next count lapse premium claims : ℕ) where
  length_5 : length (lead k class ++ two_bytes next) ≡ 6
  length_5 = omega (arith, length-append (lead k class) (two_bytes next), two_length next)

  length_6 : length (lead k class ++ two_bytes next ++ two_bytes 0) ≡ 8
  length_6 = omega (arith, length_5, length-append (lead k class ++ two_bytes next) (two_bytes 0), two_length 0)

  length_7 : length (lead k class ++ two_bytes next ++ two_bytes 0 ++ four_bytes count) ≡ 12
  length_7 = omega (
    arith,
    length_6,
    length-append (lead k class ++ two_bytes next ++ two_bytes 0) (four_bytes count),
    four_length count,
  )

  length_8 : length (lead k class ++ two_bytes next ++ two_bytes 0 ++ four_bytes count ++ four_bytes lapse) ≡ 16
  length_8 = omega (
    arith,
    length_7,
    length-append (lead k class ++ two_bytes next ++ two_bytes 0 ++ four_bytes count) (four_bytes lapse),
    four_length lapse,
  )

  length_9 : length (lead k class ++ two_bytes next ++ two_bytes 0 ++ four_bytes count ++ four_bytes lapse
      ++ four_bytes premium) ≡ 20
  length_9 =
      omega (
        arith,
        length_8,
        length-append (lead k class ++ two_bytes next ++ two_bytes 0 ++ four_bytes count ++ four_bytes lapse)
            (four_bytes premium),
        four_length premium,
      )

  pub entry_of : Stands b at (encoded_record k class next count lapse premium claims)
      → Entry b at k class next count lapse premium claims
  unfolding encoded_record
  entry_of h =
      let t₄ = lead k class in
      let t₅ = t₄ ++ two_bytes next in
      let t₆ = t₅ ++ two_bytes 0 in
      let t₇ = t₆ ++ four_bytes count in
      let t₈ = t₇ ++ four_bytes lapse in
      let t₉ = t₈ ++ four_bytes premium in
      let h₉ = stands_left b t₉ (four_bytes claims) at h in
      let h₈ = stands_left b t₈ (four_bytes premium) at h₉ in
      let h₇ = stands_left b t₇ (four_bytes lapse) at h₈ in
      let h₆ = stands_left b t₆ (four_bytes count) at h₇ in
      let h₅ = stands_left b t₅ (two_bytes 0) at h₆ in
      let h₄ = stands_left b t₄ (two_bytes next) at h₅ in
      record {
        code_is = rw add-zero at (h₄ 0 (omega arith));
        sex_is = h₄ 1 (omega arith);
        class_is = h₄ 2 (omega arith);
        spare_is = h₄ 3 (omega arith);
        next_stands = stands_right b t₄ (two_bytes next) at (at + 4) (omega arith) h₅;
        spare_stands = stands_right b t₅ (two_bytes 0) at (at + 6) (omega (arith, length_5)) h₆;
        count_stands = stands_right b t₆ (four_bytes count) at (at + 8) (omega (arith, length_6)) h₇;
        lapse_stands = stands_right b t₇ (four_bytes lapse) at (at + 12) (omega (arith, length_7)) h₈;
        premium_stands = stands_right b t₈ (four_bytes premium) at (at + 16) (omega (arith, length_8)) h₉;
        claims_stands = stands_right b t₉ (four_bytes claims) at (at + 20) (omega (arith, length_9)) h;
      }

  pub of_entry : Entry b at k class next count lapse premium claims
      → Stands b at (encoded_record k class next count lapse premium claims)
  unfolding encoded_record
  of_entry x =
      let t₄ = lead k class in
      let t₅ = t₄ ++ two_bytes next in
      let t₆ = t₅ ++ two_bytes 0 in
      let t₇ = t₆ ++ four_bytes count in
      let t₈ = t₇ ++ four_bytes lapse in
      let t₉ = t₈ ++ four_bytes premium in
      let h₄ = lead_stands b at k class x.code_is x.sex_is x.class_is x.spare_is in
      let h₅ = stands_both b t₄ (two_bytes next) at (at + 4) (omega arith) h₄ x.next_stands in
      let h₆ = stands_both b t₅ (two_bytes 0) at (at + 6) (omega (arith, length_5)) h₅ x.spare_stands in
      let h₇ = stands_both b t₆ (four_bytes count) at (at + 8) (omega (arith, length_6)) h₆ x.count_stands in
      let h₈ = stands_both b t₇ (four_bytes lapse) at (at + 12) (omega (arith, length_7)) h₇ x.lapse_stands in
      let h₉ = stands_both b t₈ (four_bytes premium) at (at + 16) (omega (arith, length_8)) h₈ x.premium_stands in
      stands_both b t₉ (four_bytes claims) at (at + 20) (omega (arith, length_9)) h₉ x.claims_stands
