-- Numbers and their bytes, by the width. Assumes nothing.
use mathlib.Core.Path.{◌≡◌, refl, sym, ap, ◌∙◌}
use mathlib.Core.List.{List}
use Prim.Native.Nat.{ℕ, zero, suc, ◌+◌, ◌*◌, ◌/◌, ◌%◌, ◌^◌, ◌<◌, ◌≤◌}
use native.Mathlib.Nat.{not-suc-le-zero}
use native.Mathlib.Omega.{arith}
use lib.ListN.{get_or}
use Rattle.rules.specs.Limits.{max_accepted}
use Rattle.rules.specs.Number.{low_first, bytes_of}
use Rattle.layout.specs.Layout.{number_size}
use Rattle.layout.specs.Encoding.{NumberBytes}

module _ (buffer : List ℕ) where
  -- The bytes from a place on are those of the number.
  abbrev AreOf : (n number at : ℕ) → Type 0
  AreOf n number at = (j : ℕ) → j < n → get_or buffer (at + j) 0 ≡ get_or (bytes_of n number) j 0

  -- The rest, behind the low byte.
  rest_of : (n number at : ℕ) → AreOf (suc n) number at → AreOf n (number / 256) (suc at)
  rest_of n number at h j l =
      let e : suc at + j ≡ at + suc j = omega arith in
      ap (λ (i : ℕ). get_or buffer i 0) e ∙ h (suc j) (omega arith)

  pub value_of : (n number at : ℕ) → number < 256 ^ n → AreOf n number at → low_first n buffer at ≡ number
  value_of zero number at l h = omega arith
  value_of (suc n) number at l h =
      let p : 256 ^ suc n ≡ 256 * 256 ^ n = omega arith in
      let r = value_of n (number / 256) (suc at) (omega arith) (rest_of n number at h) in
      let z : at + 0 ≡ at = omega arith in
      let b : get_or buffer at 0 ≡ number % 256 = rw z at (h 0 (omega arith)) in
      omega arith

  pub value_small : (n at : ℕ) → ((j : ℕ) → j < n → get_or buffer (at + j) 0 < 256) → low_first n buffer at < 256 ^ n
  value_small zero at h = omega arith
  value_small (suc n) at h =
      let p : 256 ^ suc n ≡ 256 * 256 ^ n = omega arith in
      let r = value_small n (suc at) (λ j l. let e : suc at + j ≡ at + suc j = omega arith in rw e (h (suc j) (omega arith))) in
      let z : at + 0 ≡ at = omega arith in
      let b : get_or buffer at 0 < 256 = rw z at (h 0 (omega arith)) in
      omega arith

  pub bytes_of_lem : (n at : ℕ) → ((j : ℕ) → j < n → get_or buffer (at + j) 0 < 256) → AreOf n (low_first n buffer at) at
  bytes_of_lem zero at h j l = absurd (not-suc-le-zero l)
  bytes_of_lem (suc n) at h zero l =
      let z : at + 0 ≡ at = omega arith in
      let b : get_or buffer at 0 < 256 = rw z at (h 0 (omega arith)) in
      let m : low_first (suc n) buffer at % 256 ≡ get_or buffer at 0 = omega arith in
      ap (λ (i : ℕ). get_or buffer i 0) z ∙ sym m
  bytes_of_lem (suc n) at h (suc j) l =
      let z : at + 0 ≡ at = omega arith in
      let b : get_or buffer at 0 < 256 = rw z at (h 0 (omega arith)) in
      let q : low_first (suc n) buffer at / 256 ≡ low_first n buffer (suc at) = omega arith in
      let e : at + suc j ≡ suc at + j = omega arith in
      let r = bytes_of_lem n (suc at) (λ i m. let e : suc at + i ≡ at + suc i = omega arith in rw e (h (suc i) (omega arith))) j (omega arith) in
      ap (λ (i : ℕ). get_or buffer i 0) e ∙ r ∙ ap (λ (v : ℕ). get_or (bytes_of n v) j 0) (sym q)

-- The bytes of a number are bytes.
pub byte_small : (n number j : ℕ) → j < n → get_or (bytes_of n number) j 0 < 256
byte_small zero number j l = absurd (not-suc-le-zero l)
byte_small (suc n) number zero l = omega arith
byte_small (suc n) number (suc j) l = byte_small n (number / 256) j (omega arith)

-- The number reads only its own bytes.
pub same_value : (n : ℕ) (x y : List ℕ) (at : ℕ) → ((j : ℕ) → j < n → get_or x (at + j) 0 ≡ get_or y (at + j) 0) → low_first n x at ≡ low_first n y at
same_value zero x y at h = refl
same_value (suc n) x y at h =
    let z : at + 0 ≡ at = omega arith in
    let b : get_or x at 0 ≡ get_or y at 0 = rw z at (h 0 (omega arith)) in
    let r = same_value n x y (suc at) (λ j l. let e : suc at + j ≡ at + suc j = omega arith in rw e (h (suc j) (omega arith))) in
    omega arith

-- Four bytes hold every number up to the most records that are accepted.
pub number_is : (buffer : List ℕ) (n at : ℕ) → n ≤ max_accepted → NumberBytes n buffer at → low_first number_size buffer at ≡ n
number_is buffer n at l h = value_of buffer number_size n at (omega arith) h
