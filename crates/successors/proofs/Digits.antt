-- Laws of columns of binary digits. Assumes nothing.
use mathlib.Core.Path.{◌≡◌, refl, sym, ap, ◌∙◌}
use mathlib.Core.Bool.{Bool, true, ◌&&◌}
use mathlib.Core.List.{List, reverse}
use Prim.Native.Nat.{ℕ, zero, suc, ◌+◌, ◌-◌, ◌*◌, ◌/◌, ◌%◌, ◌^◌, ◌≤◌, ◌<◌}
use native.Mathlib.Nat.{pow-suc, le_of_suc-le-suc, not-suc-le-zero, lt_of_lt_of_le, mul_assoc}
use native.Mathlib.Omega.{arith}
use lib.Dec.{eqb}
use borrow.Author.Tests.{eqb-true}
use Rattle.rules.proofs.Booleans.{and_cases}
use lib.Bits.{bit_and}
use lib.Pow.{pow_mono}
use lib.ListN.{get_or, length, take, drop}
use Rattle.std.proofs.lemmas.List.{length-reverse, get_or-reverse, get_or_default, get_or-take, get_or-drop, length-take, length-drop}
use Rattle.words.specs.Bits.{bit}
use Rattle.words.proofs.Words.{bit_two, bit_high}
use Rattle.successors.specs.Column.{column, spread_of, lanes, kind_word, Columns, Narrow, Joined}
use Rattle.rules.specs.HeldLocks.{First, Second, E, S, R, N}
use Rattle.search.specs.Rows.{kind_index}
use Rattle.successors.specs.declared.KindWords.{KindWords}

-- ---- The four digits of a byte, spread by a product and a mask: a test of all 256 bytes.

every_digit : ℕ → (ℕ → Bool) → Bool
every_digit zero p = true
every_digit (suc n) p = p zero && every_digit n (λ i. p (suc i))

every_at : (n : ℕ) (p : ℕ → Bool) → every_digit n p ≡ true → (i : ℕ) → i < n → p i ≡ true
unfolding every_digit
every_at zero p t i l = absurd (not-suc-le-zero l)
every_at (suc n) p t zero l = (and_cases (p zero) (every_digit n (λ i. p (suc i))) t).0
every_at (suc n) p t (suc i) l = every_at n (λ i. p (suc i)) (and_cases (p zero) (every_digit n (λ i. p (suc i))) t).1 i (le_of_suc-le-suc l)

pub spread_law : (b : ℕ) → b < 256
    → bit_and (b * 35185445863425) 281479271743489 ≡ spread_of b
unfolding bit every_digit
spread_law b l =
    eqb-true _ _ (every_at 256
    (λ x. eqb (bit_and (x * 35185445863425) 281479271743489) (spread_of x)) refl b l)

-- ---- Columns.

-- The columns of a part of the bytes.
column_same : (xs ys : List ℕ) (x y d n : ℕ) → ((i : ℕ) → i < n → get_or xs (x + i) 0 ≡ get_or ys (y + i) 0) → column xs x d n ≡ column ys y d n
unfolding column
column_same xs ys x y d zero h = refl
column_same xs ys x y d (suc n) h =
    let a : get_or xs x 0 ≡ get_or ys y 0 = let p : x + 0 ≡ x = omega arith in let q : y + 0 ≡ y = omega arith in rw (p, q) at (h 0 (omega arith)) in
    let b : column xs (suc x) d n ≡ column ys (suc y) d n =
    column_same xs ys (suc x) (suc y) d n (λ i l. let p : suc x + i ≡ x + suc i = omega arith in let q : suc y + i ≡ y + suc i = omega arith in rw (p, q) (h (suc i) (omega arith))) in
    rw (a, b)

pub column_part : (bytes : List ℕ) (at d n : ℕ) → at + n ≤ length bytes
    → column (take n (drop at bytes)) 0 d (length (take n (drop at bytes))) ≡ column bytes at d n
column_part bytes at d n h =
    let l : length (take n (drop at bytes)) ≡ n = simp (length-take, length-drop) (omega arith) in
    rw l (column_same _ _ 0 at d n (λ i m. let z : 0 + i ≡ i = omega arith in rw z (get_or-take n (drop at bytes) i 0 m ∙ get_or-drop at bytes i 0)))

pub columns_part : (bytes : List ℕ) (at n : ℕ) (w : KindWords) → at + n ≤ length bytes
    → Columns (take n (drop at bytes)) 0 (length (take n (drop at bytes))) w → Columns bytes at n w
columns_part bytes at n w h x =
    record {
      er = x.er ∙ column_part bytes at 0 n h;
      en = x.en ∙ column_part bytes at 1 n h;
      sr = x.sr ∙ column_part bytes at 2 n h;
      sn = x.sn ∙ column_part bytes at 3 n h;
    }

-- Of bytes that come from the end on, the one that comes behind n others.
pub from_end : (xs : List ℕ) (n x : ℕ) → (n < length (reverse xs)) × (x ≡ get_or (reverse xs) n x) → (n < length xs) × (x ≡ get_or xs (length xs - (n + 1)) 0)
from_end xs n x t =
    let l : n < length xs = rw length-reverse at t.0 in
    let e : length xs - 1 - n ≡ length xs - (n + 1) = omega arith in
    (l, rw e at (t.1 ∙ get_or-reverse xs n x l ∙ get_or_default xs (length xs - 1 - n) x 0 (omega arith)))

module _ (bytes : List ℕ) where
  pub column_lt : (d n at : ℕ) → column bytes at d n < 2 ^ n
  unfolding column
  column_lt d zero at = omega arith
  column_lt d (suc n) at =
      let p : 2 ^ suc n ≡ 2 ^ n * 2 = pow-suc 2 n in
      let h = column_lt d n (suc at) in
      let b = bit_two (get_or bytes at 0) d in
      omega arith

  pub column_bit : (d n at j : ℕ) → j < n → bit (column bytes at d n) j ≡ bit (get_or bytes (at + j) 0) d
  unfolding column bit
  column_bit d zero at j l = absurd (not-suc-le-zero l)
  column_bit d (suc n) at zero l =
      let b = bit_two (get_or bytes at 0) d in
      let z : at + 0 ≡ at = omega arith in
      rw z (omega arith)
  column_bit d (suc n) at (suc j) l =
      let b = bit_two (get_or bytes at 0) d in
      let z : at + suc j ≡ suc at + j = omega arith in
      let h : (bit (get_or bytes at 0) d + 2 * column bytes (suc at) d n) / 2 ≡ column bytes (suc at) d n = omega arith in
      rw (z, h) (column_bit d n (suc at) j (le_of_suc-le-suc l))

  pub column_out : (d n at j : ℕ) → n ≤ j → bit (column bytes at d n) j ≡ 0
  column_out d n at j l = bit_high n (column bytes at d n) j (column_lt d n at) l

  -- One byte before, of those at the end.
  pub column_back : (d n : ℕ) → n < length bytes
      → column bytes (length bytes - (n + 1)) d (n + 1) ≡ bit (get_or bytes (length bytes - (n + 1)) 0) d + 2 * column bytes (length bytes - n) d n
  unfolding column
  column_back d n l =
      let y : n + 1 ≡ suc n = omega arith in
      let z : suc (length bytes - suc n) ≡ length bytes - n = omega arith in
      rw (y, z)

  pub column_none : (d at : ℕ) → column bytes at d 0 ≡ 0
  unfolding column
  column_none d at = refl

  pub column_bound : (d n at b : ℕ) → n ≤ b → column bytes at d n < 2 ^ b
  column_bound d n at b l = lt_of_lt_of_le (column_lt d n at) (pow_mono l)

  -- n bytes and then m: the digits of the first n stand below the others.
  pub column_append : (d n m at : ℕ) → column bytes at d (n + m) ≡ column bytes (at + n) d m * 2 ^ n + column bytes at d n
  unfolding column
  column_append d zero m at =
      let y : 0 + m ≡ m = omega arith in
      let z : at + 0 ≡ at = omega arith in
      rw (y, z) (omega arith)
  column_append d (suc n) m at =
      let y : suc n + m ≡ suc (n + m) = omega arith in
      let z : at + suc n ≡ suc at + n = omega arith in
      let x = column bytes (suc at + n) d m in
      let p : x * 2 ^ suc n ≡ x * 2 ^ n * 2 = ap (λ (q : ℕ). x * q) (pow-suc 2 n) ∙ sym (mul_assoc x (2 ^ n) 2) in
      let h = column_append d n m (suc at) in
      rw (y, z) (omega arith)

  -- A block of 16 bytes below the bytes after it.
  pub column_join : (d at k b : ℕ) → 0 < b → 16 * b ≤ k
      → column bytes (at + 16 * (b - 1)) d (k - 16 * (b - 1))
      ≡ column bytes (at + 16 * b) d (k - 16 * b) * 65536 + column bytes (at + 16 * (b - 1)) d 16
  column_join d at k b l h =
      let y : k - 16 * (b - 1) ≡ 16 + (k - 16 * b) = omega arith in
      let z : at + 16 * b ≡ at + 16 * (b - 1) + 16 = omega arith in
      rw (y, z) (column_append d 16 (k - 16 * b) (at + 16 * (b - 1)))

  -- One byte before, in all four lanes, which have room for 16.
  pub lanes_back : (n : ℕ) → n < length bytes → length bytes ≤ 16
      → (lanes bytes (length bytes - n) n * 2 + spread_of (get_or bytes (length bytes - (n + 1)) 0) ≡ lanes bytes (length bytes - (n + 1)) (n + 1))
      × (lanes bytes (length bytes - (n + 1)) (n + 1) < 18446744073709551616)
  lanes_back n l r =
      let room : n + 1 ≤ 16 = omega arith in
      let s = length bytes - (n + 1) in (
        omega (arith, column_back 0 n l, column_back 1 n l, column_back 2 n l, column_back 3 n l),
        omega (arith, column_bound 0 (n + 1) s 16 room, column_bound 1 (n + 1) s 16 room, column_bound 2 (n + 1) s 16 room, column_bound 3 (n + 1) s 16 room),
      )

  pub lanes_split : (at n w : ℕ) → n ≤ 16 → w ≡ lanes bytes at n
      → Columns bytes at n
      (record { er = w % 65536; en = w / 65536 % 65536; sr = w / 4294967296 % 65536; sn = w / 281474976710656 })
  lanes_split at n w r e =
      let b0 = column_bound 0 n at 16 r in
      let b1 = column_bound 1 n at 16 r in
      let b2 = column_bound 2 n at 16 r in
      let b3 = column_bound 3 n at 16 r in
      record { er = omega arith; en = omega arith; sr = omega arith; sn = omega arith }

  -- ---- The columns of four kinds.

  pub columns_narrow : (m at n from : ℕ) (high low : KindWords) → m ≤ 48 → n ≤ 16 → Columns bytes at m high → Columns bytes from n low → Narrow high low
  columns_narrow m at n from high low h l x y =
      record {
        high_er = rw x.er (column_bound 0 m at 48 h);
        high_en = rw x.en (column_bound 1 m at 48 h);
        high_sr = rw x.sr (column_bound 2 m at 48 h);
        high_sn = rw x.sn (column_bound 3 m at 48 h);
        low_er = rw y.er (column_bound 0 n from 16 l);
        low_en = rw y.en (column_bound 1 n from 16 l);
        low_sr = rw y.sr (column_bound 2 n from 16 l);
        low_sn = rw y.sn (column_bound 3 n from 16 l);
      }

  pub columns_join : (at k b : ℕ) (high low r : KindWords) → 0 < b → 16 * b ≤ k
      → Columns bytes (at + 16 * b) (k - 16 * b) high → Columns bytes (at + 16 * (b - 1)) 16 low → Joined high low r
      → Columns bytes (at + 16 * (b - 1)) (k - 16 * (b - 1)) r
  columns_join at k b high low r l h x y j =
      let e0 = column_join 0 at k b l h in
      let e1 = column_join 1 at k b l h in
      let e2 = column_join 2 at k b l h in
      let e3 = column_join 3 at k b l h in
      record { er = omega arith; en = omega arith; sr = omega arith; sn = omega arith }

  pub columns_at : (at n : ℕ) (w : KindWords) → Columns bytes at n w → (a : First) (b : Second)
      → kind_word w a b ≡ column bytes at (kind_index (record { first = a; second = b })) n
  columns_at at n w x E R = x.er
  columns_at at n w x E N = x.en
  columns_at at n w x S R = x.sr
  columns_at at n w x S N = x.sn
