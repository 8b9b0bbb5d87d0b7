-- What a buffer is after the bytes of a number are copied into it. Assumes nothing.
use mathlib.Core.Path.{◌≡◌, refl, ap, ◌∙◌}
use mathlib.Core.List.{List}
use mathlib.Core.Logic.{⊎_elim}
use Prim.Native.Nat.{ℕ, zero, suc, ◌+◌, ◌-◌, ◌/◌, ◌≤◌}
use native.Mathlib.Omega.{arith}
use lib.ListN.{length, get_or, take, drop, get_or-append}
use borrow.Rule.Slice.PartMut.{put_mid}
use Rattle.std.proofs.Common.{length-append, length-drop}
use Rattle.std.proofs.Math.Nat.{div-div-eq-div-mul}
use Rattle.std.proofs.lemmas.List.{get_or-append_right, get_or-take, get_or-drop, length-take-le}
use Rattle.std.specs.Int.{w32, w64, to_le_bytes}
use Rattle.rules.specs.Number.{bytes_of}
use Rattle.numbers.specs.Numbers.{WidePut}

pub four_bytes : (n : ℕ) → to_le_bytes w32 n ≡ bytes_of 4 n
four_bytes n = simp div-div-eq-div-mul

pub eight_bytes : (n : ℕ) → to_le_bytes w64 n ≡ bytes_of 8 n
eight_bytes n = simp div-div-eq-div-mul

length-bytes_of : (size n : ℕ) → length (bytes_of size n) ≡ size
length-bytes_of zero n = refl
length-bytes_of (suc size) n = ap suc (length-bytes_of size (n / 256))

module _ (size at number : ℕ) (before bytes : List ℕ) (room : at + size ≤ length before) (are : bytes ≡ bytes_of size number) where
  long : length bytes ≡ size
  long = ap length are ∙ length-bytes_of size number

  front : length (take at before) ≡ at
  front = length-take-le at before (omega arith)

  in_place : WidePut size before at number (put_mid at size before bytes)
  in_place =
      record {
        long = simp (length-append, length-drop) (omega (arith, front, long));
        there = λ j l.
            let e : at + j - at ≡ j = omega arith in
            get_or-append_right (take at before) _ at (at + j) 0 front (omega arith)
            ∙ rw e (get_or-append bytes _ 0 j (omega (arith, long)) ∙ ap (λ (b : List ℕ). get_or b j 0) are);
        else = λ j o.
            ⊎_elim (λ l. get_or-append (take at before) _ 0 j (omega (arith, front)) ∙ get_or-take at before j 0 l)
            (λ l.
            let e : at + (size + (j - at - size)) ≡ j = omega arith in
            get_or-append_right (take at before) _ at j 0 front (omega arith)
            ∙ get_or-append_right bytes _ size (j - at) 0 long (omega arith)
            ∙ get_or-drop size (drop at before) (j - at - size) 0 ∙ get_or-drop at before (size + (j - at - size)) 0
            ∙ ap (λ (i : ℕ). get_or before i 0) e)
            o;
      }

  pub written : WidePut size before at number (put_mid at (at + size - at) before bytes)
  written = let e : at + size - at ≡ size = omega arith in rw e in_place
