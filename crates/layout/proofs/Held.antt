-- Held locks in the bytes: the mode in two places, the values at a place, and origin bits by their bytes. Assumes nothing.
use mathlib.Core.Path.{◌≡◌, refl, ap, ◌∙◌}
use mathlib.Core.List.{List, [], ◌∷◌, map}
use Prim.Native.Nat.{ℕ, zero, suc, ◌+◌, ◌*◌, ◌/◌, ◌%◌, ◌^◌, ◌≤◌, ◌<◌}
use native.Mathlib.Nat.{le_of_suc-le-suc, not-suc-le-zero, zero-div}
use native.Mathlib.Decide.{dec_lt}
use native.Mathlib.Omega.{arith}
use lib.ListN.{length, get_or}
use borrow.Author.Tests.{le-leb, lt-leb}
use Rattle.words.specs.Bits.{flag}
use Rattle.rules.specs.Limits.{held_modes, mode_count}
use Rattle.rules.specs.HeldLocks.{HeldLock, is_try, held_as}
use Rattle.layout.specs.Layout.{origins_at, origin_bit}

-- The origin of a mode, and the mode back from that in which the lock is held and its origin.
pub mode_origin : (mode : ℕ) → mode < mode_count → mode / held_modes ≡ flag (is_try mode)
mode_origin mode l =
    elim (dec_lt mode held_modes) [
      | yes h ↦ rw (lt-leb held_modes mode h) (omega arith)
      | no h ↦ rw (le-leb held_modes mode (omega arith)) (omega arith)
    ]

pub mode_back : (mode : ℕ) → mode < mode_count → held_as mode + held_modes * flag (is_try mode) ≡ mode
mode_back mode l = let o = mode_origin mode l in omega arith

-- A lock past the end of a list.
abbrev pub unheld : HeldLock
unheld = record { class = 0; mode = 0 }

-- What a byte or a bit says of the lock at a place.
pub value_at : (say : HeldLock → ℕ) (hs : List HeldLock) (p : ℕ) (d : HeldLock) → p < length hs → get_or (map say hs) p 0 ≡ say (get_or hs p d)
value_at say [] p d l = absurd (not-suc-le-zero l)
value_at say (h ∷ hs) zero d l = refl
value_at say (h ∷ hs) (suc p) d l = value_at say hs p d (le_of_suc-le-suc l)

-- Origin bits of equal bytes are equal, and those of a byte that is 0 are 0.
pub same_bits : (x y : List ℕ) → ((j : ℕ) → origins_at ≤ j → get_or x j 0 ≡ get_or y j 0) → (k : ℕ) → origin_bit x k ≡ origin_bit y k
same_bits x y e k = ap (λ (b : ℕ). b / 2 ^ (k % 8) % 2) (e (origins_at + k / 8) (omega arith))

pub zero_bit : (desk : List ℕ) (k : ℕ) → get_or desk (origins_at + k / 8) 0 ≡ 0 → origin_bit desk k ≡ 0
zero_bit desk k e = ap (λ (b : ℕ). b / 2 ^ (k % 8) % 2) e ∙ rw (zero-div (2 ^ (k % 8))) refl
