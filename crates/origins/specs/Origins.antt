-- What it is to put one origin bit.
use Rattle.std.specs.Prelude.{◌≡◌, List, ℕ, ◌+◌, ◌/◌, ◌<◌, length, get_or}
use Rattle.words.specs.Bits.{bit}
use Rattle.layout.specs.Layout.{origins_at, origin_bit}

-- r is w with its digit j put.
pub record DigitPut (w j digit r : ℕ) : Type 0 where
  pub there : bit r j ≡ digit
  pub else : (k : ℕ) → k < 8 → (k ≡ j → ⊥) → bit r k ≡ bit w k
  pub byte : r < 256

-- Bit i is put; every other bit, and every other byte, is as it was.
pub record OriginPut (before : List ℕ) (i digit : ℕ) (after : List ℕ) : Type 0 where
  pub long : length after ≡ length before
  pub else : (j : ℕ) → (j ≡ origins_at + i / 8 → ⊥) → get_or after j 0 ≡ get_or before j 0
  pub there : origin_bit after i ≡ digit
  pub others : (k : ℕ) → (k ≡ i → ⊥) → origin_bit after k ≡ origin_bit before k
  pub eight : get_or after (origins_at + i / 8) 0 < 256
