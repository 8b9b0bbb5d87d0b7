-- A difference of two numbers. Assumes nothing.
use mathlib.Core.Path.{◌≡◌, sym, ap, ap₂, ◌∙◌}
use mathlib.Core.Bool.{Bool, true, false, cond}
use Prim.Native.Nat.{ℕ, zero, suc, ◌+◌, ◌-◌, ◌≤◌}
use native.Mathlib.Omega.{arith}
use lib.Dec.{ltb}
use lib.IntN.{ℤ, pos, negsuc, neg_ℤ, ◌+ℤ◌, ◌-ℤ◌, +ℤ_assoc, +ℤ_comm, neg_ℤ-+ℤ, pos-+ℤ-pos}
use lib.Signed.{mag}

-- Two sums, added across.
across : (a b c d : ℤ) → (a +ℤ b) +ℤ (c +ℤ d) ≡ (a +ℤ c) +ℤ (b +ℤ d)
across a b c d =
    +ℤ_assoc a b (c +ℤ d)
    ∙ ap (λ (x : ℤ). a +ℤ x) (sym (+ℤ_assoc b c d) ∙ ap (λ (x : ℤ). x +ℤ d) (+ℤ_comm b c) ∙ +ℤ_assoc c b d)
    ∙ sym (+ℤ_assoc a c (b +ℤ d))

pub difference_adds : (a b c d : ℕ) → pos (a + c) -ℤ pos (b + d) ≡ (pos a -ℤ pos b) +ℤ (pos c -ℤ pos d)
difference_adds a b c d =
    ap₂ (λ (x y : ℤ). x +ℤ y) (sym (pos-+ℤ-pos a c)) (ap neg_ℤ (sym (pos-+ℤ-pos b d)) ∙ neg_ℤ-+ℤ (pos b) (pos d))
    ∙ across (pos a) (pos c) (neg_ℤ (pos b)) (neg_ℤ (pos d))

-- It is no further from 0 than the two are.
pub difference_small : (a b n : ℕ) → a ≤ n → b ≤ n → mag (pos a -ℤ pos b) ≤ n
difference_small a zero n h k = omega arith
difference_small a (suc b) n h k = by (ltb a (suc b))
  where
    by : (t : Bool) → mag (cond t (negsuc (suc b - suc a)) (pos (a - suc b))) ≤ n
    by true = omega arith
    by false = omega arith

pub sum_small : (a b : ℤ) → mag (a +ℤ b) ≤ suc (mag a + mag b)
sum_small (pos a) (pos b) = omega arith
sum_small (pos a) (negsuc b) = omega (arith, difference_small a (suc b) (suc (a + b)) (omega arith) (omega arith))
sum_small (negsuc a) (pos b) = omega (arith, difference_small b (suc a) (suc (a + b)) (omega arith) (omega arith))
sum_small (negsuc a) (negsuc b) = omega arith
