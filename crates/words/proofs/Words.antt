-- Laws of the binary digits of a word. Assumes nothing.
use mathlib.Core.Path.{◌≡◌, refl, sym, ap, ◌∙◌, subst}
use mathlib.Core.Logic.{◌⊎◌, inl, inr, ⊎_elim}
use Prim.Native.Nat.{ℕ, zero, suc, ◌+◌, ◌-◌, ◌*◌, ◌/◌, ◌%◌, ◌^◌, ◌≤◌, ◌<◌, min, max}
use native.Mathlib.Nat.{pow-suc, one-mul}
use native.Mathlib.Numerals.{one-add}
use native.Mathlib.Decide.{dec_lt}
use native.Mathlib.Omega.{arith}
use lib.Arith.{digits_div, digits_mod}
use lib.Bits.{bit_and, bit_or, and_step, or_step, or_zero_r, or_lt}
use lib.Count.{ones, ones_step, ones-le, count_trailing_zeros, under}
use lib.Pow.{shr-shr, shl_exact, pow-lt}
use Rattle.words.specs.Bits.{bit, With, Lowest, Without, Both}

-- the digit is a shift and a remainder
-- Two numbers with the same binary digits are equal.
pub bits_same : (most w v : ℕ) → w ≤ most → v ≤ most → ((t : ℕ) → bit w t ≡ bit v t) → w ≡ v
unfolding bit
bits_same zero w v l m h = omega arith
bits_same (suc most) w v l m h =
    let low = h zero in
    let high = bits_same most (w / 2) (v / 2) (omega arith) (omega arith) (λ t. h (suc t)) in
    omega arith

pub bit_shift : (w i : ℕ) → w / 2 ^ i % 2 ≡ bit w i
unfolding bit
bit_shift w zero = ap (λ (x : ℕ). x % 2) (omega arith)
bit_shift w (suc i) =
    ap (λ (x : ℕ). w / 2 ^ x % 2) (sym (one-add i)) ∙ ap (λ (x : ℕ). x % 2) (sym (shr-shr w 1 i)) ∙ bit_shift (w / 2) i

pub bit_two : (w i : ℕ) → bit w i < 2
unfolding bit
bit_two w zero = omega arith
bit_two w (suc i) = bit_two (w / 2) i

pub bit_cases : (w i : ℕ) → (bit w i ≡ 1) ⊎ (bit w i ≡ 0)
bit_cases w i = go (bit w i) (bit_two w i)
  where
    go : (b : ℕ) → b < 2 → (b ≡ 1) ⊎ (b ≡ 0)
    go zero h = inr refl
    go (suc zero) h = inl refl
    go (suc (suc b)) h = absurd (omega arith)

or_half : (a b : ℕ) → bit_or a b / 2 ≡ bit_or (a / 2) (b / 2)
or_half a b = ap (λ (x : ℕ). x / 2) (or_step a b) ∙ digits_div (bit_or (a / 2) (b / 2)) (omega arith)

or_low : (a b : ℕ) → bit_or a b % 2 ≡ max (a % 2) (b % 2)
or_low a b = ap (λ (x : ℕ). x % 2) (or_step a b) ∙ digits_mod (bit_or (a / 2) (b / 2)) (omega arith)

and_half : (a b : ℕ) → bit_and a b / 2 ≡ bit_and (a / 2) (b / 2)
and_half a b = ap (λ (x : ℕ). x / 2) (and_step a b) ∙ digits_div (bit_and (a / 2) (b / 2)) (omega arith)

and_low : (a b : ℕ) → bit_and a b % 2 ≡ min (a % 2) (b % 2)
and_low a b = ap (λ (x : ℕ). x % 2) (and_step a b) ∙ digits_mod (bit_and (a / 2) (b / 2)) (omega arith)

pub bit_or_lem : (a b i : ℕ) → bit (bit_or a b) i ≡ max (bit a i) (bit b i)
unfolding bit
bit_or_lem a b zero = or_low a b
bit_or_lem a b (suc i) = ap (λ (x : ℕ). bit x i) (or_half a b) ∙ bit_or_lem (a / 2) (b / 2) i

pub bit_and_lem : (a b i : ℕ) → bit (bit_and a b) i ≡ min (bit a i) (bit b i)
unfolding bit
bit_and_lem a b zero = and_low a b
bit_and_lem a b (suc i) = ap (λ (x : ℕ). bit x i) (and_half a b) ∙ bit_and_lem (a / 2) (b / 2) i

-- the complement in k digits
pub bit_not : (k b i : ℕ) → b < 2 ^ k → i < k → bit ((2 ^ k - 1) - b) i ≡ 1 - bit b i
unfolding bit
bit_not zero b i h l = absurd (omega arith)
bit_not (suc k) b zero h l = let p : 2 ^ suc k ≡ 2 ^ k * 2 = pow-suc 2 k in omega arith
bit_not (suc k) b (suc i) h l =
    let p : 2 ^ suc k ≡ 2 ^ k * 2 = pow-suc 2 k in
    ap (λ (x : ℕ). bit x i) (omega arith) ∙ bit_not k (b / 2) i (omega arith) (omega arith)

-- powers of two
pow_half : (i : ℕ) → 2 ^ suc i / 2 ≡ 2 ^ i
pow_half i = let p : 2 ^ suc i ≡ 2 ^ i * 2 = pow-suc 2 i in omega arith

pow_even : (i : ℕ) → 2 ^ suc i % 2 ≡ 0
pow_even i = let p : 2 ^ suc i ≡ 2 ^ i * 2 = pow-suc 2 i in omega arith

pub bit_zero : (i : ℕ) → bit 0 i ≡ 0
unfolding bit
bit_zero zero = refl
bit_zero (suc i) = bit_zero i

pub bit_one : (i : ℕ) → bit (2 ^ i) i ≡ 1
unfolding bit
bit_one zero = refl
bit_one (suc i) = ap (λ (x : ℕ). bit x i) (pow_half i) ∙ bit_one i

pub bit_other : (i j : ℕ) → bit (2 ^ i) j ≡ 1 → j ≡ i
unfolding bit
bit_other zero zero e = refl
bit_other zero (suc j) e = absurd (let z : bit 0 j ≡ 0 = bit_zero j in omega arith)
bit_other (suc i) zero e = absurd (let z = pow_even i in omega arith)
bit_other (suc i) (suc j) e = ap suc (bit_other i j (ap (λ (x : ℕ). bit x j) (sym (pow_half i)) ∙ e))

-- one more member
pub ones_with : (w i : ℕ) → bit w i ≡ 0 → ones (bit_or w (2 ^ i)) ≡ ones w + 1
unfolding bit
ones_with w zero e =
    let s = ones_step (bit_or w 1) in
    let l = or_low w 1 in
    let h : ones (bit_or w 1 / 2) ≡ ones (w / 2) = ap ones (or_half w 1 ∙ or_zero_r (w / 2)) in
    let t = ones_step w in
    omega arith
ones_with w (suc i) e =
    let s = ones_step (bit_or w (2 ^ suc i)) in
    let l = or_low w (2 ^ suc i) in
    let v = pow_even i in
    let h : ones (bit_or w (2 ^ suc i) / 2) ≡ ones (w / 2) + 1 =
    ap ones (or_half w (2 ^ suc i) ∙ ap (λ (x : ℕ). bit_or (w / 2) x) (pow_half i)) ∙ ones_with (w / 2) i e in
    let t = ones_step w in
    omega arith

-- the lowest member
pub TrailingIs : ℕ → ℕ → ℕ → Type 0
TrailingIs k w t = (t < k) × (bit w t ≡ 1) × ((j : ℕ) → j < t → bit w j ≡ 0)

trailing_step : (k w d t : ℕ) → w % 2 ≡ d → 0 < w → (0 < w / 2 → TrailingIs k (w / 2) t) → TrailingIs (suc k) w (under d t)
unfolding bit TrailingIs
trailing_step k w zero t e p ih =
    let h = ih (omega arith) in
    (omega arith, h.1, elim [ zero ↦ λ l. e | suc i ↦ λ l. h.2 i (omega arith) ])
trailing_step k w (suc d) t e p ih = (omega arith, omega arith, λ j l. absurd (omega arith))

trailing : (k w : ℕ) → 0 < w → w < 2 ^ k → TrailingIs k w (count_trailing_zeros k w)
unfolding count_trailing_zeros
trailing zero w p h = absurd (omega arith)
trailing (suc k) w p h =
    trailing_step k w (w % 2) (count_trailing_zeros k (w / 2)) refl p
    (λ q. trailing k (w / 2) q (let e : 2 ^ suc k ≡ 2 ^ k * 2 = pow-suc 2 k in omega arith))

pub some_bit : (k w : ℕ) → 0 < w → w < 2 ^ k → (p : ℕ) × (p < k) × (bit w p ≡ 1)
unfolding TrailingIs
some_bit k w p h = let t = trailing k w p h in (count_trailing_zeros k w, t.0, t.1)

pub lowest_law : (w : ℕ) → 0 < w → w < 2 ^ 64 → Lowest w (count_trailing_zeros 64 w)
unfolding TrailingIs
lowest_law w p h = let t = trailing 64 w p h in record { small = t.0; member = t.1; first = t.2 }

-- insertion, with the bit made as the code makes it
pub with_law : (w i : ℕ) → i < 64 → With w i (bit_or w ((1 * 2 ^ i) % 2 ^ 64))
with_law w i h =
    rw shifted
    record {
      there = let e = bit_or_lem w (2 ^ i) i in let o = bit_one i in let b = bit_two w i in omega arith;
      kept = λ j m. let e = bit_or_lem w (2 ^ i) j in let b = bit_two (2 ^ i) j in omega arith;
      only = λ j m. ⊎_elim (λ y. inl y) (λ y. inr (bit_other i j (let e = bit_or_lem w (2 ^ i) j in omega arith))) (bit_cases w j);
      more = ones_with w i;
      within = λ k hw hi. or_lt k w (2 ^ i) hw (pow-lt hi);
    }
  where
    shifted : (1 * 2 ^ i) % 2 ^ 64 ≡ 2 ^ i
    shifted = shl_exact 1 i 64 (omega arith) (omega arith) ∙ one-mul (2 ^ i)

-- members are below the width
pub bit_high : (k w j : ℕ) → w < 2 ^ k → k ≤ j → bit w j ≡ 0
unfolding bit
bit_high zero w j h l = (let e : w ≡ 0 = omega arith in ap (λ (x : ℕ). bit x j) e) ∙ bit_zero j
bit_high (suc k) w zero h l = absurd (omega arith)
bit_high (suc k) w (suc j) h l = bit_high k (w / 2) j (let e : 2 ^ suc k ≡ 2 ^ k * 2 = pow-suc 2 k in omega arith) (omega arith)

pub bit_low : (w j : ℕ) → w < 2 ^ 64 → bit w j ≡ 1 → j < 64
bit_low w j h m = elim (dec_lt j 64) [ yes l ↦ l | no n ↦ absurd (let z = bit_high 64 w j h (omega arith) in omega arith) ]

pub without_law : (w v : ℕ) → v < 2 ^ 64 → w < 2 ^ 64 → Without w v (bit_and w ((2 ^ 64 - 1) - v))
without_law w v h hw =
    record {
      from = λ j m. let e = at j in let b = bit_two w j in omega arith;
      out = λ j m. let e = at j in let b = bit_two w j in
          let n = bit_not 64 v j h (bit_low w j hw (omega arith)) in let t = bit_two v j in omega arith;
      all = λ j l m o. let e = at j in let n = bit_not 64 v j h l in omega arith;
    }
  where
    at : (j : ℕ) → bit (bit_and w ((2 ^ 64 - 1) - v)) j ≡ min (bit w j) (bit ((2 ^ 64 - 1) - v) j)
    at j = bit_and_lem w ((2 ^ 64 - 1) - v) j

pub both_law : (w v : ℕ) → Both w v (bit_and w v)
both_law w v =
    record {
      left = λ j m. let e = bit_and_lem w v j in let b = bit_two w j in let c = bit_two v j in omega arith;
      right = λ j m. let e = bit_and_lem w v j in let b = bit_two w j in let c = bit_two v j in omega arith;
      all = λ j m o. let e = bit_and_lem w v j in omega arith;
    }

-- fewer members, fewer ones
pub ones_mono : (k w v : ℕ) → w < 2 ^ k → ((j : ℕ) → bit w j ≡ 1 → bit v j ≡ 1) → ones w ≤ ones v
unfolding bit
ones_mono zero w v h f = let e : w ≡ 0 = omega arith in let z = ones_step 0 in let o = ones-le 0 w h in omega arith
ones_mono (suc k) w v h f =
    let p : 2 ^ suc k ≡ 2 ^ k * 2 = pow-suc 2 k in
    let a = ones_step w in
    let b = ones_step v in
    let r = ones_mono k (w / 2) (v / 2) (omega arith) (λ j m. f (suc j) m) in
    ⊎_elim (λ m. let q : v % 2 ≡ 1 = f 0 m in omega arith) (λ m. let q : w % 2 ≡ 0 = m in omega arith) (bit_cases w 0)

-- one more member, one more
pub ones_more : (w v i : ℕ) → w < 2 ^ 64 → i < 64 → ((j : ℕ) → bit w j ≡ 1 → bit v j ≡ 1) → bit w i ≡ 0 → bit v i ≡ 1 → ones w + 1 ≤ ones v
ones_more w v i h l f o m =
    let e = ones_with w i o in
    let r = ones_mono 64 (bit_or w (2 ^ i)) v (or_lt 64 w (2 ^ i) h (pow-lt l))
    (λ j y. ⊎_elim (λ old. f j old)
    (λ z. subst (λ (x : ℕ). bit v x ≡ 1) (sym (bit_other i j (let q = bit_or_lem w (2 ^ i) j in omega arith))) m) (bit_cases w j)) in
    omega arith
