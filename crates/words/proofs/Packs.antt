-- Laws of packed flags. Assumes nothing.
use mathlib.Core.Path.{◌≡◌, refl, ap, ap₂, ◌∙◌}
use mathlib.Core.Bool.{Bool, true, false, ◌||◌}
use Prim.Native.Nat.{ℕ, zero, suc, ◌+◌, ◌*◌, ◌/◌, ◌%◌, ◌^◌, ◌≤◌, ◌<◌, max}
use native.Mathlib.Nat.{pow-suc, le_of_suc-le-suc, not-suc-le-zero}
use native.Mathlib.Omega.{arith}
use lib.Dec.{eqb}
use lib.Bits.{bit_or, or_step}
use Rattle.words.specs.Bits.{bit, flag}
use Rattle.words.specs.Pack.{pack}

low : (b : Bool) (q : ℕ) → (flag b + 2 * q) % 2 ≡ flag b
low true q = omega arith
low false q = omega arith

high : (b : Bool) (q : ℕ) → (flag b + 2 * q) / 2 ≡ q
high true q = omega arith
high false q = omega arith

pub flag_back : (b : Bool) → eqb (flag b) 1 ≡ b
flag_back true = refl
flag_back false = refl

pub flag_le : (b : Bool) → flag b ≤ 1
flag_le true = omega arith
flag_le false = omega arith

pub pack_lt : (n : ℕ) (f : ℕ → Bool) → pack n f < 2 ^ n
unfolding pack
pack_lt zero f = omega arith
pack_lt (suc n) f =
    let p : 2 ^ suc n ≡ 2 ^ n * 2 = pow-suc 2 n in
    let h = pack_lt n (λ i. f (suc i)) in
    let b = flag_le (f zero) in
    omega arith

pub bit_pack : (n : ℕ) (f : ℕ → Bool) (i : ℕ) → i < n → bit (pack n f) i ≡ flag (f i)
unfolding pack bit
bit_pack zero f i l = absurd (not-suc-le-zero l)
bit_pack (suc n) f zero l = low (f zero) (pack n (λ i. f (suc i)))
bit_pack (suc n) f (suc i) l =
    ap (λ (x : ℕ). bit x i) (high (f zero) (pack n (λ i. f (suc i)))) ∙ bit_pack n (λ i. f (suc i)) i (le_of_suc-le-suc l)

pub pack_ext : (n : ℕ) (f g : ℕ → Bool) → ((i : ℕ) → i < n → f i ≡ g i) → pack n f ≡ pack n g
unfolding pack
pack_ext zero f g h = refl
pack_ext (suc n) f g h =
    ap₂ (λ (b : Bool) (q : ℕ). flag b + 2 * q) (h zero (omega arith))
    (pack_ext n (λ i. f (suc i)) (λ i. g (suc i)) (λ i l. h (suc i) (omega arith)))

-- A number is its own bits, packed.
bit_flag : (x : ℕ) → x < 2 → flag (eqb x 1) ≡ x
bit_flag zero l = refl
bit_flag (suc zero) l = refl
bit_flag (suc (suc x)) l = absurd (omega arith)

pub pack_bits : (n a : ℕ) → a < 2 ^ n → pack n (λ i. eqb (bit a i) 1) ≡ a
unfolding pack bit
pack_bits zero a l = omega arith
pack_bits (suc n) a l =
    let p : 2 ^ suc n ≡ 2 ^ n * 2 = pow-suc 2 n in
    let h = pack_bits n (a / 2) (omega arith) in
    let b = bit_flag (a % 2) (omega arith) in
    omega arith

or_flag : (a b : Bool) → max (flag a) (flag b) ≡ flag (a || b)
or_flag true true = refl
or_flag true false = refl
or_flag false true = refl
or_flag false false = refl

pub or_pack : (n : ℕ) (f g : ℕ → Bool) → bit_or (pack n f) (pack n g) ≡ pack n (λ i. f i || g i)
unfolding pack
or_pack zero f g = refl
or_pack (suc n) f g =
    let a = pack n (λ i. f (suc i)) in
    let b = pack n (λ i. g (suc i)) in
    let s = or_step (flag (f zero) + 2 * a) (flag (g zero) + 2 * b) in
    let h : bit_or ((flag (f zero) + 2 * a) / 2) ((flag (g zero) + 2 * b) / 2) ≡ pack n (λ i. f (suc i) || g (suc i)) =
    ap₂ bit_or (high (f zero) a) (high (g zero) b) ∙ or_pack n (λ i. f (suc i)) (λ i. g (suc i)) in
    let m : max ((flag (f zero) + 2 * a) % 2) ((flag (g zero) + 2 * b) % 2) ≡ flag (f zero || g zero) =
    ap₂ max (low (f zero) a) (low (g zero) b) ∙ or_flag (f zero) (g zero) in
    omega arith
