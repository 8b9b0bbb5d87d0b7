-- Mark bytes and kind bytes as packed flags, and joined by or. Assumes nothing.
use mathlib.Core.Path.{◌≡◌, refl, sym, ap, ap₂, ◌∙◌}
use mathlib.Core.Bool.{Bool, false, ◌||◌, or-false}
use mathlib.Core.List.{List, [], ◌∷◌}
use Prim.Native.Nat.{ℕ, zero, suc, ◌/◌, ◌%◌, ◌^◌, ◌<◌}
use native.Mathlib.Omega.{arith}
use lib.Bits.{bit_or}
use lib.ListN.{get_or}
use Rattle.words.specs.Bits.{flag}
use Rattle.words.specs.Pack.{pack}
use Rattle.words.proofs.Words.{bit_shift}
use Rattle.words.proofs.Packs.{or_pack, pack_ext, bit_pack}
use Rattle.rules.specs.HeldLocks.{First, Second, E, S, R, N}
use Rattle.rules.specs.Marks.{Marks, Level, hard_irq, soft_irq, Usage, safe, unsafe, mark_bit}
use Rattle.rules.specs.Graph.{kind_bit_by, Dependencies}
use Rattle.rules.specs.KindNames.{ER, EN, SR, SN}
use Rattle.layout.specs.Encoding.{mark_byte, kind_byte}

-- The flags of a byte, the lowest bit's first.
abbrev pub mark_flags : Marks → ℕ → List Bool
mark_flags m c =
    m c hard_irq (safe N) ∷ m c hard_irq (safe R) ∷ m c hard_irq (unsafe E) ∷ m c hard_irq (unsafe S)
    ∷ m c soft_irq (safe N) ∷ m c soft_irq (safe R) ∷ m c soft_irq (unsafe E) ∷ m c soft_irq (unsafe S) ∷ []

abbrev pub kind_flags : Dependencies → ℕ → ℕ → List Bool
kind_flags d from to = d from to ER ∷ d from to EN ∷ d from to SR ∷ d from to SN ∷ []

pub mark_packed : (m : Marks) (c : ℕ) → mark_byte m c ≡ pack 8 (λ i. get_or (mark_flags m c) i false)
unfolding mark_byte pack
mark_packed m c = omega arith

pub kind_packed : (d : Dependencies) (from to : ℕ) → kind_byte d from to ≡ pack 4 (λ i. get_or (kind_flags d from to) i false)
unfolding kind_byte pack
kind_packed d from to = omega arith

-- The digit of a byte at a bit says whether it is set.
digit_flag : (n : ℕ) (flags : List Bool) (i : ℕ) → i < n → pack n (λ i. get_or flags i false) / 2 ^ i % 2 ≡ flag (get_or flags i false)
digit_flag n flags i l = bit_shift _ i ∙ bit_pack n (λ i. get_or flags i false) i l

pub mark_digit : (m : Marks) (c : ℕ) (l : Level) (u : Usage) → mark_byte m c / mark_bit l u % 2 ≡ flag (m c l u)
mark_digit m c l u = ap (λ (x : ℕ). x / mark_bit l u % 2) (mark_packed m c) ∙ by l u
  where
    by : (l : Level) (u : Usage) → pack 8 (λ i. get_or (mark_flags m c) i false) / mark_bit l u % 2 ≡ flag (m c l u)
    by hard_irq (safe N) = digit_flag 8 (mark_flags m c) 0 (omega arith)
    by hard_irq (safe R) = digit_flag 8 (mark_flags m c) 1 (omega arith)
    by hard_irq (unsafe E) = digit_flag 8 (mark_flags m c) 2 (omega arith)
    by hard_irq (unsafe S) = digit_flag 8 (mark_flags m c) 3 (omega arith)
    by soft_irq (safe N) = digit_flag 8 (mark_flags m c) 4 (omega arith)
    by soft_irq (safe R) = digit_flag 8 (mark_flags m c) 5 (omega arith)
    by soft_irq (unsafe E) = digit_flag 8 (mark_flags m c) 6 (omega arith)
    by soft_irq (unsafe S) = digit_flag 8 (mark_flags m c) 7 (omega arith)

pub kind_digit : (d : Dependencies) (f t : ℕ) (a : First) (b : Second) → kind_byte d f t / kind_bit_by a b % 2 ≡ flag (d f t (record { first = a; second = b }))
kind_digit d f t a b = ap (λ (x : ℕ). x / kind_bit_by a b % 2) (kind_packed d f t) ∙ by a b
  where
    by : (a : First) (b : Second)
        → pack 4 (λ i. get_or (kind_flags d f t) i false) / kind_bit_by a b % 2 ≡ flag (d f t (record { first = a; second = b }))
    by E R = digit_flag 4 (kind_flags d f t) 0 (omega arith)
    by E N = digit_flag 4 (kind_flags d f t) 1 (omega arith)
    by S R = digit_flag 4 (kind_flags d f t) 2 (omega arith)
    by S N = digit_flag 4 (kind_flags d f t) 3 (omega arith)

abbrev either_of : List Bool → List Bool → List Bool
either_of [] ys = ys
either_of (x ∷ xs) [] = x ∷ xs
either_of (x ∷ xs) (y ∷ ys) = (x || y) ∷ either_of xs ys

get_or_either : (xs ys : List Bool) (i : ℕ) → (get_or xs i false || get_or ys i false) ≡ get_or (either_of xs ys) i false
get_or_either [] ys i = refl
get_or_either (x ∷ xs) [] i = or-false (get_or (x ∷ xs) i false)
get_or_either (x ∷ xs) (y ∷ ys) zero = refl
get_or_either (x ∷ xs) (y ∷ ys) (suc i) = get_or_either xs ys i

or_flags : (n : ℕ) (xs ys : List Bool)
    → bit_or (pack n (λ i. get_or xs i false)) (pack n (λ i. get_or ys i false)) ≡ pack n (λ i. get_or (either_of xs ys) i false)
or_flags n xs ys = or_pack n (λ i. get_or xs i false) (λ i. get_or ys i false) ∙ pack_ext n _ _ (λ i l. get_or_either xs ys i)

pub mark_or : (m m' : Marks) (c : ℕ) → bit_or (mark_byte m c) (mark_byte m' c) ≡ mark_byte (λ c l u. m c l u || m' c l u) c
mark_or m m' c =
    ap₂ bit_or (mark_packed m c) (mark_packed m' c) ∙ or_flags 8 (mark_flags m c) (mark_flags m' c) ∙ sym (mark_packed (λ c l u. m c l u || m' c l u) c)

pub kind_or : (d d' : Dependencies) (f t : ℕ) → bit_or (kind_byte d f t) (kind_byte d' f t) ≡ kind_byte (λ f t k. d f t k || d' f t k) f t
kind_or d d' f t =
    ap₂ bit_or (kind_packed d f t) (kind_packed d' f t) ∙ or_flags 4 (kind_flags d f t) (kind_flags d' f t)
    ∙ sym (kind_packed (λ f t k. d f t k || d' f t k) f t)
