-- One digit of a byte, and one bit of the origins. Assumes nothing.
use mathlib.Core.Path.{◌≡◌, refl, sym, ap, ◌∙◌}
use mathlib.Core.List.{List}
use mathlib.Core.Logic.{⊎_elim}
use Prim.Native.Nat.{ℕ, zero, suc, ◌+◌, ◌-◌, ◌*◌, ◌/◌, ◌%◌, ◌^◌, ◌<◌, ◌≤◌}
use native.Mathlib.Nat.{zero-mul, one-mul}
use native.Mathlib.Decide.{ℕ_discrete}
use native.Mathlib.Omega.{arith}
use lib.Bits.{bit_or, bit_and, or_lt, and_le_l}
use lib.ListN.{length, get_or, set, length-set}
use lib.Pow.{shl_exact, pow-lt}
use lib.Seq.{get_or-set_same, get_or-set_other}
use Rattle.words.specs.Bits.{bit}
use Rattle.words.proofs.Words.{bit_shift, bit_two, bit_cases, bit_or_lem, bit_and_lem, bit_not, bit_zero, bit_one, bit_other}
use Rattle.layout.specs.Layout.{origins_at, place_count, desk_size}
use Rattle.origins.specs.Origins.{DigitPut, OriginPut}

module _ (j : ℕ) (l : j < 8) where
  one_bit : (1 * 2 ^ j) % 2 ^ 8 ≡ 2 ^ j
  one_bit = shl_exact 1 j 8 (omega arith) (omega arith) ∙ one-mul (2 ^ j)

  -- A digit at its place, and its own digits.
  shifted : (d : ℕ) → d < 2 → ((d * 2 ^ j) % 2 ^ 8 < 2 ^ 8) × (bit ((d * 2 ^ j) % 2 ^ 8) j ≡ d) × ((k : ℕ) → (k ≡ j → ⊥) → bit ((d * 2 ^ j) % 2 ^ 8) k ≡ 0)
  shifted zero h = rw (zero-mul (2 ^ j)) (omega arith, bit_zero j, λ k n. bit_zero k)
  shifted (suc zero) h =
      rw one_bit (pow-lt l, bit_one j, λ k n. ⊎_elim (λ e. absurd (n (bit_other j k e))) (λ e. e) (bit_cases (2 ^ j) k))
  shifted (suc (suc d)) h = absurd (omega arith)

  pub digit_put : (w d : ℕ) → w < 256 → d < 2 → DigitPut w j d (bit_or (bit_and w ((2 ^ 8 - 1) - (1 * 2 ^ j) % 2 ^ 8)) ((d * 2 ^ j) % 2 ^ 8))
  digit_put w d h m =
      let v = (2 ^ 8 - 1) - (1 * 2 ^ j) % 2 ^ 8 in
      let s = shifted d m in
      let at : (k : ℕ) → k < 8 → bit v k ≡ 1 - bit (2 ^ j) k = λ k q. rw one_bit (bit_not 8 (2 ^ j) k (pow-lt l) q) in
      let one = shifted 1 (omega arith) in
      record {
        there =
            let o = bit_or_lem (bit_and w v) ((d * 2 ^ j) % 2 ^ 8) j in
            let a = bit_and_lem w v j in
            let n = at j l in
            let b = bit_one j in
            let t = s.1 in
            omega arith;
        else = λ k q n.
            let o = bit_or_lem (bit_and w v) ((d * 2 ^ j) % 2 ^ 8) k in
            let a = bit_and_lem w v k in
            let e = at k q in
            let b : bit (2 ^ j) k ≡ 0 = rw one_bit at (one.2 k n) in
            let t = s.2 k n in
            let two = bit_two w k in
            omega arith;
        byte = or_lt 8 (bit_and w v) ((d * 2 ^ j) % 2 ^ 8) (let a = and_le_l w v in omega arith) s.0;
      }

-- The byte of bit i is written.
pub origin_put : (desk : List ℕ) (i d r : ℕ) → desk_size ≤ length desk → i < place_count → DigitPut (get_or desk (origins_at + i / 8) 0) (i % 8) d r
    → OriginPut desk i d (set desk (origins_at + i / 8) r)
origin_put desk i d r long l p =
    record {
      long = length-set desk (origins_at + i / 8) r;
      else = λ j n. get_or-set_other desk (origins_at + i / 8) j r 0 (λ e. n (omega arith));
      there = ap (λ (x : ℕ). x / 2 ^ (i % 8) % 2) same ∙ bit_shift r (i % 8) ∙ p.there;
      others = λ k n. elim (ℕ_discrete (k / 8) (i / 8)) [
        | yes e ↦
            let q : get_or (set desk (origins_at + i / 8) r) (origins_at + k / 8) 0 ≡ r = rw e same in
            let b : bit (get_or desk (origins_at + k / 8) 0) (k % 8) ≡ bit (get_or desk (origins_at + i / 8) 0) (k % 8) = rw e refl in
            ap (λ (x : ℕ). x / 2 ^ (k % 8) % 2) q ∙ bit_shift r (k % 8) ∙ p.else (k % 8) (omega arith) (λ h. n (omega arith))
            ∙ sym b ∙ sym (bit_shift (get_or desk (origins_at + k / 8) 0) (k % 8))
        | no e ↦ ap (λ (x : ℕ). x / 2 ^ (k % 8) % 2) (get_or-set_other desk (origins_at + i / 8) (origins_at + k / 8) r 0 (λ h. e (omega arith)))
      ];
      eight = rw same p.byte;
    }
  where
    same : get_or (set desk (origins_at + i / 8) r) (origins_at + i / 8) 0 ≡ r
    same = get_or-set_same desk (origins_at + i / 8) r 0 (omega arith)
