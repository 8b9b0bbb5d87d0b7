-- Laws of the choice by rank. Assumes nothing.
use mathlib.Core.Path.{◌≡◌, refl, sym, subst}
use mathlib.Core.List.{List}
use Prim.Native.Nat.{ℕ, ◌+◌, ◌<◌, ◌≤◌}
use native.Mathlib.Omega.{arith}
use native.Mathlib.Decide.{ℕ_discrete}
use lib.ListN.{get_or}
use Rattle.words.specs.Bits.{bit, Both, Lowest}
use Rattle.words.proofs.Words.{bit_zero}
use Rattle.rules.specs.HeldLocks.{Second, R, N}
use Rattle.search.specs.declared.Arrivals.{Arrivals}
use Rattle.shortest.specs.Shortest.{Side, ranks_after, Hit, Picked}

pub ranks_few : (b : Second) → ranks_after b ≤ 12
ranks_few R = omega arith
ranks_few N = omega arith

-- No rank below j has a hit.
pub record Passed (words : List ℕ) (s : Arrivals) (j : ℕ) : Type 0 where
  pub none : (i t : ℕ) → i < j → Hit words s i t → ⊥

pub passed_none : {words : List ℕ} {s : Arrivals} → Passed words s 0
passed_none = record { none = λ i t l. absurd (omega arith) }

module _ {words : List ℕ} {s : Arrivals} {j hit side : ℕ} (p : Passed words s j) (e : side ≡ Side s j) (o : Both (get_or words j 0) side hit) where
  pub passed_more : hit ≡ 0 → Passed words s (j + 1)
  passed_more z =
      record {
        none = λ i t l h. elim (ℕ_discrete i j) [
          | yes q ↦ let m = o.all t (subst (λ (o : ℕ). bit (get_or words o 0) t ≡ 1) q h.0) (subst (λ (o : ℕ). bit o t ≡ 1) (sym e) (subst (λ (o : ℕ). bit (Side s o) t ≡ 1) q h.1)) in
              let n : bit hit t ≡ 0 = rw z (bit_zero t) in omega arith
          | no q ↦ p.none i t (omega arith) h
        ];
      }

  pub picked_some : {n to : ℕ} → j < n → n ≤ 12 → Lowest hit to → Picked words n s (record { rank = j; to = to })
  picked_some {n} {to} l k m =
      record {
        small = omega arith;
        zero = λ z. absurd (omega arith);
        none = λ z. absurd (omega arith);
        below = λ _. l;
        hit = λ _. (o.left to m.member, subst (λ (o : ℕ). bit o to ≡ 1) e (o.right to m.member));
        first = λ i t u v h. p.none i t u h;
        lowest = λ _ t u h. let q = o.all t h.0 (subst (λ (o : ℕ). bit o t ≡ 1) (sym e) h.1) in let z = m.first t u in omega arith;
      }

pub picked_none : {words : List ℕ} {s : Arrivals} {n : ℕ} → Passed words s n → Picked words n s (record { rank = 12; to = 0 })
picked_none p =
    record {
      small = omega arith;
      zero = λ _. refl;
      none = λ _ j t l h. p.none j t l h;
      below = λ z. absurd (z refl);
      hit = λ z. absurd (z refl);
      first = λ i t u v h. p.none i t v h;
      lowest = λ z. absurd (z refl);
    }
