-- The test of a mark byte, by whether its class is below K. Assumes nothing.
use mathlib.Core.Path.{◌≡◌, refl, sym, ap, ◌∙◌}
use mathlib.Core.Bool.{Bool, false, ◌&&◌, and-true, and_assoc}
use mathlib.Core.List.{List}
use Prim.Native.Nat.{ℕ, zero, suc, ◌+◌, ◌-◌, ◌≤◌}
use native.Mathlib.Decide.{ℕ_discrete}
use native.Mathlib.Omega.{arith}
use lib.Dec.{eqb}
use Rattle.std.proofs.Common.{add-zero, add-suc}
use borrow.Author.Tests.{le-ltb, ne_eqb}
use Rattle.layout.specs.Layout.{mark_of}
use Rattle.rules.specs.Limits.{max_classes}
use Rattle.layout.specs.Fit.{all_below, mark_fits}

module _ (K : ℕ) (desk : List ℕ) (c : ℕ) where
  pub mark_unused : K ≤ c → eqb (mark_of desk c) 0 ≡ mark_fits K desk c
  unfolding mark_fits
  mark_unused l =
      elim (ℕ_discrete (mark_of desk c) 0) [
        | yes e ↦ rw (le-ltb c K l, e) refl
        | no n ↦ rw (le-ltb c K l, ne_eqb _ _ n) refl
      ]

-- A test of all numbers below a sum: below the first part, and of those that follow.
all_split : (n m : ℕ) (p : ℕ → Bool) → (all_below n p && all_below m (λ i. p (n + i))) ≡ all_below (n + m) p
unfolding all_below
all_split n zero p = rw (and-true (all_below n p), add-zero n) refl
all_split n (suc m) p = rw (add-suc n m, ← all_split n m p) (sym (and_assoc (all_below n p) (all_below m (λ i. p (n + i))) (p (n + m))))

pub marks_split : (K : ℕ) (desk : List ℕ) → K ≤ max_classes
    → (all_below K (mark_fits K desk) && all_below (max_classes - K) (λ i. mark_fits K desk (K + i))) ≡ all_below max_classes (mark_fits K desk)
marks_split K desk l =
    let e : K + (max_classes - K) ≡ max_classes = omega arith in
    all_split K (max_classes - K) (mark_fits K desk) ∙ ap (λ (n : ℕ). all_below n (mark_fits K desk)) e

pub marks_lost : (K : ℕ) (desk : List ℕ) → K ≤ max_classes → all_below K (mark_fits K desk) ≡ false → false ≡ all_below max_classes (mark_fits K desk)
marks_lost K desk l h = rw h at (marks_split K desk l)
