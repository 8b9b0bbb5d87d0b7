-- Laws of a test over all numbers below a bound. Assumes nothing.
use mathlib.Core.Path.{◌≡◌, refl, sym}
use mathlib.Core.Bool.{Bool, true, false, ◌&&◌, and-true, and-false}
use mathlib.Core.Logic.{⊎_elim}
use Prim.Native.Nat.{ℕ, zero, suc, ◌+◌, ◌<◌}
use native.Mathlib.Nat.{not-suc-le-zero, le_of_suc-le-suc, eq-or-lt_of_le}
use native.Mathlib.Numerals.{add-one}
use native.Mathlib.Omega.{arith}
use Rattle.rules.proofs.Booleans.{and_cases, and_both}
use Rattle.layout.specs.Fit.{all_below}

pub all_none : (p : ℕ → Bool) → all_below 0 p ≡ true
unfolding all_below
all_none p = refl

pub all_step : (n : ℕ) (p : ℕ → Bool) → all_below (n + 1) p ≡ (all_below n p && p n)
unfolding all_below
all_step n p = rw add-one

-- One turn of a loop: the result so far stays where the test holds of n, and is false where it fails.
pub all_kept : (first : Bool) (n : ℕ) (p : ℕ → Bool) → p n ≡ true → (first && all_below n p) ≡ (first && all_below (n + 1) p)
all_kept first n p h = rw (all_step n p, h, and-true (all_below n p))

pub all_lost : (first : Bool) (n : ℕ) (p : ℕ → Bool) → p n ≡ false → false ≡ (first && all_below (n + 1) p)
all_lost first n p h = rw (all_step n p, h, and-false (all_below n p)) (sym (and-false first))

pub all_at : (n : ℕ) (p : ℕ → Bool) → all_below n p ≡ true → (k : ℕ) → k < n → p k ≡ true
unfolding all_below
all_at zero p e k h = absurd (not-suc-le-zero h)
all_at (suc n) p e k h =
    ⊎_elim (λ (q : k ≡ n). rw q (and_cases (all_below n p) (p n) e).1)
    (λ (l : k < n). all_at n p (and_cases (all_below n p) (p n) e).0 k l)
    (eq-or-lt_of_le (le_of_suc-le-suc h))

pub all_of : (n : ℕ) (p : ℕ → Bool) → ((k : ℕ) → k < n → p k ≡ true) → all_below n p ≡ true
unfolding all_below
all_of zero p h = refl
all_of (suc n) p h = and_both (all_of n p (λ k l. h k (omega arith))) (h n (omega arith))

pub all_ext : (n : ℕ) (p q : ℕ → Bool) → ((k : ℕ) → k < n → p k ≡ q k) → all_below n p ≡ all_below n q
unfolding all_below
all_ext zero p q h = refl
all_ext (suc n) p q h = rw (all_ext n p q (λ k l. h k (omega arith)), h n (omega arith))
