-- A search below a bound, and the pigeonhole principle. Assumes nothing.
use mathlib.Core.Path.{◌≡◌, sym, ap, ◌∙◌}
use Prim.Native.Nat.{ℕ, zero, suc, ◌+◌, ◌-◌, ◌<◌, ◌≤◌, min}
use native.Mathlib.Omega.{arith}
use native.Mathlib.Decide.{ℕ_discrete}

-- Whether P holds of some number below n.
pub some_below : {P : ℕ → Type 0} → ((i : ℕ) → Dec (P i)) → (n : ℕ) → Dec ((i : ℕ) × (i < n) × P i)
some_below test zero = no (λ x. let l = x.1 in omega arith)
some_below test (suc n) = elim (test n) [
  | yes p ↦ yes (n, omega arith, p)
  | no p ↦ elim (some_below test n) [
    | yes x ↦ yes (x.0, omega (arith, x.1), x.2)
    | no x ↦ no (λ y. elim (ℕ_discrete y.0 n) [ yes e ↦ p (rw e at y.2) | no e ↦ x (y.0, omega (arith, y.1), y.2) ])
  ]
]

-- The numbers other than v, closed up, and back.
lower : ℕ → ℕ → ℕ
lower v x = x - min 1 (x - v)

higher : ℕ → ℕ → ℕ
higher v y = y + (1 - (v - y))

higher_lower : (v x : ℕ) → ¬ (x ≡ v) → higher v (lower v x) ≡ x
unfolding lower higher
higher_lower v x n = omega arith

lower_less : (v x K : ℕ) → ¬ (x ≡ v) → x < suc K → v < suc K → lower v x < K
unfolding lower
lower_less v x K n l m = omega arith

lower_same : (v x y : ℕ) → ¬ (x ≡ v) → ¬ (y ≡ v) → lower v x ≡ lower v y → x ≡ y
lower_same v x y n m e = sym (higher_lower v x n) ∙ (ap (higher v) e ∙ higher_lower v y m)

-- Numbers below K of which no two are equal are at most K.
pub pigeons : (K n : ℕ) (f : ℕ → ℕ) → ((i : ℕ) → i < n → f i < K) → ((i j : ℕ) → i < j → j < n → f i ≡ f j → ⊥) → n ≤ K
pigeons K zero f below once = omega arith
pigeons zero (suc n) f below once = absurd (let l = below n (omega arith) in omega arith)
pigeons (suc K) (suc n) f below once =
    let other : (i : ℕ) → i < n → ¬ (f i ≡ f n) = λ i l. once i n l (omega arith) in
    let h = pigeons K n (λ i. lower (f n) (f i)) (λ i l. lower_less (f n) (f i) K (other i l) (below i (omega arith)) (below n (omega arith)))
    (λ i j l m e. once i j l (omega arith) (lower_same (f n) (f i) (f j) (other i (omega arith)) (other j m) e)) in
    omega arith
