-- Cells of the sheet, and bytes that stay. Assumes nothing.
use mathlib.Core.Path.{◌≡◌, refl, ◌∙◌}
use mathlib.Core.List.{List}
use Prim.Native.Nat.{ℕ, ◌+◌, ◌*◌, ◌<◌, ◌≤◌}
use native.Mathlib.Nat.{mul-le-mul_right}
use native.Mathlib.Decide.{dec_lt}
use native.Mathlib.Omega.{arith}
use Rattle.layout.specs.Layout.{KeepsPast}

pub cell_inside : (K from to : ℕ) → from < K → to < K → from * K + to < K * K
cell_inside K from to l h = let m = mul-le-mul_right K l in omega arith

pub cell_apart : (K f t f' t' : ℕ) → t < K → t' < K → f * K + t ≡ f' * K + t' → f ≡ f'
cell_apart K f t f' t' lt lt' e =
    elim (dec_lt f f') [
      | yes l ↦ absurd (let h = mul-le-mul_right K l in omega arith)
      | no n ↦ elim (dec_lt f' f) [ yes l ↦ absurd (let h = mul-le-mul_right K l in omega arith) | no m ↦ omega arith ]
    ]

pub keeps_self : (n : ℕ) (l : List ℕ) → KeepsPast n l l
keeps_self n l = record { long = refl; past = λ j h. refl }

pub keeps_both : {n : ℕ} {a b c : List ℕ} → KeepsPast n a b → KeepsPast n b c → KeepsPast n a c
keeps_both p q = record { long = q.long ∙ p.long; past = λ j h. q.past j h ∙ p.past j h }

pub keeps_more : {n m : ℕ} {a b : List ℕ} → n ≤ m → KeepsPast n a b → KeepsPast m a b
keeps_more l k = record { long = k.long; past = λ j h. k.past j (omega arith) }
