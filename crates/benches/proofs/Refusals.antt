-- What a refusal of the joiner, and one that does not come, say. Assumes nothing.
use mathlib.Core.Path.{◌≡◌, refl}
use mathlib.Core.Bool.{Bool, true, false, cond, not, ◌||◌}
use mathlib.Core.List.{List}
use Prim.Native.Nat.{ℕ, ◌<◌}
use native.Mathlib.Omega.{arith}
use lib.Dec.{eqb}
use borrow.Author.Tests.{eqb-true}
use Rattle.rules.specs.Verdict.{unfit}
use Rattle.rules.specs.Join.{other_classes, bench_closed}
use Rattle.rules.proofs.Booleans.{and_cases}
use Rattle.layout.specs.Layout.{classes_of, declared_of}
use Rattle.benches.specs.Benches.{Bench, is_closed, same_classes, join_unfit, join_refusal}

module _ (one two : Bench) (desk sheet seen slip : ℕ) where
  -- A refusal has a number of its own.
  pub refusal_high : (join_refusal one two desk sheet seen slip ≡ 0 → ⊥) → 10 < join_refusal one two desk sheet seen slip
  unfolding join_refusal
  refusal_high n =
      by (join_unfit one two desk sheet seen slip) (not (same_classes one.desk two.desk)) (is_closed one || is_closed two) n
    where
      by : (a b c : Bool) → (cond a unfit (cond b other_classes (cond c bench_closed 0)) ≡ 0 → ⊥) → 10 < cond a unfit (cond b other_classes (cond c bench_closed 0))
      by true b c n = omega arith
      by false true c n = omega arith
      by false false true n = omega arith
      by false false false n = absurd (n refl)

-- The same classes: the number, and the word.
pub same_both : (desk₁ desk₂ : List ℕ) → same_classes desk₁ desk₂ ≡ true → (classes_of desk₁ ≡ classes_of desk₂) × (declared_of desk₁ ≡ declared_of desk₂)
unfolding same_classes
same_both desk₁ desk₂ h = let p = and_cases (eqb (classes_of desk₁) (classes_of desk₂)) _ h in (eqb-true _ _ p.0, eqb-true _ _ p.1)
