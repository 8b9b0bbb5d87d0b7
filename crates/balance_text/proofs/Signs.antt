-- The sign of a number in its bits, and its text. Assumes nothing.
use mathlib.Core.Path.{◌≡◌, refl, sym, ap, ap₂, ◌∙◌}
use mathlib.Core.Bool.{Bool, true, false, true≢false}
use mathlib.Core.List.{List, [], ◌∷◌, ◌++◌}
use Prim.Native.Nat.{ℕ}
use native.Mathlib.Omega.{arith}
use lib.IntN.{ℤ, pos, negsuc, nat_abs}
use lib.Signed.{lt_z}
use borrow.Author.Tests.{ltb-true}
use mir.Syntax.{w32}
use mir.Val.{SFits}
use mir.ValLaws.{to_z-of_z}
use Rattle.balance.proofs.Counting.{bits}
use Rattle.log_text.specs.Text.{digits, Appended}
use Rattle.log_text.proofs.Writing.{appended_both, as_text}
use Rattle.balance_text.specs.Text.{sign, signed_text}

plain : (z : ℤ) (t : Bool) → SFits w32 z → lt_z (bits z) (pos 0) ≡ t → lt_z z (pos 0) ≡ t
plain z t f h = ap (λ (x : ℤ). lt_z x (pos 0)) (sym (to_z-of_z w32 z f)) ∙ h

below : (z : ℤ) → SFits w32 z → lt_z (bits z) (pos 0) ≡ true → sign z ≡ 45 ∷ []
below (pos n) f h = absurd (omega (arith, ltb-true n 0 (plain (pos n) true f h)))
below (negsuc n) f h = refl

no_sign : (z : ℤ) → SFits w32 z → lt_z (bits z) (pos 0) ≡ false → sign z ≡ []
no_sign (pos n) f h = refl
no_sign (negsuc n) f h = absurd (true≢false (plain (negsuc n) false f h))

-- Its text: a minus and the digits, or the digits alone.
pub put_below : {b b₁ b₂ : List ℕ} {at e₁ e₂ n : ℕ} (z : ℤ) → SFits w32 z → n ≡ nat_abs (bits z) → lt_z (bits z) (pos 0) ≡ true
    → Appended b at (45 ∷ []) b₁ e₁ → Appended b₁ e₁ (digits n) b₂ e₂ → Appended b at (signed_text z) b₂ e₂
put_below {b} {b₂ = b₂} {at = at} {e₂ = e₂} {n = n} z f q h p r =
    let whole : Appended b at ((45 ∷ []) ++ digits n) b₂ e₂ = appended_both p r in
    as_text (ap₂ (λ (x y : List ℕ). x ++ y) (below z f h) (ap digits (sym (q ∙ ap nat_abs (to_z-of_z w32 z f))))) whole

pub put_not_below : {b b₂ : List ℕ} {at e₂ n : ℕ} (z : ℤ) → SFits w32 z → n ≡ nat_abs (bits z) → lt_z (bits z) (pos 0) ≡ false
    → Appended b at (digits n) b₂ e₂ → Appended b at (signed_text z) b₂ e₂
put_not_below z f q h r = as_text (ap₂ (λ (x y : List ℕ). x ++ y) (no_sign z f h) (ap digits (sym (q ∙ ap nat_abs (to_z-of_z w32 z f))))) r
