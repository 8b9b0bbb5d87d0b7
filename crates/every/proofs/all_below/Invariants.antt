-- The invariant: the result is the test of the numbers passed.
use mathlib.Core.Path.{◌≡◌}
use mathlib.Core.Bool.{Bool}
use Prim.Native.Nat.{ℕ, ◌<◌}
use Rattle.layout.specs.Fit.{all_below}
use Rattle.every.proofs.all_below.Given as goal

abbrev pub invariant-loop-i : goal.invariant-loop-i
invariant-loop-i g l = (p : ℕ → Bool) → ((i : ℕ) → i < l.n → (b : Bool) → goal.F-post g l.test i b → b ≡ p i) → l.ok ≡ all_below l.i p
