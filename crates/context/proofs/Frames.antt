-- The frame of a state, by comparisons. Assumes nothing.
use mathlib.Core.Path.{◌≡◌, refl}
use mathlib.Core.Bool.{Bool, true, false, cond}
use Prim.Native.Nat.{ℕ, suc, zero, ◌<◌}
use native.Mathlib.Omega.{arith}
use lib.Dec.{ltb}
use Rattle.rules.specs.Context.{frame_of}
use Rattle.layout.specs.Layout.{frames_per_core}

pub frame_is : (s : ℕ) → s < 9 → frame_of s ≡ cond (ltb s 4) 0 (cond (ltb s 6) 1 2)
frame_is zero l = refl
frame_is (suc zero) l = refl
frame_is (suc (suc zero)) l = refl
frame_is (suc (suc (suc zero))) l = refl
frame_is (suc (suc (suc (suc zero)))) l = refl
frame_is (suc (suc (suc (suc (suc zero))))) l = refl
frame_is (suc (suc (suc (suc (suc (suc zero)))))) l = refl
frame_is (suc (suc (suc (suc (suc (suc (suc zero))))))) l = refl
frame_is (suc (suc (suc (suc (suc (suc (suc (suc zero)))))))) l = refl
frame_is (suc (suc (suc (suc (suc (suc (suc (suc (suc s))))))))) l = absurd (omega arith)

by_test : (a b : Bool) → cond a 0 (cond b 1 2) < frames_per_core
by_test true b = omega arith
by_test false true = omega arith
by_test false false = omega arith

pub frame_less : (s : ℕ) → s < 9 → frame_of s < frames_per_core
frame_less s l = rw (frame_is s l) (by_test (ltb s 4) (ltb s 6))
