-- The place after another in a cycle. Assumes nothing.
use mathlib.Core.Path.{◌≡◌, refl, sym}
use mathlib.Core.Bool.{Bool, true, false, cond}
use Prim.Native.Nat.{ℕ, suc, ◌+◌, ◌<◌, ◌≤◌}
use native.Mathlib.Numerals.{add-one}
use native.Mathlib.Omega.{arith}
use lib.Dec.{ltb}
use borrow.Author.Tests.{lt-ltb, le-ltb, ltb-true}
use Rattle.layout.specs.Slip.{next_place}

pub next_more : (n i : ℕ) → i + 1 < n → next_place n i ≡ i + 1
next_more n i h = rw (lt-ltb (suc i) n (omega arith)) (sym (add-one i))

pub next_last : (n i : ℕ) → n ≤ i + 1 → next_place n i ≡ 0
next_last n i h = rw (le-ltb (suc i) n (omega arith)) refl

next_below_by : (n i : ℕ) (t : Bool) → ltb (suc i) n ≡ t → i < n → cond t (suc i) 0 < n
next_below_by n i true e h = ltb-true (suc i) n e
next_below_by n i false e h = omega arith

pub next_below : (n i : ℕ) → i < n → next_place n i < n
next_below n i h = next_below_by n i (ltb (suc i) n) refl h
