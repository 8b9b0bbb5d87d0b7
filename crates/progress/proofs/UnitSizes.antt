-- The size of a unit, by the bytes of it that are there: three tell which header it is. Assumes nothing.
use mathlib.Core.Path.{◌≡◌, refl}
use mathlib.Core.Bool.{Bool, true, false, cond}
use mathlib.Core.List.{List, ◌++◌}
use Prim.Native.Nat.{ℕ, ◌≤◌, ◌<◌}
use native.Mathlib.Decide.{dec_lt}
use native.Mathlib.Omega.{arith}
use lib.ListN.{length, get_or, get_or-append}
use borrow.Author.Tests.{eq-eqb, ne_eqb}
use Rattle.rules.specs.Log.{plain_size, declares, header_size, unit_size}
use Rattle.progress.specs.Feed.{longest}
use Rattle.progress.proofs.Bytes.{past_end}

-- ---- By the third byte.

module _ (bytes : List ℕ) where
  pub declaring : get_or bytes 2 0 ≡ 2 → header_size bytes ≡ longest
  declaring e = simp (eq-eqb (get_or bytes 2 0) 2 e)

  pub plain : (get_or bytes 2 0 ≡ 2 → ⊥) → header_size bytes ≡ plain_size
  plain n = simp (ne_eqb (get_or bytes 2 0) 2 n)

  -- It is not there yet.
  pub not_told : length bytes ≤ 2 → header_size bytes ≡ plain_size
  not_told h = let z = past_end bytes 2 h in plain (omega arith)

-- ---- How many.

of_two : (b : Bool) → (plain_size ≤ cond b longest plain_size) × (cond b longest plain_size ≤ longest)
of_two true = (omega arith, omega arith)
of_two false = (omega arith, omega arith)

pub unit_least : (opened : Bool) (bytes : List ℕ) → plain_size ≤ unit_size opened bytes
unit_least true bytes = omega arith
unit_least false bytes = (of_two (declares bytes)).0

pub unit_most : (opened : Bool) (bytes : List ℕ) → unit_size opened bytes ≤ longest
unit_most true bytes = omega arith
unit_most false bytes = (of_two (declares bytes)).1

-- ---- More bytes.

-- Once the third byte is there, more of them change nothing.
pub told : (opened : Bool) (xs ys : List ℕ) → 2 < length xs → unit_size opened (xs ++ ys) ≡ unit_size opened xs
told true xs ys h = refl
told false xs ys h = rw (get_or-append xs ys 0 2 h) refl

-- The size can only grow.
pub unit_grows : (opened : Bool) (xs ys : List ℕ) → unit_size opened xs ≤ unit_size opened (xs ++ ys)
unit_grows true xs ys = omega arith
unit_grows false xs ys = elim (dec_lt 2 (length xs)) [
  | yes h ↦ let e = told false xs ys h in omega arith
  | no h ↦ let e = not_told xs (omega arith) in let l = unit_least false (xs ++ ys) in omega arith
]
