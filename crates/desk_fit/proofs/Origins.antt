-- The origin bits, tested byte by byte. Assumes nothing.
use mathlib.Core.Path.{◌≡◌, refl, sym, subst}
use mathlib.Core.Bool.{Bool, true, false}
use mathlib.Core.List.{List}
use Prim.Native.Nat.{ℕ, ◌+◌, ◌*◌, ◌/◌, ◌%◌}
use native.Mathlib.Omega.{arith}
use lib.ListN.{get_or}
use borrow.Author.Tests.{eqb-true, eq-eqb}
use Rattle.layout.specs.Layout.{origins_at, place_count, origin_bytes, origin_bit}
use Rattle.layout.specs.Fit.{all_below, origin_fits}
use Rattle.layout.proofs.Held.{zero_bit}
use Rattle.desk_fit.specs.Empty.{no_try_in, byte_fits}
use Rattle.layout.proofs.AllBelow.{all_at, all_of}

module _ (desk : List ℕ) where
  origin_none : (i : ℕ) → origin_bit desk i ≡ 0 → true ≡ origin_fits desk i
  unfolding origin_fits
  origin_none i e = sym (rw (eq-eqb (origin_bit desk i) 0 e) refl)

  -- The bits of a byte that is 0.
  zero_fits : (i : ℕ) → get_or desk (origins_at + i / 8) 0 ≡ 0 → origin_fits desk i ≡ true
  zero_fits i e = sym (origin_none i (zero_bit desk i e))

  pub byte_none : (b : ℕ) → get_or desk (origins_at + b) 0 ≡ 0 → true ≡ byte_fits desk b
  unfolding byte_fits
  byte_none b e =
      sym (all_of 8 (λ j. origin_fits desk (8 * b + j))
      (λ j l. let q : (8 * b + j) / 8 ≡ b = omega arith in zero_fits (8 * b + j) (rw q e)))

  pub none_at_all : all_below origin_bytes (no_try_in desk) ≡ true → true ≡ all_below place_count (origin_fits desk)
  none_at_all h =
      sym (all_of place_count (origin_fits desk) (λ i l. zero_fits i (eqb-true _ _ (all_at origin_bytes (no_try_in desk) h (i / 8) (omega arith)))))

  same_truth : (a b : Bool) → (a ≡ true → b ≡ true) → (b ≡ true → a ≡ true) → a ≡ b
  same_truth true b f g = sym (f refl)
  same_truth false true f g = g refl
  same_truth false false f g = refl

  pub by_bytes : all_below origin_bytes (byte_fits desk) ≡ all_below place_count (origin_fits desk)
  unfolding byte_fits
  by_bytes =
      same_truth _ _
      (λ h. all_of place_count (origin_fits desk)
      (λ i l.
      let e : 8 * (i / 8) + i % 8 ≡ i = omega arith in
      subst (λ (k : ℕ). origin_fits desk k ≡ true) e
      (all_at 8 (λ j. origin_fits desk (8 * (i / 8) + j)) (all_at origin_bytes (byte_fits desk) h (i / 8) (omega arith)) (i % 8) (omega arith))))
      (λ h. all_of origin_bytes (byte_fits desk)
      (λ b l. all_of 8 (λ j. origin_fits desk (8 * b + j)) (λ j m. all_at place_count (origin_fits desk) h (8 * b + j) (omega arith))))
