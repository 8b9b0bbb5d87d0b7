-- What one record does to the balances. Assumes nothing.
use mathlib.Core.Path.{◌≡◌, refl, sym, ap, ap₂, ◌∙◌}
use mathlib.Core.Bool.{Bool, true, false, cond, not, ◌&&◌}
use mathlib.Core.List.{List, [], ◌∷◌}
use Prim.Native.Nat.{ℕ, zero, suc, ◌+◌, ◌-◌, ◌<◌, ◌≤◌}
use native.Mathlib.Decide.{ℕ_discrete}
use native.Mathlib.Omega.{arith}
use lib.Dec.{ltb}
use lib.IntN.{ℤ, pos, ◌+ℤ◌, ◌-ℤ◌, +ℤ_idr}
use lib.ListN.{length, get_or, set, length-set}
use lib.Seq.{ext_get_or, get_or-set_same, get_or-set_other}
use lib.Signed.{mag}
use borrow.Author.Tests.{eq-eqb, ne_eqb}
use mir.Syntax.{w32}
use mir.Val.{to_z, of_z}
use mir.ValLaws.{to_z-of_z}
use Rattle.rules.specs.Limits.{max_classes, interrupt_kinds}
use Rattle.rules.specs.Record.{Bytes, interrupt, cross_event_by, event_by, kind_of, class_of, mode_of, is_malformed}
use Rattle.rules.specs.Balance.{acquires, releases, count_if}
use Rattle.balance.specs.Piece.{most_records, balance}
use Rattle.balance.specs.Code.{part_of, counted}
use Rattle.balance.proofs.Integers.{sum_small}
use Rattle.balance.proofs.Adding.{length_each, get_or_each}

-- Kinds from 2 on neither acquire nor release a lock, those of a crosslock too.
neither : (c k d m : ℕ) → (acquires c (event_by (suc (suc k)) d m) ≡ false) × (releases c (event_by (suc (suc k)) d m) ≡ false)
neither c k d m = by (ltb k interrupt_kinds) (k - interrupt_kinds)
  where
    by : (b : Bool) (j : ℕ)
        → (acquires c (cond b (interrupt k) (cross_event_by j d)) ≡ false) × (releases c (cond b (interrupt k) (cross_event_by j d)) ≡ false)
    by true j = (refl, refl)
    by false zero = (refl, refl)
    by false (suc zero) = (refl, refl)
    by false (suc (suc j)) = (refl, refl)

module _ (r : Bytes) where
  -- ---- What it is in the balance of a class.

  pub malformed_part : (c : ℕ) → is_malformed r ≡ true → balance c (r ∷ []) ≡ pos 0
  unfolding balance
  malformed_part c h = rw h refl

  pub other_part : (c : ℕ) → (c ≡ class_of r → ⊥) → balance c (r ∷ []) ≡ pos 0
  unfolding balance
  other_part c h = by (is_malformed r) (kind_of r)
    where
      by : (m : Bool) (k : ℕ)
          → pos (count_if (not m && acquires c (event_by k (class_of r) (mode_of r))) 0) -ℤ pos (count_if (not m && releases c (event_by k (class_of r) (mode_of r))) 0)
          ≡ pos 0
      by true k = refl
      by false zero = rw (ne_eqb c (class_of r) h) refl
      by false (suc zero) = rw (ne_eqb c (class_of r) h) refl
      by false (suc (suc k)) = let n = neither c k (class_of r) (mode_of r) in rw (n.0, n.1) refl

  pub kind_part : is_malformed r ≡ false → balance (class_of r) (r ∷ []) ≡ part_of (kind_of r)
  unfolding balance
  kind_part h = rw h (by (kind_of r))
    where
      by : (k : ℕ)
          → pos (count_if (acquires (class_of r) (event_by k (class_of r) (mode_of r))) 0) -ℤ pos (count_if (releases (class_of r) (event_by k (class_of r) (mode_of r))) 0)
          ≡ part_of k
      by zero = rw (eq-eqb (class_of r) (class_of r) refl) refl
      by (suc zero) = rw (eq-eqb (class_of r) (class_of r) refl) refl
      by (suc (suc k)) = let n = neither (class_of r) k (class_of r) (mode_of r) in rw (n.0, n.1) refl

  -- ---- What it leaves.

  module _ (before : List ℤ) (long : length before ≡ max_classes) where
    abbrev part_of_lem : ℕ → ℤ
    part_of_lem c = get_or before c (pos 0) +ℤ balance c (r ∷ [])

    as_long : length before ≡ length (counted before r)
    as_long = long ∙ sym (length_each part_of_lem)

    counted_at : (c : ℕ) → c < max_classes → get_or (counted before r) c (pos 0) ≡ get_or before c (pos 0) +ℤ balance c (r ∷ [])
    counted_at c l = get_or_each part_of_lem c l

    untouched : (c : ℕ) → c < max_classes → balance c (r ∷ []) ≡ pos 0 → get_or before c (pos 0) ≡ get_or (counted before r) c (pos 0)
    untouched c l h = sym (counted_at c l ∙ ap (λ (x : ℤ). get_or before c (pos 0) +ℤ x) h ∙ +ℤ_idr _)

    pub none_counted : ((c : ℕ) → c < max_classes → balance c (r ∷ []) ≡ pos 0) → before ≡ counted before r
    none_counted h =
        ext_get_or (pos 0) before (counted before r) as_long
        (λ c l. let k : c < max_classes = rw long at l in untouched c k (h c k))

    pub one_counted : (z : ℤ) → class_of r < max_classes → z ≡ get_or before (class_of r) (pos 0) +ℤ balance (class_of r) (r ∷ [])
        → set before (class_of r) z ≡ counted before r
    one_counted z k e =
        ext_get_or (pos 0) (set before (class_of r) z) (counted before r) (length-set before (class_of r) z ∙ as_long)
        (λ c l. let l : c < max_classes = rw (length-set, long) at l in elim (ℕ_discrete c (class_of r)) [
          | yes q ↦ rw q (get_or-set_same before (class_of r) z (pos 0) (rw long k) ∙ e ∙ sym (counted_at (class_of r) k))
          | no q ↦ get_or-set_other before (class_of r) c z (pos 0) q ∙ untouched c l (other_part c q)
        ])

part_small : (k : ℕ) {p : ℤ} → p ≡ part_of k → mag p ≤ 1
part_small zero e = rw e (omega arith)
part_small (suc zero) e = rw e (omega arith)
part_small (suc (suc k)) e = rw e (omega arith)

-- ---- What the machine reads back from the bits: a small number itself.

abbrev pub bits : ℤ → ℤ
bits z = to_z w32 (of_z w32 z)

pub reads_back : (z : ℤ) → mag z ≤ most_records + 2 → bits z ≡ z
reads_back z h = to_z-of_z w32 z (record { sfits = omega arith })

pub added : (z p a : ℤ) (k : ℕ) {q : ℤ} → mag z ≤ most_records → p ≡ part_of k → a ≡ bits z +ℤ bits p → q ≡ part_of k → bits a ≡ z +ℤ q
added z p a k h e f g =
    let small = part_small k e in
    let s : a ≡ z +ℤ p = f ∙ ap₂ (λ (x y : ℤ). x +ℤ y) (reads_back z (omega arith)) (reads_back p (omega arith)) in
    rw s (reads_back (z +ℤ p) (omega (arith, sum_small z p)) ∙ ap (λ (x : ℤ). z +ℤ x) (e ∙ sym g))
