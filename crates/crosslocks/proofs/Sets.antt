-- A class put into a set of classes, or taken out of it, as a word. Assumes nothing.
use mathlib.Core.Path.{◌≡◌, refl, sym, ap, ◌∙◌, subst}
use mathlib.Core.Bool.{Bool, true, false, not}
use mathlib.Core.Logic.{⊎_elim}
use Prim.Native.Nat.{ℕ, ◌^◌, ◌<◌}
use native.Mathlib.Omega.{arith}
use lib.Dec.{eqb}
use borrow.Author.Tests.{eqb-true, eqb-false, eq-eqb, ne_eqb, not-true}
use Rattle.words.specs.Bits.{bit, With, Without}
use Rattle.words.proofs.Words.{bit_cases, bit_zero}
use Rattle.words.proofs.Packs.{pack_ext}
use Rattle.rules.specs.Limits.{max_classes}
use Rattle.rules.specs.Crosslocks.{with, without}
use Rattle.rules.proofs.Booleans.{or_cases, or_left, or_right, and_cases, and_both}
use Rattle.layout.specs.Layout.{member_of}
use Rattle.layout.specs.Encoding.{word_of}
use Rattle.layout.proofs.Cross.{member_word, word_member}

same_by : (a b : Bool) → (a ≡ true → b ≡ true) → (b ≡ true → a ≡ true) → a ≡ b
same_by true b f g = sym (f refl)
same_by false true f g = g refl
same_by false false f g = refl

-- A word with the members of a set is the set's.
word_of_lem : (p : ℕ → Bool) (r : ℕ) → r < 2 ^ 64 → ((i : ℕ) → i < max_classes → member_of r i ≡ true → p i ≡ true)
    → ((i : ℕ) → i < max_classes → p i ≡ true → member_of r i ≡ true) → r ≡ word_of p
word_of_lem p r s f g = sym (word_member r s) ∙ pack_ext max_classes (member_of r) p (λ i l. same_by (member_of r i) (p i) (f i l) (g i l))

module _ (p : ℕ → Bool) (i : ℕ) (l : i < max_classes) where
  in_set : bit (word_of p) i ≡ 1 → p i ≡ true
  in_set h = sym (member_word p i l) ∙ eq-eqb (bit (word_of p) i) 1 h

  in_word : p i ≡ true → bit (word_of p) i ≡ 1
  in_word h = eqb-true (bit (word_of p) i) 1 (member_word p i l ∙ h)

pub with_word : (p : ℕ → Bool) (c r : ℕ) → r < 2 ^ 64 → With (word_of p) c r → r ≡ word_of (with c p)
with_word p c r s w =
    word_of_lem (with c p) r s
    (λ i l h.
    ⊎_elim (λ (b : bit (word_of p) i ≡ 1). or_right (eqb i c) (in_set p i l b)) (λ (e : i ≡ c). or_left (p i) (eq-eqb i c e))
    (w.only i (eqb-true (bit r i) 1 h)))
    (λ i l h.
    eq-eqb (bit r i) 1
    (⊎_elim (λ (e : eqb i c ≡ true). subst (λ (j : ℕ). bit r j ≡ 1) (sym (eqb-true i c e)) w.there)
    (λ (m : p i ≡ true). w.kept i (in_word p i l m)) (or_cases (eqb i c) (p i) h)))

pub without_word : (p : ℕ → Bool) (c v r : ℕ) → r < 2 ^ 64 → With 0 c v → Without (word_of p) v r → r ≡ word_of (without c p)
without_word p c v r s u w =
    word_of_lem (without c p) r s
    (λ i l h.
    let b = eqb-true (bit r i) 1 h in
    let n = ne_eqb i c (λ e. let o = w.out i b in let t : bit v i ≡ 1 = rw e u.there in omega arith) in
    and_both (ap not n) (in_set p i l (w.from i b)))
    (λ i l h.
    let m = and_cases (not (eqb i c)) (p i) h in
    eq-eqb (bit r i) 1
    (w.all i l (in_word p i l m.1)
    (⊎_elim
    (λ (b : bit v i ≡ 1).
    ⊎_elim (λ (z : bit 0 i ≡ 1). absurd (let o = bit_zero i in omega arith))
    (λ (e : i ≡ c). absurd (eqb-false i c (not-true (eqb i c) m.0) e)) (u.only i b))
    (λ (b : bit v i ≡ 0). b) (bit_cases v i))))
