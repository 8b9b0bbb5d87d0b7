-- The tests of the code against those of the fit test. Assumes nothing.
use mathlib.Core.Path.{◌≡◌, refl, sym, ◌∙◌}
use mathlib.Core.Bool.{Bool, true, false, not, ◌&&◌, ◌||◌, and-false}
use mathlib.Core.List.{List}
use mathlib.Core.Logic.{⊎_elim}
use Prim.Native.Nat.{ℕ, zero, suc, ◌+◌, ◌*◌, ◌/◌, ◌%◌, ◌^◌, ◌≤◌, ◌<◌}
use native.Mathlib.Nat.{div-eq_of_lt, lt-div-mul-add}
use native.Mathlib.Decide.{dec_lt}
use native.Mathlib.Omega.{arith}
use lib.Dec.{leb, ltb, eqb}
use lib.Pow.{pow_pos}
use lib.Count.{ones}
use borrow.Author.Tests.{lt-ltb, le-ltb, lt-leb, le-leb, eq-eqb, ne_eqb}
use Rattle.words.specs.Bits.{bit, Without}
use Rattle.words.proofs.Words.{bit_cases, bit_zero, some_bit}
use Rattle.rules.specs.Limits.{max_classes, max_in_progress, max_kept, held_modes}
use Rattle.rules.specs.Crosslocks.{size_of}
use Rattle.rules.proofs.Booleans.{or_right}
use Rattle.layout.specs.Layout.{frame_count, member_of, classes_of, declared_of, progress_of, kept_of}
use Rattle.layout.specs.Fit.{all_below, word_fits, cross_fits, entry_fits}
use Rattle.layout.proofs.AllBelow.{all_at, all_of}
use Rattle.layout.proofs.Cross.{size_ones}

-- A word has no bit from k on where the shift by k leaves nothing.
pub all_below_lem : (k word : ℕ) → word < 2 ^ 64 → 64 ≤ k → k ≤ 64 → true ≡ word_fits k word
unfolding word_fits
all_below_lem k word s l h = let e : k ≡ 64 = omega arith in rw e (sym (lt-ltb word (2 ^ 64) s))

pub shift_fits : (k word : ℕ) → eqb (word / 2 ^ k) 0 ≡ word_fits k word
unfolding word_fits
shift_fits k word =
    elim (dec_lt word (2 ^ k)) [
      | yes l ↦ rw (div-eq_of_lt l) (sym (lt-ltb word (2 ^ k) l))
      | no n ↦
          ne_eqb (word / 2 ^ k) 0 (λ e. let h : word < word / 2 ^ k * 2 ^ k + 2 ^ k = lt-div-mul-add (pow_pos k) in let g : word < 0 * 2 ^ k + 2 ^ k = rw e at h in omega arith)
          ∙ sym (le-ltb word (2 ^ k) (omega arith))
    ]

some_fails : (n : ℕ) (p : ℕ → Bool) (k : ℕ) → k < n → p k ≡ false → all_below n p ≡ false
some_fails n p k l h = go (all_below n p) refl
  where
    go : (b : Bool) → all_below n p ≡ b → b ≡ false
    go true e = sym (all_at n p e k l) ∙ h
    go false e = refl

-- What is in progress less what is declared leaves nothing exactly where all in progress is declared.
abbrev DeclaredAll : (progress declared : ℕ) → Bool
DeclaredAll p d = all_below max_classes (λ c. not (member_of p c) || member_of d c)

one_loose : (p d r : ℕ) → r < 2 ^ 64 → Without p d r → (r ≡ 0 → ⊥) → DeclaredAll p d ≡ false
one_loose p d r t w n =
    let b = some_bit 64 r (omega arith) t in
    let inside = w.from b.0 b.2 in
    let out = w.out b.0 b.2 in
    some_fails max_classes (λ c. not (member_of p c) || member_of d c) b.0 b.1 (rw (inside, out))

none_loose : (p d r : ℕ) → Without p d r → r ≡ 0 → DeclaredAll p d ≡ true
none_loose p d r w e =
    all_of max_classes (λ c. not (member_of p c) || member_of d c)
    (λ c l.
    ⊎_elim
    (λ (h : bit d c ≡ 1). or_right (not (member_of p c)) (eq-eqb (bit d c) 1 h))
    (λ (h : bit d c ≡ 0).
    ⊎_elim (λ (i : bit p c ≡ 1). absurd (let a = w.all c l i h in let z : bit r c ≡ 0 = rw e (bit_zero c) in omega arith))
    (λ (i : bit p c ≡ 0). rw i refl) (bit_cases p c))
    (bit_cases d c))

-- The test of the desk's crosslocks, by the words that the code has read.
module _ (desk : List ℕ) (d p : ℕ) (ed : d ≡ declared_of desk) (ep : p ≡ progress_of desk) where
  abbrev by_words : Bool
  by_words = word_fits (classes_of desk) d && (DeclaredAll p d && (leb (size_of (member_of p)) max_in_progress && leb (kept_of desk) max_kept))

  by_words_lem : by_words ≡ cross_fits desk
  unfolding cross_fits
  by_words_lem = rw (ed, ep) refl

  pub by_declared : word_fits (classes_of desk) d ≡ false → false ≡ cross_fits desk
  by_declared e = rw e at by_words_lem

  pub by_progress : (r : ℕ) → r < 2 ^ 64 → Without p d r → (r ≡ 0 → ⊥) → false ≡ cross_fits desk
  by_progress r t w n =
      rw (one_loose p d r t w n, and-false (word_fits (classes_of desk) d)) at by_words_lem

  pub by_many : p < 2 ^ 64 → max_in_progress < ones p → false ≡ cross_fits desk
  by_many s l =
      let e = size_ones p s in
      rw (lt-leb (size_of (member_of p)) max_in_progress (omega arith), and-false (DeclaredAll p d), and-false (word_fits (classes_of desk) d)) at by_words_lem

  pub by_kept : (r : ℕ) → word_fits (classes_of desk) d ≡ true → p < 2 ^ 64 → Without p d r → r ≡ 0 → ones p ≤ max_in_progress
      → leb (kept_of desk) max_kept ≡ cross_fits desk
  by_kept r f s w e l =
      let h = size_ones p s in
      rw (f, none_loose p d r w e, le-leb (size_of (member_of p)) max_in_progress (omega arith)) at by_words_lem

-- An entry that is struck out, one of no frame, and one of a frame.
pub struck_fits : (K place held : ℕ) → place ≡ 0 → eqb held 0 ≡ entry_fits K place held
unfolding entry_fits
struck_fits K zero held e = refl
struck_fits K (suc n) held e = absurd (omega arith)

pub frame_over : (K place held : ℕ) → frame_count < place → false ≡ entry_fits K place held
unfolding entry_fits
frame_over K zero held l = absurd (omega arith)
frame_over K (suc n) held l = simp (le-ltb n frame_count (omega arith))

frame_fits_lem : (K place held : ℕ) → (place ≡ 0 → ⊥) → place ≤ frame_count → (ltb (held % 64) K && ltb (held / 64) held_modes) ≡ entry_fits K place held
unfolding entry_fits
frame_fits_lem K zero held n l = absurd (n refl)
frame_fits_lem K (suc n) held m l = simp (lt-ltb n frame_count (omega arith))

pub class_fits : (K place held : ℕ) → (place ≡ 0 → ⊥) → place ≤ frame_count → held % 64 < K → ltb (held / 64) held_modes ≡ entry_fits K place held
class_fits K place held n l h = rw (lt-ltb (held % 64) K h) at (frame_fits_lem K place held n l)

pub class_over : (K place held : ℕ) → (place ≡ 0 → ⊥) → place ≤ frame_count → K ≤ held % 64 → false ≡ entry_fits K place held
class_over K place held n l h = rw (le-ltb (held % 64) K h) at (frame_fits_lem K place held n l)
