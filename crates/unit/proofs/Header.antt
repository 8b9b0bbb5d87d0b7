-- A header, condition by condition. Assumes nothing.
use mathlib.Core.Path.{◌≡◌, refl, ◌∙◌}
use mathlib.Core.Bool.{true, false, and-false, and-true, or-true, false≢true}
use mathlib.Core.List.{List}
use Prim.Native.Nat.{ℕ, ◌≤◌, ◌<◌}
use native.Mathlib.Decide.{ℕ_discrete}
use native.Mathlib.Omega.{arith}
use lib.Dec.{eqb}
use lib.ListN.{length, get_or}
use borrow.Author.Tests.{eq-eqb, ne_eqb, le-leb, lt-leb}
use Rattle.rules.specs.Number.{low_first}
use Rattle.rules.specs.Log.{plain_size, word_size, header_size, is_header, header_classes, header_word}
use Rattle.progress.specs.Feed.{longest}
use Rattle.progress.proofs.UnitSizes.{unit_least, declaring}

module _ (b : List ℕ) where
  by_size : (length b ≡ header_size b → ⊥) → false ≡ is_header b
  unfolding is_header
  by_size n = simp (ne_eqb (length b) (header_size b) n)

  pub by_length : length b < plain_size → false ≡ is_header b
  by_length h = let l = unit_least false b in by_size (omega arith)

  pub by_mark_0 : (get_or b 0 0 ≡ 0x4C → ⊥) → false ≡ is_header b
  unfolding is_header
  by_mark_0 n = simp (ne_eqb (get_or b 0 0) 0x4C n, and-false)

  pub by_mark_1 : (get_or b 1 0 ≡ 0x48 → ⊥) → false ≡ is_header b
  unfolding is_header
  by_mark_1 n = simp (ne_eqb (get_or b 1 0) 0x48 n, and-false)

  pub by_none : get_or b 3 0 < 1 → false ≡ is_header b
  unfolding is_header
  by_none h = simp (lt-leb 1 (get_or b 3 0) h, and-false)

  pub by_classes : 64 < get_or b 3 0 → false ≡ is_header b
  unfolding is_header
  by_classes h = simp (lt-leb (get_or b 3 0) 64 h, and-false)

  pub by_version : (get_or b 2 0 ≡ 2 → ⊥) → (get_or b 2 0 ≡ 1 → ⊥) → false ≡ is_header b
  unfolding is_header
  by_version n m = simp (ne_eqb (get_or b 2 0) 2 n, ne_eqb (get_or b 2 0) 1 m, and-false)

  -- All others passed, the size decides.
  module _ (m0 : get_or b 0 0 ≡ 0x4C) (m1 : get_or b 1 0 ≡ 0x48) (s : 1 ≤ get_or b 3 0) (k : get_or b 3 0 ≤ 64) where
    pub by_word : get_or b 2 0 ≡ 2 → eqb (length b) longest ≡ is_header b
    unfolding is_header
    by_word v = simp (eq-eqb (get_or b 0 0) 0x4C m0, eq-eqb (get_or b 1 0) 0x48 m1, le-leb 1 (get_or b 3 0) s, le-leb (get_or b 3 0) 64 k, eq-eqb (get_or b 2 0) 2 v, or-true, and-true)

    pub by_plain : (get_or b 2 0 ≡ 2 → ⊥) → get_or b 2 0 ≡ 1 → eqb (length b) plain_size ≡ is_header b
    unfolding is_header
    by_plain n v = simp (eq-eqb (get_or b 0 0) 0x4C m0, eq-eqb (get_or b 1 0) 0x48 m1, le-leb 1 (get_or b 3 0) s, le-leb (get_or b 3 0) 64 k, ne_eqb (get_or b 2 0) 2 n, eq-eqb (get_or b 2 0) 1 v, and-true)

  -- A good header has its size.
  sized : is_header b ≡ true → length b ≡ header_size b
  sized e = elim (ℕ_discrete (length b) (header_size b)) [ yes s ↦ s | no n ↦ absurd (false≢true (by_size n ∙ e)) ]

  pub header_long : is_header b ≡ true → plain_size ≤ length b
  header_long e = let h = sized e in let l = unit_least false b in omega arith

  pub word_long : is_header b ≡ true → get_or b 2 0 ≡ 2 → longest ≤ length b
  word_long e v = let h = sized e in let l = declaring b v in omega arith

  -- ---- K and the word.

  pub no_classes : is_header b ≡ false → 0 ≡ header_classes b
  unfolding header_classes
  no_classes e = rw e refl

  pub has_classes : is_header b ≡ true → get_or b 3 0 ≡ header_classes b
  unfolding header_classes
  has_classes e = rw e refl

  pub no_header : is_header b ≡ false → 0 ≡ header_word b
  unfolding header_word
  no_header e = rw e refl

  pub no_word : (get_or b 2 0 ≡ 2 → ⊥) → 0 ≡ header_word b
  unfolding header_word
  no_word n = simp (ne_eqb (get_or b 2 0) 2 n, and-false)

  pub has_word : is_header b ≡ true → get_or b 2 0 ≡ 2 → low_first word_size b plain_size ≡ header_word b
  unfolding header_word
  has_word e v = rw (e, eq-eqb (get_or b 2 0) 2 v) refl
