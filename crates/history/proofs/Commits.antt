-- The entries that a commit looks at, one by one. Assumes nothing.
use mathlib.Core.Path.{◌≡◌, refl, sym, ap, ◌∙◌}
use mathlib.Core.Bool.{Bool, true, false, true≢false, ◌&&◌, ◌||◌, or-false, or_assoc}
use mathlib.Core.List.{List, [], ◌∷◌}
use mathlib.Core.Option.{Option, none, some}
use Prim.Native.Nat.{ℕ, zero, suc, ◌/◌, ◌%◌, ◌<◌, ◌≤◌}
use native.Mathlib.Nat.{le_of_suc-le-suc, not-suc-le-zero}
use native.Mathlib.Omega.{arith}
use lib.Dec.{eqb}
use lib.ListN.{length, get_or, take, drop}
use borrow.Author.Tests.{eq-eqb, ne_eqb}
use Rattle.rules.specs.Limits.{max_classes}
use Rattle.rules.specs.Context.{Frame}
use Rattle.rules.specs.Crosslocks.{Kept, History, Crosslocks, some_kept}
use Rattle.validity.specs.Valid.{ValidEntry, counts, ValidCross}
use Rattle.layout.specs.Layout.{frames_per_core, frame_number, place_of, lock_of}
use Rattle.layout.specs.Encoding.{place_byte, lock_byte, CrossBytes}
use Rattle.history.proofs.Entries.{same_frame}

abbrev pub kept_test : (Kept → Bool) → Option Kept → Bool
kept_test test none = false
kept_test test (some e) = test e

-- One entry more.
one_more : (test : Kept → Bool) (es : History) (p : ℕ) → p < length es
    → some_kept test (take (suc p) es) ≡ (some_kept test (take p es) || kept_test test (get_or es p none))
one_more test [] p l = absurd (not-suc-le-zero l)
one_more test (none ∷ es) zero l = refl
one_more test (some e ∷ es) zero l = or-false (test e)
one_more test (none ∷ es) (suc p) l = one_more test es p (le_of_suc-le-suc l)
one_more test (some e ∷ es) (suc p) l =
    ap (λ (b : Bool). test e || b) (one_more test es p (le_of_suc-le-suc l))
    ∙ sym (or_assoc (test e) (some_kept test (take p es)) (kept_test test (get_or es p none)))

pub since_more : (test : Kept → Bool) (es : History) (s p : ℕ) → s ≤ p → p < length es
    → some_kept test (drop s (take (suc p) es)) ≡ (some_kept test (drop s (take p es)) || kept_test test (get_or es p none))
since_more test es zero p l h = one_more test es p h
since_more test [] (suc s) p l h = absurd (not-suc-le-zero h)
since_more test (e ∷ es) (suc s) zero l h = absurd (not-suc-le-zero l)
since_more test (e ∷ es) (suc s) (suc p) l h = since_more test es s p (le_of_suc-le-suc l) (le_of_suc-le-suc h)

-- None at first, and all at last.
pub since_none : (es : History) (s : ℕ) → drop s (take s es) ≡ []
since_none es zero = refl
since_none [] (suc s) = refl
since_none (e ∷ es) (suc s) = since_none es s

pub since_all : (es : History) (p : ℕ) → length es ≤ p → take p es ≡ es
since_all [] zero l = refl
since_all [] (suc p) l = refl
since_all (e ∷ es) zero l = absurd (not-suc-le-zero l)
since_all (e ∷ es) (suc p) l = ap {B = History} (λ (r : History). e ∷ r) (since_all es p (le_of_suc-le-suc l))

-- A test of the entries of a core's frame, as a commit has it.
abbrev pub of_frame : (core : ℕ) → Frame → (Kept → Bool) → Kept → Bool
of_frame core frame rest e = eqb core e.core && (eqb frame e.frame && rest e)

-- An entry of the frame.
pub record Hit (K : ℕ) (history : List ℕ) (p core : ℕ) (frame : Frame) (entry : Option Kept) : Type 0 where
  pub kept : Kept
  pub class : lock_of history p % 64 ≡ kept.class
  pub mode : lock_of history p / 64 ≡ kept.mode
  pub inside : kept.class < K
  pub passes : (rest : Kept → Bool) → kept_test (of_frame core frame rest) entry ≡ rest kept

module _ (K : ℕ) (history : List ℕ) (p core : ℕ) (frame : Frame) (inside : frame < frames_per_core) where
  hit_by : K ≤ max_classes → (e : Option Kept) → ValidEntry K e → place_byte e ≡ suc (frame_number core frame) → lock_of history p ≡ lock_byte e
      → Hit K history p core frame e
  hit_by most none v q h = absurd (omega arith)
  hit_by most (some e) (counts c f l m) q h =
      let ec : core ≡ e.core = omega arith in
      let ef : frame ≡ e.frame = omega arith in
      record {
        kept = e;
        class = rw h (omega arith);
        mode = rw h (omega arith);
        inside = l;
        passes = λ rest. rw (eq-eqb core e.core ec, eq-eqb frame e.frame ef) refl;
      }

  miss_by : (e : Option Kept) → ValidEntry K e → (place_byte e ≡ suc (frame_number core frame) → ⊥) → (rest : Kept → Bool)
      → kept_test (of_frame core frame rest) e ≡ false
  miss_by none v n rest = refl
  miss_by (some e) (counts c f l m) n rest =
      by (eqb core e.core) (eqb frame e.frame) (rest e)
      (sym (same_frame core frame e.core e.frame inside f) ∙ ne_eqb (place_byte (some e)) (suc (frame_number core frame)) n)
    where
      by : (a b r : Bool) → (a && b) ≡ false → (a && (b && r)) ≡ false
      by true true r q = absurd (true≢false q)
      by true false r q = refl
      by false b r q = refl

-- Entry p of crosslocks that the bytes encode.
module _ {K : ℕ} {desk history : List ℕ} {x : Crosslocks} (v : ValidCross K x) (b : CrossBytes x desk history) (p n core : ℕ) (frame : Frame)
    (is : n ≡ frame_number core frame) (inside : frame < frames_per_core) (l : p < length x.history) where
  pub hit_at : K ≤ max_classes → place_of history p ≡ suc n → Hit K history p core frame (get_or x.history p none)
  hit_at most h =
      hit_by K history p core frame inside most (get_or x.history p none) (v.entries p l) (sym (b.entries.places p l) ∙ h ∙ ap suc is) (b.entries.locks p l)

  pub miss_at : (place_of history p ≡ suc n → ⊥) → (rest : Kept → Bool) → kept_test (of_frame core frame rest) (get_or x.history p none) ≡ false
  miss_at m rest =
      miss_by K history p core frame inside (get_or x.history p none) (v.entries p l) (λ q. m (b.entries.places p l ∙ q ∙ ap suc (sym is))) rest
