-- Entries struck out one by one. Assumes nothing.
use mathlib.Core.Path.{◌≡◌, refl, sym, ap, ap₂, ◌∙◌, subst}
use mathlib.Core.Bool.{Bool, true, false, cond, ◌&&◌}
use mathlib.Core.List.{List}
use mathlib.Core.Option.{Option, none, some}
use mathlib.Core.Logic.{inl, inr, ⊎_elim}
use Prim.Native.Nat.{ℕ, suc, ◌+◌, ◌*◌, ◌<◌}
use native.Mathlib.Nat.{not-suc-le-zero}
use native.Mathlib.Decide.{dec_lt}
use native.Mathlib.Omega.{arith}
use lib.Dec.{eqb}
use lib.ListN.{length, get_or, set, length-set, length-map, get_or-map}
use lib.Seq.{get_or-set_same, get_or-set_other}
use borrow.Author.Tests.{eq-eqb, ne_eqb}
use Rattle.rules.specs.Context.{Frame}
use Rattle.rules.specs.Crosslocks.{Kept, strike}
use Rattle.validity.specs.Valid.{ValidEntry, counts}
use Rattle.layout.specs.Layout.{frames_per_core, frame_number, kept_size, place_of, lock_of, KeepsPast}
use Rattle.layout.specs.Encoding.{place_byte, lock_byte}
use Rattle.layout.proofs.Buffers.{keeps_self}
use Rattle.history.specs.Histories.{EntryStruck, Struck}
use Rattle.history.proofs.Entries.{same_frame}

-- What a byte of an entry becomes, by the entry's place byte.
abbrev cleared : (n place byte : ℕ) → ℕ
cleared n place byte = cond (eqb place (suc n)) 0 byte

-- One entry, as the code does it.
module _ (history : List ℕ) (i n : ℕ) where
  pub entry_left : (place_of history i ≡ suc n → ⊥) → EntryStruck history i n history
  entry_left m =
      record {
        long = refl;
        place = rw (ne_eqb (place_of history i) (suc n) m) refl;
        lock = rw (ne_eqb (place_of history i) (suc n) m) refl;
        else = λ j o. refl;
      }

  pub entry_struck : place_of history i ≡ suc n → kept_size * i + 1 < length history
      → EntryStruck history i n (set (set history (kept_size * i) 0) (kept_size * i + 1) 0)
  entry_struck m l =
      record {
        long = simp length-set;
        place =
            get_or-set_other (set history (kept_size * i) 0) (kept_size * i + 1) (kept_size * i) 0 0 (λ e. omega arith)
            ∙ get_or-set_same history (kept_size * i) 0 0 (omega arith) ∙ sym (rw (eq-eqb (place_of history i) (suc n) m) refl);
        lock = get_or-set_same (set history (kept_size * i) 0) (kept_size * i + 1) 0 0 (simp length-set l) ∙ sym (rw (eq-eqb (place_of history i) (suc n) m) refl);
        else = λ j o.
            get_or-set_other (set history (kept_size * i) 0) (kept_size * i + 1) j 0 0 (λ e. ⊎_elim (λ h. omega arith) (λ h. omega arith) o)
            ∙ get_or-set_other history (kept_size * i) j 0 0 (λ e. ⊎_elim (λ h. omega arith) (λ h. omega arith) o);
      }

-- The first p entries are done.
pub record Striking (before : List ℕ) (n p : ℕ) (now : List ℕ) : Type 0 where
  pub keeps : KeepsPast (kept_size * p) before now
  pub places : (i : ℕ) → i < p → place_of now i ≡ cleared n (place_of before i) (place_of before i)
  pub locks : (i : ℕ) → i < p → lock_of now i ≡ cleared n (place_of before i) (lock_of before i)

pub striking_start : (before : List ℕ) (n : ℕ) → Striking before n 0 before
striking_start before n =
    record {
      keeps = keeps_self 0 before;
      places = λ i l. absurd (not-suc-le-zero l);
      locks = λ i l. absurd (not-suc-le-zero l);
    }

pub striking_step : (before : List ℕ) (n p : ℕ) (now after : List ℕ) → Striking before n p now → EntryStruck now p n after → Striking before n (p + 1) after
striking_step before n p now after D T =
    let same = D.keeps.past (kept_size * p) (omega arith) in
    record {
      keeps = record { long = T.long ∙ D.keeps.long; past = λ j h. T.else j (inr (omega arith)) ∙ D.keeps.past j (omega arith) };
      places = λ i l.
          elim (dec_lt i p) [
            | yes h ↦ T.else (kept_size * i) (inl (omega arith)) ∙ D.places i h
            | no h ↦
                let e : i ≡ p = omega arith in
                rw e (T.place ∙ ap₂ (cleared n) same same)
          ];
      locks = λ i l.
          elim (dec_lt i p) [
            | yes h ↦ T.else (kept_size * i + 1) (inl (omega arith)) ∙ D.locks i h
            | no h ↦
                let e : i ≡ p = omega arith in
                rw e (T.lock ∙ ap₂ (cleared n) same (D.keeps.past (kept_size * p + 1) (omega arith)))
          ];
    }

-- An entry of the history, as the rules strike it out.
module _ (K core : ℕ) (frame : Frame) (inside : frame < frames_per_core) where
  none_by : (byte : ℕ) (t : Bool) → cond t byte byte ≡ byte
  none_by byte true = refl
  none_by byte false = refl

  place_by : (e : Option Kept) → ValidEntry K e → cleared (frame_number core frame) (place_byte e) (place_byte e) ≡ place_byte (strike core frame e)
  place_by none v = none_by 0 (eqb 0 (suc (frame_number core frame)))
  place_by (some e) (counts c f l m) = rw (same_frame core frame e.core e.frame inside f) (by (eqb core e.core && eqb frame e.frame))
    where
      by : (t : Bool) → cond t 0 (place_byte (some e)) ≡ place_byte (cond t none (some e))
      by true = refl
      by false = refl

  lock_by : (e : Option Kept) → ValidEntry K e → cleared (frame_number core frame) (place_byte e) (lock_byte e) ≡ lock_byte (strike core frame e)
  lock_by none v = none_by 0 (eqb 0 (suc (frame_number core frame)))
  lock_by (some e) (counts c f l m) = rw (same_frame core frame e.core e.frame inside f) (by (eqb core e.core && eqb frame e.frame))
    where
      by : (t : Bool) → cond t 0 (lock_byte (some e)) ≡ lock_byte (cond t none (some e))
      by true = refl
      by false = refl

pub striking_done : (before : List ℕ) (n p kept : ℕ) (now : List ℕ) → p ≡ kept → Striking before n p now → Struck kept before n now
striking_done before n p kept now is D =
    record {
      keeps = subst (λ (k : ℕ). KeepsPast (kept_size * k) before now) is D.keeps;
      struck = λ es K core frame e inside long valid b.
          record {
            places = λ i l.
                let h : i < length es = rw (length-map es (strike core frame)) at l in
                D.places i (omega arith)
                ∙ ap₂ (cleared n) (b.places i h) (b.places i h)
                ∙ ap (λ (m : ℕ). cleared m (place_byte (get_or es i none)) (place_byte (get_or es i none))) e
                ∙ place_by K core frame inside (get_or es i none) (valid i h)
                ∙ sym (ap place_byte (get_or-map (strike core frame) es i none));
            locks = λ i l.
                let h : i < length es = rw (length-map es (strike core frame)) at l in
                D.locks i (omega arith)
                ∙ ap₂ (cleared n) (b.places i h) (b.locks i h)
                ∙ ap (λ (m : ℕ). cleared m (place_byte (get_or es i none)) (lock_byte (get_or es i none))) e
                ∙ lock_by K core frame inside (get_or es i none) (valid i h)
                ∙ sym (ap lock_byte (get_or-map (strike core frame) es i none));
          };
    }
