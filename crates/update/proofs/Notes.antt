-- Bits added to the bytes of a buffer, and whether that changed it. Assumes nothing.
use mathlib.Core.Path.{◌≡◌, refl, sym, ap, ◌∙◌}
use mathlib.Core.Bool.{Bool, true, false, not, ◌||◌, or-false, or-true, true≢false}
use mathlib.Core.List.{List}
use Prim.Native.Nat.{ℕ, ◌≤◌, ◌<◌}
use native.Mathlib.Decide.{ℕ_discrete}
use native.Mathlib.Omega.{arith}
use lib.Dec.{eqb}
use borrow.Author.Tests.{eq-eqb, ne_eqb}
use lib.Bits.{bit_or, or_add_and, and_le_r}
use lib.ListN.{length, get_or, set}
use lib.Seq.{set-get_or, get_or-set_same, get_or-set_other}
use Rattle.update.specs.Update.{Noted}

-- A byte that has grown.
pub record Grown (before now : List ℕ) : Type 0 where
  pub at : ℕ
  pub grown : get_or before at 0 < get_or now at 0

-- No byte shrinks, so that one that has grown stays another.
pub record Noting (before now : List ℕ) (changed : Bool) : Type 0 where
  pub same : changed ≡ false → now ≡ before
  pub more : changed ≡ true → Grown before now
  pub grows : (j : ℕ) → get_or before j 0 ≤ get_or now j 0

pub noting_start : (before : List ℕ) → Noting before before false
noting_start before = record { same = λ e. refl; more = λ e. absurd (true≢false (sym e)); grows = λ j. omega arith }

or_grows : (w b : ℕ) → w ≤ bit_or w b
or_grows w b = let e = or_add_and w b in let l = and_le_r w b in omega arith

module _ {before now : List ℕ} {changed : Bool} (N : Noting before now changed) (a b : ℕ) (inside : a < length now) where
  abbrev byte : ℕ
  byte = bit_or (get_or now a 0) b

  wider : (j : ℕ) → get_or now j 0 ≤ get_or (set now a byte) j 0
  wider j =
      let g = or_grows (get_or now a 0) b in
      elim (ℕ_discrete j a) [
        | yes e ↦ let s = get_or-set_same now a byte 0 inside in rw (e, s) g
        | no n ↦ let s = get_or-set_other now a j byte 0 n in omega arith
      ]

  still : byte ≡ get_or now a 0 → set now a byte ≡ now
  still e = ap (set now a) e ∙ set-get_or now a 0

  -- One byte is written, and with it the note where that changes it.
  noted_more : (byte ≡ get_or now a 0 → ⊥) → Noting before (set now a byte) true
  noted_more ne =
      let g = or_grows (get_or now a 0) b in
      let s = get_or-set_same now a byte 0 inside in
      let o = N.grows a in
      record {
        same = λ e. absurd (true≢false e);
        more = λ e. record { at = a; grown = elim (ℕ_discrete byte (get_or now a 0)) [ yes q ↦ absurd (ne q) | no n ↦ omega arith ] };
        grows = λ j. let x = N.grows j in let y = wider j in omega arith;
      }

  noted_same : byte ≡ get_or now a 0 → Noting before (set now a byte) changed
  noted_same q = rw (still q) N

  pub noting_step : Noting before (set now a byte) (changed || not (eqb byte (get_or now a 0)))
  noting_step =
      elim (ℕ_discrete byte (get_or now a 0)) [
        | yes q ↦ rw (eq-eqb byte (get_or now a 0) q, or-false changed) (noted_same q)
        | no n ↦ rw (ne_eqb byte (get_or now a 0) n, or-true changed) (noted_more n)
      ]

pub noting_done : {before now : List ℕ} {changed : Bool} → Noting before now changed → Noted before now changed
noting_done {before} {now} N =
    record {
      same = N.same;
      other = λ e q. let m = N.more e in let g = m.grown in let s : get_or now m.at 0 ≡ get_or before m.at 0 = ap (λ (l : List ℕ). get_or l m.at 0) q in omega arith;
    }
