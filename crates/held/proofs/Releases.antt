-- The newest lock of a class in a frame's bytes is the one that a release of the rules removes, if it fits. Assumes nothing.
use mathlib.Core.Path.{◌≡◌, refl, sym, ap, ◌∙◌}
use mathlib.Core.Bool.{Bool, true, false, cond, ◌&&◌, or-true, false≢true}
use mathlib.Core.List.{List, [], ◌∷◌}
use Prim.Native.Nat.{ℕ, zero, suc, ◌-◌, ◌%◌, ◌<◌, ◌≤◌}
use native.Mathlib.Nat.{le_of_suc-le-suc, not-suc-le-zero}
use native.Mathlib.Decide.{ℕ_discrete}
use native.Mathlib.Numerals.{sub-one}
use native.Mathlib.Omega.{arith}
use lib.Dec.{eqb}
use lib.ListN.{length, get_or}
use borrow.Author.Tests.{eq-eqb, ne_eqb}
use Rattle.rules.specs.Limits.{max_depth}
use Rattle.rules.specs.HeldLocks.{HeldLock, is_held, newest_is, release_newest}
use Rattle.rules.proofs.Balanced.{newest_held}
use Rattle.layout.specs.Layout.{held_of, depth_of}
use Rattle.layout.proofs.Held.{unheld}
use Rattle.held.specs.Frames.{FrameBytes, SmallLocks, newest_of, taken_in, fitting_of, remove_at}
use Rattle.held.proofs.Last.{LastBelow, nowhere, at, last_below_lem, none_fits}
use Rattle.held.proofs.Prefixes.{lock_at_lem}

-- What is found over a list of held locks.
none_held : (c : ℕ) (hs : List HeldLock) → ((p : ℕ) → p < length hs → eqb c (get_or hs p unheld).class ≡ false) → is_held c hs ≡ false
none_held c [] f = refl
none_held c (h ∷ hs) f = rw (f 0 (omega arith)) (none_held c hs (λ p l. f (suc p) (omega arith)))

-- So no release fits.
no_newest : (c m : ℕ) (hs : List HeldLock) → is_held c hs ≡ false → newest_is c m hs ≡ false
no_newest c m hs f = by (newest_is c m hs) refl
  where
    by : (b : Bool) → newest_is c m hs ≡ b → b ≡ false
    by true e = absurd (false≢true (sym f ∙ newest_held c m hs e))
    by false e = refl

pub record Newest (c : ℕ) (hs : List HeldLock) (q : ℕ) : Type 0 where
  pub inside : q < length hs
  pub found : is_held c hs ≡ true
  pub fits : (m : ℕ) → newest_is c m hs ≡ eqb m (get_or hs q unheld).mode
  pub released : release_newest c hs ≡ remove_at q hs

last_held : (c : ℕ) (hs : List HeldLock) (q : ℕ) → q < length hs → eqb c (get_or hs q unheld).class ≡ true
    → ((p : ℕ) → q < p → p < length hs → eqb c (get_or hs p unheld).class ≡ false) → Newest c hs q
last_held c [] q l e f = absurd (not-suc-le-zero l)
last_held c (h ∷ hs) zero l e f =
    let later = none_held c hs (λ p m. f (suc p) (omega arith) (omega arith)) in
    record { inside = l; found = rw e refl; fits = λ m. rw (later, e) refl; released = rw (later, e) refl }
last_held c (h ∷ hs) (suc q) l e f =
    let ih = last_held c hs q (le_of_suc-le-suc l) e (λ p lo hi. f (suc p) (omega arith) (omega arith)) in
    record {
      inside = l;
      found = rw ih.found (or-true (eqb c h.class && true));
      fits = λ m. rw ih.found (ih.fits m);
      released = rw ih.found (ap {B = List HeldLock} (λ (t : List HeldLock). h ∷ t) ih.released);
    }

-- What `fitting` answers.
pub data FittingCases (c m : ℕ) (hs : List HeldLock) : ℕ → Type 0 where
  missing : newest_is c m hs ≡ false → FittingCases c m hs 0
  present : {q : ℕ} → newest_is c m hs ≡ true → Newest c hs q → FittingCases c m hs (suc q)

pub fitting_is : (desk : List ℕ) (n : ℕ) (hs : List HeldLock) → FrameBytes desk n hs → SmallLocks hs → length hs ≤ max_depth → (c m : ℕ)
    → FittingCases c m hs (fitting_of desk n c m)
unfolding newest_of fitting_of
fitting_is desk n hs F small few c m = by (last_below_lem (λ p. eqb (held_of desk n p % 64) c) (depth_of desk n))
  where
    same : (p : ℕ) → p < length hs → eqb c (get_or hs p unheld).class ≡ eqb (held_of desk n p % 64) c
    same p l =
        let lock = lock_at_lem desk n hs F small p l (omega arith) in
        rw lock.class
        (elim (ℕ_discrete c (get_or hs p unheld).class) [
          | yes e ↦ eq-eqb c (get_or hs p unheld).class e ∙ sym (eq-eqb (get_or hs p unheld).class c (sym e))
          | no ne ↦ ne_eqb c (get_or hs p unheld).class ne ∙ sym (ne_eqb (get_or hs p unheld).class c (λ e. ne (sym e)))
        ])

    here : {q : ℕ} → Newest c hs q → (b : Bool) → newest_is c m hs ≡ b → FittingCases c m hs (cond b (suc q) 0)
    here h true e = present e h
    here h false e = missing e

    there : {q : ℕ} → Newest c hs q → FittingCases c m hs (cond (eqb m (taken_in desk n q)) (suc q) 0)
    there {q} h =
        let l = h.inside in
        here h (eqb m (taken_in desk n q)) (h.fits m ∙ ap (eqb m) (sym (lock_at_lem desk n hs F small q l (omega arith)).mode))

    by : {r : ℕ} → LastBelow (λ p. eqb (held_of desk n p % 64) c) (depth_of desk n) r → FittingCases c m hs (cond (eqb m (taken_in desk n (r - 1))) r 0)
    by (nowhere f) =
        let d = F.depth in
        rw (none_fits (eqb m (taken_in desk n (0 - 1)))) (missing (no_newest c m hs (none_held c hs (λ p l. same p l ∙ f p (omega arith)))))
    by (at {q} l h f) =
        let d = F.depth in
        rw sub-one
        (there (last_held c hs q (omega arith) (same q (omega arith) ∙ h) (λ p lo hi. same p hi ∙ f p lo (omega arith))))

pub not_found : {c m r : ℕ} {hs : List HeldLock} → FittingCases c m hs r → r ≡ 0 → newest_is c m hs ≡ false
not_found (missing f) e = f
not_found (present f q) e = absurd (omega arith)

pub found_at : {c m r : ℕ} {hs : List HeldLock} → FittingCases c m hs r → (r ≡ 0 → ⊥) → (newest_is c m hs ≡ true) × Newest c hs (r - 1)
found_at (missing f) ne = absurd (ne refl)
found_at (present {q} f h) ne = (f, rw sub-one h)
