-- The locks held at the first places of a frame. Assumes nothing.
use mathlib.Core.Path.{◌≡◌, refl, sym, ap, ◌∙◌}
use mathlib.Core.Bool.{Bool, ◌&&◌, ◌||◌, or-false, or_assoc}
use mathlib.Core.List.{List, [], ◌∷◌}
use Prim.Native.Nat.{ℕ, zero, suc, ◌+◌, ◌*◌, ◌%◌, ◌/◌, ◌<◌}
use native.Mathlib.Nat.{le_of_suc-le-suc, not-suc-le-zero}
use native.Mathlib.Omega.{arith}
use lib.Dec.{eqb}
use lib.ListN.{length, get_or, take}
use Rattle.rules.specs.Limits.{max_depth, held_modes}
use Rattle.rules.specs.HeldLocks.{HeldLock, held_as, some_held}
use Rattle.layout.specs.Layout.{held_of, origin_of}
use Rattle.layout.specs.Encoding.{held_byte, held_origin}
use Rattle.layout.proofs.Held.{unheld, mode_back, value_at}
use Rattle.held.specs.Frames.{FrameBytes, SmallLocks}

-- One place more.
pub one_more : (c : ℕ) (test : HeldLock → Bool) (hs : List HeldLock) (p : ℕ) → p < length hs
    → some_held c test (take (suc p) hs) ≡ (some_held c test (take p hs) || (eqb c (get_or hs p unheld).class && test (get_or hs p unheld)))
one_more c test [] p l = absurd (not-suc-le-zero l)
one_more c test (h ∷ hs) zero l = or-false (eqb c h.class && test h)
one_more c test (h ∷ hs) (suc p) l =
    ap (λ (b : Bool). (eqb c h.class && test h) || b) (one_more c test hs p (le_of_suc-le-suc l))
    ∙ sym (or_assoc (eqb c h.class && test h) (some_held c test (take p hs)) (eqb c (get_or hs p unheld).class && test (get_or hs p unheld)))

pub all_places : (hs : List HeldLock) → take (length hs) hs ≡ hs
all_places [] = refl
all_places (h ∷ hs) = ap {B = List HeldLock} (λ (l : List HeldLock). h ∷ l) (all_places hs)

-- The byte of a held lock gives its class and the mode in which it is held; with the origin bit, the mode of its acquire.
pub record Lock (desk : List ℕ) (n p : ℕ) (h : HeldLock) : Type 0 where
  pub class : held_of desk n p % 64 ≡ h.class
  pub held_as_lem : held_of desk n p / 64 ≡ held_as h.mode
  pub mode : held_of desk n p / 64 + held_modes * origin_of desk n p ≡ h.mode

pub lock_at_lem : (desk : List ℕ) (n : ℕ) (hs : List HeldLock) → FrameBytes desk n hs → SmallLocks hs → (p : ℕ) → p < length hs → p < max_depth
    → Lock desk n p (get_or hs p unheld)
lock_at_lem desk n hs F small p l m =
    let h = get_or hs p unheld in
    let e : held_of desk n p ≡ held_byte h = F.held p m ∙ value_at held_byte hs p unheld l in
    let o : origin_of desk n p ≡ held_origin h = F.origins p m ∙ value_at held_origin hs p unheld l in
    let s = small p unheld l in
    let c = s.class in
    let held_as_lem : held_of desk n p / 64 ≡ held_as h.mode = rw e (omega arith) in
    record { class = rw e (omega arith); held_as_lem = held_as_lem; mode = rw (held_as_lem, o) (mode_back h.mode s.mode) }
