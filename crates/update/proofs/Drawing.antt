-- Lock dependencies drawn place by place. Assumes nothing.
use mathlib.Core.Path.{◌≡◌, refl, sym, ap, ◌∙◌, fun_ext, subst, subst₂}
use mathlib.Core.Bool.{Bool, true, false, ◌&&◌, ◌||◌, or-false, and-false}
use mathlib.Core.List.{List, []}
use mathlib.Core.Logic.{◌⊎◌, inl, inr}
use Prim.Native.Nat.{ℕ, suc, ◌+◌, ◌*◌, ◌%◌, ◌/◌, ◌<◌, ◌≤◌}
use native.Mathlib.Decide.{ℕ_discrete}
use native.Mathlib.Numerals.{add-one}
use native.Mathlib.Omega.{arith}
use lib.Dec.{eqb}
use lib.Bits.{bit_or}
use lib.ListN.{length, get_or, set, take, length-set}
use lib.Seq.{get_or-set_same, get_or-set_other}
use borrow.Author.Tests.{le-leb, lt-leb, eq-eqb, ne_eqb}
use Rattle.rules.specs.Limits.{max_depth, held_modes}
use Rattle.rules.specs.HeldLocks.{First, HeldLock, same_first, same_second, held_as, first_in, first_by, first_of, second_by, some_held}
use Rattle.rules.specs.Graph.{Kind, Dependencies}
use Rattle.layout.specs.Layout.{kinds_of, held_of, depth_of, KeepsPast}
use Rattle.layout.specs.Encoding.{kind_byte, SheetBytes}
use Rattle.layout.proofs.Buffers.{cell_inside, cell_apart, keeps_self}
use Rattle.layout.proofs.Flags.{kind_or}
use Rattle.context.specs.Bits.{kinds_by, kind_bits}
use Rattle.layout.proofs.Held.{unheld}
use Rattle.held.specs.Frames.{FrameBytes, SmallLocks}
use Rattle.update.specs.Update.{drawn_from, Drawn}
use Rattle.held.proofs.Prefixes.{one_more, all_places, lock_at_lem}

-- The first letter goes by the mode in which the lock is held.
first_held : (mode : ℕ) → first_by (held_as mode) ≡ first_by mode
first_held mode = ap first_in (let e : mode % held_modes % held_modes ≡ mode % held_modes = omega arith in e)

-- ---- Cells of the sheet.

pub same_dependencies : {K : ℕ} {sheet : List ℕ} (d d' : Dependencies) → ((f t : ℕ) (k : Kind) → d f t k ≡ d' f t k) → SheetBytes K d sheet
    → SheetBytes K d' sheet
same_dependencies {K} {sheet} d d' e m =
    subst (λ (x : Dependencies). SheetBytes K x sheet) (fun_ext (λ f. fun_ext (λ t. fun_ext (λ k. e f t k)))) m

module _ (K from to held acquired : ℕ) (lf : from < K) (lt : to < K) where
  -- One dependency more, at one cell.
  abbrev pub with_one_more : Dependencies → Dependencies
  with_one_more d f t k = d f t k || (eqb f from && (eqb t to && kinds_by held acquired f t k))

  there : (d : Dependencies) → bit_or (kind_byte d from to) (kind_bits held acquired) ≡ kind_byte (with_one_more d) from to
  unfolding kind_bits kind_byte
  there d =
      kind_or d (kinds_by held acquired) from to
      ∙ sym (rw (eq-eqb from from refl, eq-eqb to to refl) refl)

  elsewhere : (d : Dependencies) (f t : ℕ) → (f ≡ from → ⊥) ⊎ (t ≡ to → ⊥) → kind_byte d f t ≡ kind_byte (with_one_more d) f t
  unfolding kind_byte
  elsewhere d f t (inl n) = sym (simp (ne_eqb f from n, or-false))
  elsewhere d f t (inr n) = sym (simp (ne_eqb t to n, and-false, or-false))

  pub add_cell : (d : Dependencies) (now : List ℕ) → SheetBytes K d now
      → SheetBytes K (with_one_more d) (set now (from * K + to) (bit_or (get_or now (from * K + to) 0) (kind_bits held acquired)))
  add_cell d now m = record { long = simp length-set m.long; kinds = λ f t l l'. at f t l l' (ℕ_discrete f from) (ℕ_discrete t to) }
    where
      cell : ℕ
      cell = from * K + to

      v : ℕ
      v = bit_or (get_or now (from * K + to) 0) (kind_bits held acquired)

      at : (f t : ℕ) → f < K → t < K → Dec (f ≡ from) → Dec (t ≡ to) → kinds_of (set now cell v) K f t ≡ kind_byte (with_one_more d) f t
      at f t l l' (yes e) (yes e') =
          subst₂ (λ (x y : ℕ). kinds_of (set now cell v) K x y ≡ kind_byte (with_one_more d) x y) (sym e) (sym e')
          (get_or-set_same now cell v 0 (let h = cell_inside K from to lf lt in let k = m.long in omega arith)
          ∙ ap (λ (x : ℕ). bit_or x (kind_bits held acquired)) (m.kinds from to lf lt)
          ∙ there d)
      at f t l l' (no n) q =
          get_or-set_other now cell (f * K + t) v 0 (λ e. n (cell_apart K f t from to l' lt e)) ∙ m.kinds f t l l' ∙ elsewhere d f t (inl n)
      at f t l l' (yes e) (no n) =
          get_or-set_other now cell (f * K + t) v 0 (λ q. n (let z : f * K ≡ from * K = ap (λ (x : ℕ). x * K) e in omega arith))
          ∙ m.kinds f t l l'
          ∙ elsewhere d f t (inr n)

-- ---- Place by place.

-- The dependencies of the first p places are drawn.
pub record Drawing (desk : List ℕ) (K n class mode : ℕ) (before : List ℕ) (p : ℕ) (now : List ℕ) : Type 0 where
  pub keeps : KeepsPast (K * K) before now
  pub drawn : (hs : List HeldLock) → FrameBytes desk n hs → SmallLocks hs → (locks : Dependencies) → SheetBytes K locks before
      → SheetBytes K (λ f t k. locks f t k || drawn_from (take p hs) class mode f t k) now

-- A try draws nothing.
pub drawn_none_lem : (desk : List ℕ) (K n class mode : ℕ) (sheet : List ℕ) → held_modes ≤ mode → Drawn desk K n class mode sheet sheet
drawn_none_lem desk K n class mode sheet l =
    record {
      keeps = keeps_self (K * K) sheet;
      drawn = λ hs F small locks m.
          same_dependencies locks (λ f t k. locks f t k || drawn_from hs class mode f t k)
          (λ f t k. sym (rw (le-leb held_modes mode l) (or-false (locks f t k)))) m;
    }

module _ (desk : List ℕ) (K n class mode : ℕ) (before : List ℕ) (waits : mode < held_modes) where
  pub drawing_start : Drawing desk K n class mode before 0 before
  drawing_start =
      record {
        keeps = record { long = refl; past = λ j l. refl };
        drawn = λ hs F small locks m.
            same_dependencies locks (λ f t k. locks f t k || drawn_from [] class mode f t k) (λ f t k. sym (simp (and-false, or-false))) m;
      }

  -- What an acquire that is no try draws.
  abbrev drawn_waiting : List HeldLock → Dependencies
  drawn_waiting hs f t k = eqb t class && same_second k.second (second_by mode) && some_held f (λ h. same_first k.first (first_of h)) hs

  -- Or is distributed over the new place.
  regroup : (l a b x e c : Bool) → ((l || ((a && b) && x)) || (e && (a && (b && c)))) ≡ (l || ((a && b) && (x || (e && c))))
  regroup true a b x e c = refl
  regroup false true true true e c = refl
  regroup false true true false e c = refl
  regroup false true false x true c = refl
  regroup false true false x false c = refl
  regroup false false b x true c = refl
  regroup false false b x false c = refl

  pub drawing_step : (p : ℕ) (now : List ℕ) → Drawing desk K n class mode before p now → p < depth_of desk n → p < max_depth → class < K
      → held_of desk n p % 64 < K → K * K ≤ length before
      → Drawing desk K n class mode before (p + 1)
      (set now (held_of desk n p % 64 * K + class) (bit_or (get_or now (held_of desk n p % 64 * K + class) 0) (kind_bits (held_of desk n p / 64) mode)))
  drawing_step p now D l m lc lh room =
      record {
        keeps = record {
          long = simp length-set D.keeps.long;
          past = λ j out.
              get_or-set_other now _ j _ 0 (λ e. let h = cell_inside K (held_of desk n p % 64) class lh lc in omega arith) ∙ D.keeps.past j out;
        };
        drawn = λ hs F small locks mb.
            let d = F.depth in
            let h = get_or hs p unheld in
            let lock = lock_at_lem desk n hs F small p (omega arith) m in
            let q = add_cell K h.class class (held_as h.mode) mode (rw lock.class at lh) lc _ now (D.drawn hs F small locks mb) in
            rw (lock.class, lock.held_as_lem, add-one)
            (same_dependencies _ (λ f t k. locks f t k || drawn_from (take (suc p) hs) class mode f t k)
            (λ f t k.
            rw (lt-leb held_modes mode waits)
            (ap (λ (x : First). (locks f t k || drawn_waiting (take p hs) f t k) || (eqb f h.class && (eqb t class && (same_second k.second (second_by mode) && same_first k.first x))))
            (first_held h.mode)
            ∙ regroup (locks f t k) (eqb t class) (same_second k.second (second_by mode))
            (some_held f (λ h. same_first k.first (first_of h)) (take p hs)) (eqb f h.class) (same_first k.first (first_of h))
            ∙ ap (λ (x : Bool). locks f t k || ((eqb t class && same_second k.second (second_by mode)) && x))
            (sym (one_more f (λ h. same_first k.first (first_of h)) hs p (omega arith)))))
            q);
      }

  -- All places: what the contract says.
  pub drawing_done : (d : ℕ) (now : List ℕ) → Drawing desk K n class mode before d now → d ≡ depth_of desk n → Drawn desk K n class mode before now
  drawing_done d now D e =
      record {
        keeps = D.keeps;
        drawn = λ hs F small locks mb.
            subst (λ (l : List HeldLock). SheetBytes K (λ f t k. locks f t k || drawn_from l class mode f t k) now)
            (ap (λ (i : ℕ). take i hs) (e ∙ F.depth) ∙ all_places hs) (D.drawn hs F small locks mb);
      }
