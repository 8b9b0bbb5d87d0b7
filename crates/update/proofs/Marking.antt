-- Usage marks set place by place. Assumes nothing.
use mathlib.Core.Path.{◌≡◌, refl, sym, ap, ap₂, ◌∙◌, fun_ext, subst}
use mathlib.Core.Bool.{Bool, true, false, ◌&&◌, ◌||◌, or-false, and-false}
use mathlib.Core.List.{List, []}
use mathlib.Core.Logic.{inr, ⊎_elim}
use Prim.Native.Nat.{ℕ, suc, ◌+◌, ◌*◌, ◌%◌, ◌/◌, ◌<◌, ◌≤◌}
use native.Mathlib.Decide.{ℕ_discrete}
use native.Mathlib.Numerals.{add-one}
use native.Mathlib.Omega.{arith}
use lib.Dec.{eqb}
use lib.Bits.{bit_or}
use lib.ListN.{length, get_or, set, take, length-set}
use lib.Seq.{get_or-set_same, get_or-set_other}
use borrow.Author.Tests.{eq-eqb, ne_eqb}
use Rattle.rules.specs.Limits.{max_classes, max_depth, held_modes, mode_count}
use Rattle.rules.specs.HeldLocks.{HeldLock, some_held}
use Rattle.rules.specs.Marks.{Level, Usage, safe, unsafe, Marks, set_in, letter_fits}
use Rattle.layout.specs.Layout.{desk_size, marks_at, held_at, mark_of, held_of, origin_of, depth_of}
use Rattle.layout.specs.Encoding.{mark_byte}
use Rattle.layout.proofs.Flags.{mark_or}
use Rattle.context.specs.Bits.{marks_by, mark_bits}
use Rattle.layout.proofs.Held.{unheld, same_bits}
use Rattle.held.specs.Frames.{FrameBytes, SmallLocks}
use Rattle.update.specs.Update.{MarkBytes, KeepsUnmarked, Marked}
use Rattle.held.proofs.Prefixes.{one_more, all_places, lock_at_lem}

same_marks : {desk : List ℕ} (m m' : Marks) → ((c : ℕ) (l : Level) (u : Usage) → m c l u ≡ m' c l u) → MarkBytes desk m → MarkBytes desk m'
same_marks {desk} m m' e b = subst (λ (x : Marks). MarkBytes desk x) (fun_ext (λ c. fun_ext (λ l. fun_ext (λ u. e c l u)))) b

-- A mark's letter goes by the mode alone.
letter_mode : (u : Usage) (h : HeldLock) (c : ℕ) → letter_fits u (record { class = c; mode = h.mode }) ≡ letter_fits u h
letter_mode (safe b) h c = refl
letter_mode (unsafe a) h c = refl

module _ (class context mode : ℕ) (small : class < max_classes) where
  -- One class more is marked.
  abbrev with_one_more : Marks → Marks
  with_one_more m c l u = m c l u || (eqb c class && marks_by context mode c l u)

  there : (m : Marks) → bit_or (mark_byte m class) (mark_bits context mode) ≡ mark_byte (with_one_more m) class
  unfolding mark_bits mark_byte
  there m = mark_or m (marks_by context mode) class ∙ sym (rw (eq-eqb class class refl) refl)

  elsewhere : (m : Marks) (c : ℕ) → (c ≡ class → ⊥) → mark_byte m c ≡ mark_byte (with_one_more m) c
  unfolding mark_byte
  elsewhere m c n = sym (simp (ne_eqb c class n, or-false))

  add_mark : (m : Marks) (now : List ℕ) → desk_size ≤ length now → MarkBytes now m
      → MarkBytes (set now (marks_at + class) (bit_or (get_or now (marks_at + class) 0) (mark_bits context mode))) (with_one_more m)
  add_mark m now long b = record { usage = λ c l. at c l (ℕ_discrete c class) }
    where
      v : ℕ
      v = bit_or (get_or now (marks_at + class) 0) (mark_bits context mode)

      at : (c : ℕ) → c < max_classes → Dec (c ≡ class) → mark_of (set now (marks_at + class) v) c ≡ mark_byte (with_one_more m) c
      at c l (yes e) =
          subst (λ (x : ℕ). mark_of (set now (marks_at + class) v) x ≡ mark_byte (with_one_more m) x) (sym e)
          (get_or-set_same now (marks_at + class) v 0 (omega arith)
          ∙ ap (λ (x : ℕ). bit_or x (mark_bits context mode)) (b.usage class small)
          ∙ there m)
      at c l (no n) = get_or-set_other now (marks_at + class) (marks_at + c) v 0 (λ e. n (omega arith)) ∙ b.usage c l ∙ elsewhere m c n

-- The locks at the first p places are marked.
pub record Marking (before : List ℕ) (n context p : ℕ) (now : List ℕ) : Type 0 where
  pub keeps : KeepsUnmarked before now
  pub marked : (hs : List HeldLock) → FrameBytes before n hs → SmallLocks hs → (marks : Marks) → MarkBytes before marks
      → MarkBytes now (λ c l u. marks c l u || (set_in l u context && some_held c (letter_fits u) (take p hs)))

module _ (before : List ℕ) (n context : ℕ) where
  pub marking_start : Marking before n context 0 before
  marking_start =
      record {
        keeps = record { long = refl; else = λ j o. refl };
        marked = λ hs F small marks b.
            same_marks marks (λ c l u. marks c l u || (set_in l u context && some_held c (letter_fits u) [])) (λ c l u. sym (simp (and-false, or-false))) b;
      }

  regroup : (m s x e f : Bool) → ((m || (s && x)) || (e && (s && f))) ≡ (m || (s && (x || (e && f))))
  regroup true s x e f = refl
  regroup false true true e f = refl
  regroup false true false e f = refl
  regroup false false x true f = refl
  regroup false false x false f = refl

  -- The held bytes and their origins are as they were.
  same_held : {p : ℕ} {now : List ℕ} → Marking before n context p now → (q : ℕ) → held_of now n q ≡ held_of before n q
  same_held M q = M.keeps.else (held_at + max_depth * n + q) (inr (omega arith))

  same_origin : {p : ℕ} {now : List ℕ} → Marking before n context p now → (q : ℕ) → origin_of now n q ≡ origin_of before n q
  same_origin {now = now} M q = same_bits now before (λ j l. M.keeps.else j (inr (omega arith))) (max_depth * n + q)

  pub mode_small : {p : ℕ} {now : List ℕ} → Marking before n context p now → (q : ℕ) → held_of before n q / 64 < held_modes
      → held_of now n q / 64 + held_modes * origin_of now n q < mode_count
  mode_small M q l = rw (same_held M q) (omega arith)

  pub marking_step : (p : ℕ) (now : List ℕ) → Marking before n context p now → p < depth_of before n → p < max_depth → desk_size ≤ length before
      → held_of now n p % 64 < max_classes
      → Marking before n context (p + 1)
      (set now (marks_at + held_of now n p % 64) (bit_or (get_or now (marks_at + held_of now n p % 64) 0) (mark_bits context (held_of now n p / 64 + held_modes * origin_of now n p))))
  marking_step p now M l m long lh =
      record {
        keeps = record {
          long = simp length-set M.keeps.long;
          else = λ j o. get_or-set_other now _ j _ 0 (⊎_elim (λ l e. omega arith) (λ l e. omega arith) o) ∙ M.keeps.else j o;
        };
        marked = λ hs F small marks b.
            let d = F.depth in
            let h = get_or hs p unheld in
            let lock = lock_at_lem before n hs F small p (omega arith) m in
            let inside : p < length hs = omega arith in
            let same = same_held M p in
            let c : held_of now n p % 64 ≡ h.class = ap (λ (x : ℕ). x % 64) same ∙ lock.class in
            let k : held_of now n p / 64 + held_modes * origin_of now n p ≡ h.mode =
            ap₂ (λ (x y : ℕ). x / 64 + held_modes * y) same (same_origin M p) ∙ lock.mode in
            let size = M.keeps.long in
            let q = add_mark h.class context h.mode (rw c at lh) _ now (omega arith) (M.marked hs F small marks b) in
            rw (c, k, add-one)
            (same_marks _ (λ c l u. marks c l u || (set_in l u context && some_held c (letter_fits u) (take (suc p) hs)))
            (λ c l u.
            ap (λ (x : Bool). (marks c l u || (set_in l u context && some_held c (letter_fits u) (take p hs))) || (eqb c h.class && (set_in l u context && x)))
            (letter_mode u h c)
            ∙ regroup (marks c l u) (set_in l u context) (some_held c (letter_fits u) (take p hs)) (eqb c h.class) (letter_fits u h)
            ∙ ap (λ (x : Bool). marks c l u || (set_in l u context && x)) (sym (one_more c (letter_fits u) hs p inside)))
            q);
      }

  pub marking_done : (d : ℕ) (now : List ℕ) → Marking before n context d now → d ≡ depth_of before n → Marked before n context now
  marking_done d now M e =
      record {
        keeps = M.keeps;
        marked = λ hs F small marks b.
            subst (λ (h : List HeldLock). MarkBytes now (λ c l u. marks c l u || (set_in l u context && some_held c (letter_fits u) h)))
            (ap (λ (i : ℕ). take i hs) (e ∙ F.depth) ∙ all_places hs) (M.marked hs F small marks b);
      }
