-- The fit test and the rules: fit buffers encode a valid state, and buffers that encode a valid state are fit. Assumes nothing.
use mathlib.Core.Path.{◌≡◌, refl, sym, ap, ap₂, ◌∙◌, subst, subst₂, fun_ext}
use mathlib.Core.Bool.{Bool, true, false, cond, ◌&&◌, true≢false}
use mathlib.Core.List.{List, [], map}
use Prim.Native.Nat.{ℕ, zero, suc, ◌+◌, ◌*◌, ◌/◌, ◌%◌, ◌^◌, ◌≤◌, ◌<◌}
use native.Mathlib.Nat.{not-suc-le-zero, zero-div}
use native.Mathlib.Decide.{dec_lt}
use native.Mathlib.Omega.{arith}
use lib.Dec.{ltb, eqb}
use lib.Seq.{ext_get_or}
use lib.ListN.{length, get_or, length-map, get_or-map, get_or-eq_default}
use borrow.Author.Tests.{ltb-true, eqb-true, lt-ltb, le-ltb, lt-leb, le-leb, eq-eqb}
use Rattle.words.specs.Bits.{bit, flag}
use Rattle.words.specs.Pack.{pack}
use Rattle.words.proofs.Words.{bit_shift}
use Rattle.words.proofs.Packs.{flag_back, flag_le, pack_lt, pack_ext, pack_bits}
use Rattle.rules.specs.Limits.{core_count, max_classes, max_depth, held_modes}
use Rattle.rules.specs.Context.{CoreState, Frame, soft, hard}
use Rattle.rules.specs.HeldLocks.{First, E, S, HeldLock, held_as, Core, fresh_core}
use Rattle.rules.specs.Marks.{Marks, Level, hard_irq, soft_irq, Usage, unsafe, mark_bit}
use Rattle.rules.specs.Graph.{Kind, kind_bit, Dependencies, Graph}
use Rattle.rules.specs.Decision.{tabulate}
use Rattle.rules.specs.Crosslocks.{Crosslocks}
use Rattle.rules.specs.Log.{word_size}
use Rattle.rules.specs.Run.{Journal, State}
use Rattle.rules.proofs.Booleans.{and_cases, and_both}
use Rattle.rules.proofs.Closure.{length_tabulate, get_d_tabulate}
use Rattle.layout.proofs.Flags.{mark_flags, kind_flags, mark_packed, kind_packed, mark_digit, kind_digit}
use Rattle.layout.proofs.Buffers.{cell_inside}
use Rattle.layout.proofs.Held.{unheld, mode_back, value_at}
use Rattle.layout.specs.Layout.{frames_per_core, frame_count, marks_at, origins_at, place_count, accepted_at, number_size, desk_size, sheet_size, seen_size, frame_number, classes_of, closed_of, depth_of, mark_of, held_of, origin_bit, origin_of, kinds_of, kept_of, AreBytes}
use Rattle.layout.proofs.Numbers.{value_small, bytes_of_lem, byte_small}
use Rattle.layout.specs.Encoding.{mark_byte, kind_byte, held_byte, held_byte_at, held_origin, origin_at, word_of, DeskBytes, SheetBytes, Encodes}
use Rattle.layout.specs.Fit.{fits, entries_fit}
use Rattle.validity.specs.Valid.{ValidLock, ValidLocks, ValidCore, Valid}
use Rattle.layout.specs.Decoding.{held_lock_of, held_locks, view_core, view_cores, view_marks, view_locks, view_graph, view_cross, view_journal, view, StandFor}
use Rattle.fit.proofs.Places.{AtPlaces, by_frame, by_place, by_origin, by_pair, by_number}
use Rattle.fit.proofs.Facts.{CoreFacts, FrameFacts, MarkFacts, Facts, NumberFacts, facts, cross_facts, number_facts, fits_of}
use Rattle.fit.proofs.Journals.{fit_seen, fit_journal, journal_is, encoded_numbers}
use Rattle.fit.proofs.Crossed.{fit_cross, cross_valid, cross_is, cross_fact, entries_fact, nothing_kept, entries_unread, cross_unread}

-- The lock at place p of frame n.
abbrev lock_at : List ℕ → ℕ → ℕ → HeldLock
lock_at desk n p = held_lock_of (held_of desk n p) (origin_of desk n p)

-- The origin bit of a byte and a bit taken for a lock.
origin_back : (byte origin : ℕ) → byte / 64 < held_modes → origin < 2 → origin ≡ held_origin (held_lock_of byte origin)
origin_back byte zero l h = rw (lt-leb held_modes (byte / 64 + held_modes * 0) (omega arith)) refl
origin_back byte (suc zero) l h = rw (le-leb held_modes (byte / 64 + held_modes * 1) (omega arith)) refl
origin_back byte (suc (suc o)) l h = absurd (omega arith)

-- ---- Flags in a byte.

flag_of : (x : ℕ) → x < 2 → flag (eqb x 1) ≡ x
flag_of zero l = refl
flag_of (suc zero) l = refl
flag_of (suc (suc x)) l = absurd (omega arith)

-- The bits of a byte, each asked for by its place, are the byte.
bits_packed : (n a : ℕ) (b : Bool) → b ≡ true → a < 2 ^ n
    → pack n (λ i. get_or (tabulate n (λ k. b && eqb (a / 2 ^ k % 2) 1)) i false) ≡ a
bits_packed n a b e h =
    pack_ext n _ (λ i. eqb (bit a i) 1)
    (λ i l. get_d_tabulate n (λ k. b && eqb (a / 2 ^ k % 2) 1) false i l ∙ rw (e, bit_shift a i))
    ∙ pack_bits n a h

module _ (desk sheet : List ℕ) (f : Facts desk sheet) where
  -- ---- What fit buffers encode.

  core_at : (i : ℕ) → i < core_count → view_cores desk i ≡ view_core desk i
  core_at i l = rw (lt-ltb i core_count l)

  held_at : (i : ℕ) (g : Frame) → g < frames_per_core → (view_core desk i).held g ≡ held_locks desk (frame_number i g)
  held_at i g l = rw (lt-ltb g frames_per_core l)

  depth_view : (n : ℕ) → depth_of desk n ≡ length (held_locks desk n)
  depth_view n = sym (length_tabulate (depth_of desk n) (lock_at desk n))

  -- What a byte or a bit says of the lock at a place, v being its value there.
  value_view : (say : HeldLock → ℕ) → say unheld ≡ 0 → (v n p : ℕ) → (p < depth_of desk n → v ≡ say (lock_at desk n p)) → (depth_of desk n ≤ p → v ≡ 0)
      → v ≡ get_or (map say (held_locks desk n)) p 0
  value_view say z v n p held unused =
      elim (dec_lt p (depth_of desk n)) [
        | yes q ↦ held q
            ∙ ap say (sym (get_d_tabulate (depth_of desk n) (lock_at desk n) unheld p q))
            ∙ sym (get_or-map say (held_locks desk n) p unheld)
            ∙ ap (λ (d : ℕ). get_or (map say (held_locks desk n)) p d) z
        | no q ↦ unused (omega arith)
            ∙ sym (get_or-eq_default (map say (held_locks desk n)) 0 (rw (length-map (held_locks desk n) say, ← depth_view n) (omega arith)))
      ]

  held_view : (n p : ℕ) → n < frame_count → p < max_depth → held_of desk n p ≡ held_byte_at (held_locks desk n) p
  held_view n p l h =
      value_view held_byte refl (held_of desk n p) n p (λ q. let m = (f.frames n l).mode p q in omega arith) ((f.frames n l).unused p h)

  origin_view : (n p : ℕ) → n < frame_count → p < max_depth → origin_of desk n p ≡ origin_at (held_locks desk n) p
  origin_view n p l h =
      let d : (max_depth * n + p) / max_depth ≡ n = omega arith in
      let m : (max_depth * n + p) % max_depth ≡ p = omega arith in
      value_view held_origin refl (origin_of desk n p) n p (λ q. origin_back (held_of desk n p) (origin_of desk n p) ((f.frames n l).mode p q) (omega arith))
      (λ q. f.origins (max_depth * n + p) (omega arith) (rw (d, m) q))

  marks_view : (c : ℕ) → c < max_classes → mark_of desk c < 256 → mark_of desk c ≡ mark_byte (view_marks desk) c
  marks_view c l h = sym (mark_packed (view_marks desk) c ∙ bits_packed 8 (mark_of desk c) (ltb c max_classes) (lt-ltb c max_classes l) h)

  kinds_view : (from to : ℕ) → from < classes_of desk → to < classes_of desk
      → kinds_of sheet (classes_of desk) from to ≡ kind_byte (view_locks (classes_of desk) sheet) from to
  kinds_view from to l h =
      let K = classes_of desk in
      let small : kinds_of sheet K from to < 2 ^ 4 = let k = f.kinds (from * K + to) (cell_inside K from to l h) in omega arith in
      sym (kind_packed (view_locks K sheet) from to ∙ bits_packed 4 (kinds_of sheet K from to) (ltb from K && ltb to K) (and_both (lt-ltb from K l) (lt-ltb to K h)) small)

  fit_desk : AreBytes desk_size desk
      → DeskBytes (classes_of desk) (eqb (closed_of desk) 1) (view_cores desk) (view_marks desk) desk
  fit_desk bytes =
      record {
        long = f.long;
        classes = refl;
        closed = sym (flag_of (closed_of desk) (let h = f.closed in omega arith));
        states = λ i l. rw (core_at i l);
        depths = λ i g l h. rw (core_at i l, held_at i g h) (depth_view (frame_number i g));
        usage = λ c l. marks_view c l (bytes (marks_at + c) (omega arith));
        held = λ i g p l h q. rw (core_at i l, held_at i g h) (held_view (frame_number i g) p (omega arith) q);
        origins = λ i g p l h q. rw (core_at i l, held_at i g h) (origin_view (frame_number i g) p (omega arith) q);
        eight = λ b l. bytes (origins_at + b) (omega arith);
      }

  fit_sheet : SheetBytes (classes_of desk) (view_locks (classes_of desk) sheet) sheet
  fit_sheet = record { long = f.square; kinds = kinds_view }

-- Fit buffers encode their view.
pub fit_encodes : (desk sheet seen history : List ℕ) → fits desk sheet seen ≡ true → entries_fit desk history ≡ true → AreBytes desk_size desk
    → AreBytes (seen_size (classes_of desk)) seen → Encodes (classes_of desk) (view desk sheet seen history) desk sheet seen history
fit_encodes desk sheet seen history e h bytes numbers =
    let f = facts desk sheet seen e in
    record {
      in_desk = fit_desk desk sheet f bytes;
      in_count = bytes_of_lem desk number_size accepted_at (λ j l. bytes (accepted_at + j) (omega arith));
      in_sheet = fit_sheet desk sheet f;
      in_cross = fit_cross desk history bytes h;
      in_seen = fit_seen desk sheet seen (number_facts desk sheet seen e) numbers;
    }

-- ---- Fit buffers are valid.

fresh_valid : (K : ℕ) → ValidCore K fresh_core
fresh_valid K =
    record {
      states = omega arith;
      depths = λ g. omega arith;
      locks = λ g p d l. absurd (not-suc-le-zero l);
      soft_held = λ h. absurd (not-suc-le-zero h);
      hard_held = λ h. absurd (not-suc-le-zero h);
      no_more = λ g l. refl;
    }

module _ (desk sheet : List ℕ) (f : Facts desk sheet) where
  locks_valid : (n : ℕ) → n < frame_count → ValidLocks (classes_of desk) (held_locks desk n)
  locks_valid n l p d h =
      let q : p < depth_of desk n = rw (← depth_view desk sheet f n) at h in
      rw (get_d_tabulate (depth_of desk n) (lock_at desk n) d p q)
      record { class = (f.frames n l).class p q; mode = let m = (f.frames n l).mode p q in omega arith }

  -- What holds of no locks and of the locks of a frame holds of the core's locks in any frame.
  any_frame : (P : List HeldLock → Type 0) (i : ℕ) (g : Frame) → P [] → (g < frames_per_core → P (held_locks desk (frame_number i g)))
      → P ((view_core desk i).held g)
  any_frame P i g none some =
      elim (dec_lt g frames_per_core) [
        | yes l ↦ rw (lt-ltb g frames_per_core l) (some l)
        | no l ↦ let h : frames_per_core ≤ g = omega arith in rw (le-ltb g frames_per_core h) none
      ]

  core_valid : (i : ℕ) → i < core_count → ValidCore (classes_of desk) (view_core desk i)
  core_valid i l =
      record {
        states = (f.cores i l).states;
        depths = λ g. any_frame (λ hs. length hs ≤ max_depth) i g (omega arith)
            (λ h. rw (← depth_view desk sheet f (frame_number i g)) (f.frames (frame_number i g) (omega arith)).depth);
        locks = λ g. any_frame (ValidLocks (classes_of desk)) i g (λ p d h. absurd (not-suc-le-zero h))
            (λ h. locks_valid (frame_number i g) (omega arith));
        soft_held = λ h. (f.cores i l).soft_held (rw (← depth_view desk sheet f (frame_number i soft)) at h);
        hard_held = λ h. (f.cores i l).hard_held (rw (← depth_view desk sheet f (frame_number i hard)) at h);
        no_more = λ g l. rw (le-ltb g frames_per_core (omega arith));
      }

  cores_valid : (i : ℕ) → ValidCore (classes_of desk) (view_cores desk i)
  cores_valid i =
      elim (dec_lt i core_count) [
        | yes l ↦ rw (lt-ltb i core_count l) (core_valid i l)
        | no l ↦ let h : core_count ≤ i = omega arith in rw (le-ltb i core_count h) (fresh_valid (classes_of desk))
      ]

  mark_set : (c : ℕ) (l : Level) (u : Usage) → view_marks desk c l u ≡ true
      → (c < max_classes) × (mark_of desk c / mark_bit l u % 2 ≡ 1)
  mark_set c l u e = let a = and_cases (ltb c max_classes) _ e in (ltb-true _ _ a.0, eqb-true _ _ a.1)

  -- A class with a mark is below K.
  marked_in_range : (c : ℕ) (l : Level) (u : Usage) → view_marks desk c l u ≡ true → c < classes_of desk
  marked_in_range c l u e =
      let a = mark_set c l u e in
      elim (dec_lt c (classes_of desk)) [
        | yes h ↦ h
        | no h ↦
            let z : mark_of desk c ≡ 0 = (f.marks c a.0).in_range (omega arith) in
            let w : mark_of desk c / mark_bit l u % 2 ≡ 0 = rw (z, zero-div (mark_bit l u)) in
            absurd (omega arith)
      ]

  soft_unsafe_hard : (c : ℕ) (a : First) → view_marks desk c soft_irq (unsafe a) ≡ true → view_marks desk c hard_irq (unsafe a) ≡ true
  soft_unsafe_hard c E e =
      let a = mark_set c soft_irq (unsafe E) e in
      let h = (f.marks c a.0).exclusive in
      and_both (lt-ltb _ _ a.0) (eq-eqb (mark_of desk c / 4 % 2) 1 (omega arith))
  soft_unsafe_hard c S e =
      let a = mark_set c soft_irq (unsafe S) e in
      let h = (f.marks c a.0).shared in
      and_both (lt-ltb _ _ a.0) (eq-eqb (mark_of desk c / 8 % 2) 1 (omega arith))

  locks_in_range : (from to : ℕ) (k : Kind) → view_locks (classes_of desk) sheet from to k ≡ true
      → (from < classes_of desk) × (to < classes_of desk)
  locks_in_range from to k e =
      let K = classes_of desk in
      let a = and_cases (ltb from K) _ (and_cases (ltb from K && ltb to K) _ e).0 in
      (ltb-true _ _ a.0, ltb-true _ _ a.1)

pub fit_valid : (desk sheet seen history : List ℕ) → fits desk sheet seen ≡ true → entries_fit desk history ≡ true → AreBytes desk_size desk
    → AreBytes (seen_size (classes_of desk)) seen → Valid (classes_of desk) (view desk sheet seen history)
fit_valid desk sheet seen history e h bytes numbers =
    let f = facts desk sheet seen e in
    record {
      cores = cores_valid desk sheet f;
      no_more = λ i l. rw (le-ltb i core_count l);
      graph = record {
        marks_in_range = marked_in_range desk sheet f;
        soft_unsafe = soft_unsafe_hard desk sheet f;
        locks_in_range = locks_in_range desk sheet f;
      };
      cross = cross_valid desk history bytes h (cross_facts desk sheet seen e);
      journal = fit_journal desk sheet seen (number_facts desk sheet seen e) (value_small desk number_size accepted_at (λ j l. bytes (accepted_at + j) (omega arith)))
          numbers (λ from to l h. kinds_view desk sheet f from to l h);
    }

-- ---- Buffers that encode a valid state are fit.

flag_mono : (a b : Bool) → (a ≡ true → b ≡ true) → flag a ≤ flag b
flag_mono true b h = rw (h refl) (omega arith)
flag_mono false b h = omega arith

not_true_false : (b : Bool) → (b ≡ true → ⊥) → b ≡ false
not_true_false true h = absurd (h refl)
not_true_false false h = refl

module _ (desk sheet seen history : List ℕ) (some : 1 ≤ classes_of desk) (few : classes_of desk ≤ max_classes)
    (s : State) (v : Valid (classes_of desk) s) (e : Encodes (classes_of desk) s desk sheet seen history) where
  core_fact : (i : ℕ) → i < core_count → CoreFacts desk i
  core_fact i l =
      record {
        states = rw (e.in_desk.states i l) (v.cores i).states;
        soft_held = λ h. rw (e.in_desk.states i l)
            ((v.cores i).soft_held (rw (e.in_desk.depths i soft l (omega arith)) at h));
        hard_held = λ h. rw (e.in_desk.states i l)
            ((v.cores i).hard_held (rw (e.in_desk.depths i hard l (omega arith)) at h));
      }

  frame_fact : (i : ℕ) (g : Frame) → i < core_count → g < frames_per_core → FrameFacts (classes_of desk) desk (frame_number i g)
  frame_fact i g l h =
      let n = frame_number i g in
      let hs = (s.cores i).held g in
      let depth : depth_of desk n ≡ length hs = e.in_desk.depths i g l h in
      let small : length hs ≤ max_depth = (v.cores i).depths g in
      let lock : (p : ℕ) → p < depth_of desk n → (held_of desk n p ≡ held_byte (get_or hs p unheld)) =
      λ p q. e.in_desk.held i g p l h (omega arith) ∙ value_at held_byte hs p unheld (omega arith) in
      let good : (p : ℕ) → p < depth_of desk n → ValidLock (classes_of desk) (get_or hs p unheld) =
      λ p q. (v.cores i).locks g p unheld (omega arith) in
      record {
        depth = omega arith;
        class = λ p q. let a = lock p q in let b = good p q in omega arith;
        mode = λ p q. let a = lock p q in let b = good p q in omega arith;
        unused = λ p q r. e.in_desk.held i g p l h q
            ∙ get_or-eq_default (map held_byte hs) 0 (rw (length-map hs held_byte, ← depth) r);
      }

  origin_fact : (k : ℕ) → k < place_count → depth_of desk (k / max_depth) ≤ k % max_depth → origin_bit desk k ≡ 0
  origin_fact =
      by_origin (λ k. depth_of desk (k / max_depth) ≤ k % max_depth → origin_bit desk k ≡ 0)
      (λ i g p l h q r.
      let hs = (s.cores i).held g in
      let depth : depth_of desk (frame_number i g) ≡ length hs = e.in_desk.depths i g l h in
      let d : (max_depth * frame_number i g + p) / max_depth ≡ frame_number i g = omega arith in
      let m : (max_depth * frame_number i g + p) % max_depth ≡ p = omega arith in
      let past : length hs ≤ p = rw (d, m, depth) at r in
      e.in_desk.origins i g p l h q ∙ get_or-eq_default (map held_origin hs) 0 (rw (length-map hs held_origin) past))

  mark_at : (c : ℕ) (l : Level) (u : Usage) → c < max_classes → mark_of desk c / mark_bit l u % 2 ≡ flag (s.graph.marks c l u)
  mark_at c l u h = rw (e.in_desk.usage c h) (mark_digit s.graph.marks c l u)

  mark_fact : (c : ℕ) → c < max_classes → MarkFacts (classes_of desk) desk c
  unfolding mark_byte
  mark_fact c l =
      let m = s.graph.marks in
      record {
        in_range = λ h.
            let none : (l : Level) (u : Usage) → m c l u ≡ false =
            λ l u. not_true_false (m c l u) (λ t. let r = v.graph.marks_in_range c l u t in omega arith) in
            e.in_desk.usage c l ∙ simp none;
        exclusive = rw (mark_at c soft_irq (unsafe E) l, mark_at c hard_irq (unsafe E) l) (flag_mono _ _ (v.graph.soft_unsafe c E));
        shared = rw (mark_at c soft_irq (unsafe S) l, mark_at c hard_irq (unsafe S) l) (flag_mono _ _ (v.graph.soft_unsafe c S));
      }

  kind_fact : (j : ℕ) → j < sheet_size (classes_of desk) → get_or sheet j 0 ≤ 15
  kind_fact =
      by_pair (classes_of desk) some (λ j. get_or sheet j 0 ≤ 15)
      (λ from to l h.
      let small = pack_lt 4 (λ i. get_or (kind_flags s.graph.locks from to) i false) in
      rw (e.in_sheet.kinds from to l h, kind_packed s.graph.locks from to) (omega arith))

  -- ---- And the state is their view.

  held_is : (i : ℕ) (g : Frame) → i < core_count → g < frames_per_core → held_locks desk (frame_number i g) ≡ (s.cores i).held g
  held_is i g l h =
      let n = frame_number i g in
      let hs = (s.cores i).held g in
      let depth : depth_of desk n ≡ length hs = e.in_desk.depths i g l h in
      let long : length (held_locks desk n) ≡ depth_of desk n = length_tabulate (depth_of desk n) (lock_at desk n) in
      ext_get_or unheld (held_locks desk n) hs (long ∙ depth)
      (λ p q.
      let k : p < depth_of desk n = rw long at q in
      let small : length hs ≤ max_depth = (v.cores i).depths g in
      let good = (v.cores i).locks g p unheld (omega arith) in
      let byte : held_of desk n p ≡ held_byte (get_or hs p unheld) =
      e.in_desk.held i g p l h (omega arith) ∙ value_at held_byte hs p unheld (omega arith) in
      let origin : origin_of desk n p ≡ held_origin (get_or hs p unheld) =
      e.in_desk.origins i g p l h (omega arith) ∙ value_at held_origin hs p unheld (omega arith) in
      let held_mode : held_of desk n p / 64 ≡ held_as (get_or hs p unheld).mode = omega arith in
      get_d_tabulate (depth_of desk n) (lock_at desk n) unheld p k
      ∙ ap₂ (λ (c m : ℕ). record { class = c; mode = m })
      (let w : held_of desk n p % 64 ≡ (get_or hs p unheld).class = omega arith in w)
      (let w : held_of desk n p / 64 + held_modes * origin_of desk n p ≡ (get_or hs p unheld).mode = rw (held_mode, origin) (mode_back _ good.mode) in w))

  core_is : (i : ℕ) → cond (ltb i core_count) (view_core desk i) fresh_core ≡ s.cores i
  core_is i =
      elim (dec_lt i core_count) [
        | yes l ↦ rw (lt-ltb i core_count l)
            (ap₂ (λ (c : CoreState) (h : Frame → List HeldLock). record { state = c; held = h }) (e.in_desk.states i l)
            (fun_ext (λ g. elim (dec_lt g frames_per_core) [
              | yes h ↦ rw (lt-ltb g frames_per_core h) (held_is i g l h)
              | no h ↦ let k : frames_per_core ≤ g = omega arith in rw (le-ltb g frames_per_core k) (sym ((v.cores i).no_more g (omega arith)))
            ])))
        | no l ↦ let k : core_count ≤ i = omega arith in rw (le-ltb i core_count k) (sym (v.no_more i k))
      ]

  marks_are : (c : ℕ) (l : Level) (u : Usage) → view_marks desk c l u ≡ s.graph.marks c l u
  marks_are c l u =
      elim (dec_lt c max_classes) [
        | yes h ↦ rw (lt-ltb c max_classes h, mark_at c l u h) (flag_back (s.graph.marks c l u))
        | no h ↦ let k : max_classes ≤ c = omega arith in
            rw (le-ltb c max_classes k)
            (sym (not_true_false (s.graph.marks c l u) (λ t. let r = v.graph.marks_in_range c l u t in omega arith)))
      ]

  locks_are : (from to : ℕ) (k : Kind) → view_locks (classes_of desk) sheet from to k ≡ s.graph.locks from to k
  locks_are from to k = by (ltb from (classes_of desk) && ltb to (classes_of desk)) refl
    where
      by : (b : Bool) → (ltb from (classes_of desk) && ltb to (classes_of desk)) ≡ b
          → (b && eqb (kinds_of sheet (classes_of desk) from to / kind_bit k % 2) 1) ≡ s.graph.locks from to k
      by true h =
          let a = and_cases (ltb from (classes_of desk)) _ h in
          rw (e.in_sheet.kinds from to (ltb-true _ _ a.0) (ltb-true _ _ a.1), kind_digit s.graph.locks from to k.first k.second)
          (flag_back (s.graph.locks from to k))
      by false h =
          sym (not_true_false (s.graph.locks from to k)
          (λ t. let r = v.graph.locks_in_range from to k t in
          true≢false (sym (and_both (lt-ltb _ _ r.0) (lt-ltb _ _ r.1)) ∙ h)))

  view_of : view desk sheet seen history ≡ s
  view_of =
      let closed : eqb (closed_of desk) 1 ≡ s.is_closed = rw e.in_desk.closed (flag_back s.is_closed) in
      let graph : view_graph desk sheet ≡ s.graph =
      ap₂ (λ (d : Dependencies) (m : Marks). record { locks = d; marks = m })
      (fun_ext (λ f. fun_ext (λ t. fun_ext (locks_are f t)))) (fun_ext (λ c. fun_ext (λ l. fun_ext (marks_are c l)))) in
      ap₂ (λ (b : Bool) (j : Journal). record { is_closed = b; cores = view_cores desk; graph = view_graph desk sheet; cross = view_cross desk history; journal = j })
      closed (journal_is desk seen s.graph.locks s.journal v.journal e.in_count e.in_seen v.graph.locks_in_range)
      ∙ ap₂ (λ (c : ℕ → Core) (x : Crosslocks). record { is_closed = s.is_closed; cores = c; graph = view_graph desk sheet; cross = x; journal = s.journal })
      (fun_ext core_is) (cross_is desk history few s.cross v.cross e.in_cross)
      ∙ ap (λ (g : Graph). record { is_closed = s.is_closed; cores = s.cores; graph = g; cross = s.cross; journal = s.journal }) graph

  all_facts : Facts desk sheet
  all_facts =
      record {
        long = e.in_desk.long;
        some = some;
        few = few;
        square = e.in_sheet.long;
        closed = rw e.in_desk.closed (flag_le s.is_closed);
        cores = core_fact;
        frames = by_frame (FrameFacts (classes_of desk) desk) frame_fact;
        origins = origin_fact;
        marks = mark_fact;
        kinds = kind_fact;
      }

  byte_places : AtPlaces (λ j. get_or desk j 0 < 256)
  byte_places =
      record {
        classes = omega arith;
        closed = rw e.in_desk.closed (let l = flag_le s.is_closed in omega arith);
        states = λ i l. let c = (core_fact i l).states in omega arith;
        depths = λ i g l h. let d = (frame_fact i g l h).depth in omega arith;
        usage = λ c l. let p = pack_lt 8 (λ i. get_or (mark_flags s.graph.marks c) i false) in rw (e.in_desk.usage c l, mark_packed s.graph.marks c) p;
        held = λ i g p l h q.
            let F = frame_fact i g l h in
            elim (dec_lt p (depth_of desk (frame_number i g))) [
              | yes k ↦ let m = F.mode p k in omega arith
              | no k ↦ let z = F.unused p q (omega arith) in omega arith
            ];
        origins = e.in_desk.eight;
        accepted = λ j l. rw (e.in_count j l) (byte_small number_size s.journal.accepted j l);
        declared = λ j l. rw (e.in_cross.declared j l) (byte_small word_size (word_of s.cross.declared) j l);
        progress = λ j l. rw (e.in_cross.progress j l) (byte_small word_size (word_of s.cross.progress) j l);
        kept = λ j l. rw (e.in_cross.kept j l) (byte_small number_size (length s.cross.history) j l);
        since = λ c j h l. rw (e.in_cross.since c h j l) (byte_small number_size (s.cross.since c) j l);
      }

  number_fact : NumberFacts desk sheet seen
  number_fact = encoded_numbers desk seen s.graph.locks s.journal v.journal e.in_count e.in_seen sheet some e.in_sheet

-- What encodes a valid state stands for it.
stands_at : {s : State} {desk sheet seen history : List ℕ} → 1 ≤ classes_of desk → classes_of desk ≤ max_classes → Valid (classes_of desk) s
    → Encodes (classes_of desk) s desk sheet seen history → StandFor (classes_of desk) s desk sheet seen history
stands_at {s} {desk} {sheet} {seen} {history} some few v e =
    record {
      fit = fits_of desk sheet seen (all_facts desk sheet seen history some few s v e) (cross_fact desk history few s.cross v.cross e.in_cross)
          (number_fact desk sheet seen history some few s v e);
      entries = entries_fact desk history few s.cross v.cross e.in_cross;
      classes = refl;
      bytes = by_place (λ j. get_or desk j 0 < 256) (byte_places desk sheet seen history some few s v e);
      numbers = by_number (classes_of desk) some (λ j. get_or seen j 0 < 256)
          (λ from to b l h k. rw (e.in_seen.numbers from to l h b k) (byte_small number_size (s.journal.seen from to) b k));
      is_view = view_of desk sheet seen history some few s v e;
    }

-- ---- Standing for a state and encoding it are the same.

pub stand_encodes : {K : ℕ} {s : State} {desk sheet seen history : List ℕ} → StandFor K s desk sheet seen history → Encodes K s desk sheet seen history
stand_encodes {K} {s} {desk} {sheet} {seen} {history} f =
    subst₂ (λ (k : ℕ) (s : State). Encodes k s desk sheet seen history) f.classes f.is_view
    (fit_encodes desk sheet seen history f.fit f.entries f.bytes (subst (λ (k : ℕ). AreBytes (seen_size k) seen) (sym f.classes) f.numbers))

pub stand_valid : {K : ℕ} {s : State} {desk sheet seen history : List ℕ} → StandFor K s desk sheet seen history → Valid K s
stand_valid {K} {s} {desk} {sheet} {seen} {history} f =
    subst₂ (λ (k : ℕ) (s : State). Valid k s) f.classes f.is_view
    (fit_valid desk sheet seen history f.fit f.entries f.bytes (subst (λ (k : ℕ). AreBytes (seen_size k) seen) (sym f.classes) f.numbers))

pub encodes_stand : {K : ℕ} {s : State} {desk sheet seen history : List ℕ} → 1 ≤ K → K ≤ max_classes → Valid K s → Encodes K s desk sheet seen history
    → StandFor K s desk sheet seen history
encodes_stand {K} {s} {desk} {sheet} {seen} {history} some few v e =
    let k : classes_of desk ≡ K = e.in_desk.classes in
    subst (λ (n : ℕ). StandFor n s desk sheet seen history) k
    (stands_at (rw k some) (rw k few) (rw k v) (subst (λ (n : ℕ). Encodes n s desk sheet seen history) (sym k) e))

-- Where nothing is kept, every history does.
pub any_history : {K : ℕ} {s : State} {desk sheet seen history : List ℕ} → StandFor K s desk sheet seen history → s.cross.history ≡ []
    → (other : List ℕ) → StandFor K s desk sheet seen other
any_history {K} {s} {desk} {sheet} {seen} {history} f none other =
    let empty : kept_of desk ≡ 0 = nothing_kept desk history (ap (λ (s : State). s.cross.history) f.is_view ∙ none) in
    record {
      fit = f.fit;
      entries = entries_unread desk other empty;
      classes = f.classes;
      bytes = f.bytes;
      numbers = f.numbers;
      is_view =
          ap
          (λ (x : Crosslocks).
          record { is_closed = eqb (closed_of desk) 1; cores = view_cores desk; graph = view_graph desk sheet; cross = x; journal = view_journal desk seen })
          (cross_unread desk other history empty)
          ∙ f.is_view;
    }
