-- From bytes that changed to the cores and marks that they encode. Assumes nothing.
use mathlib.Core.Path.{◌≡◌, refl, sym, ap, ◌∙◌}
use mathlib.Core.Bool.{Bool, true, cond}
use mathlib.Core.List.{List}
use mathlib.Core.Logic.{◌⊎◌, inl, inr, ⊎_elim}
use Prim.Native.Nat.{ℕ, ◌+◌, ◌*◌, ◌/◌, ◌%◌, ◌^◌, ◌<◌, ◌≤◌}
use native.Mathlib.Decide.{ℕ_discrete, dec_lt}
use native.Mathlib.Omega.{arith}
use lib.Dec.{eqb}
use lib.ListN.{length, get_or, set, length-set}
use lib.Seq.{get_or-set_same, get_or-set_other}
use borrow.Author.Tests.{eq-eqb, ne_eqb}
use Rattle.rules.specs.Limits.{core_count, max_depth}
use Rattle.rules.specs.Context.{CoreState, Frame, frame_of}
use Rattle.rules.specs.HeldLocks.{HeldLock, Core, with_current, with_state}
use Rattle.rules.specs.Marks.{Marks}
use Rattle.layout.specs.Layout.{frames_per_core, closed_at, states_at, depths_at, marks_at, held_at, origins_at, accepted_at, frame_number, depth_of, held_of, origin_of}
use Rattle.layout.specs.Encoding.{held_byte_at, origin_at, DeskBytes}
use Rattle.layout.proofs.Held.{same_bits}
use Rattle.numbers.specs.Numbers.{NumberPut}
use Rattle.held.specs.Frames.{FrameBytes, KeepsElse}
use Rattle.update.specs.Update.{MarkBytes, KeepsUnmarked}

-- The cores with one of them changed, as a step of the rules leaves them.
abbrev pub changed : (ℕ → Core) → ℕ → Core → ℕ → Core
changed cores i core j = cond (eqb j i) core (cores j)

module _ {K : ℕ} {is_closed : Bool} {cores : ℕ → Core} {marks : Marks} {desk : List ℕ} (b : DeskBytes K is_closed cores marks desk) where
  pub frame_bytes : (i : ℕ) (f : Frame) → i < core_count → f < frames_per_core → FrameBytes desk (frame_number i f) ((cores i).held f)
  frame_bytes i f li lf = record { depth = b.depths i f li lf; held = λ p l. b.held i f p li lf l; origins = λ p l. b.origins i f p li lf l }

  -- ---- One frame.

  module _ (i : ℕ) (li : i < core_count) (lf : frame_of (cores i).state < frames_per_core) (hs : List HeldLock) {after : List ℕ}
      (keeps : KeepsElse (frame_number i (frame_of (cores i).state)) desk after)
      (frame : FrameBytes after (frame_number i (frame_of (cores i).state)) hs) where
    -- A fact of every frame of every core: it holds of the changed frame, and of each other one as before.
    each_frame : (P : ℕ → List HeldLock → Type 0) → P (frame_number i (frame_of (cores i).state)) hs
        → ((j : ℕ) (f : Frame) → j < core_count → f < frames_per_core → (frame_number j f ≡ frame_number i (frame_of (cores i).state) → ⊥)
        → P (frame_number j f) ((cores j).held f))
        → (j : ℕ) (f : Frame) → j < core_count → f < frames_per_core → P (frame_number j f) ((changed cores i (with_current (cores i) hs) j).held f)
    each_frame P there else j f lj lf' =
        elim (ℕ_discrete j i) [
          | yes e ↦
              elim (ℕ_discrete f (frame_of (cores i).state)) [
                | yes q ↦ rw (e, q, eq-eqb i i refl, eq-eqb (frame_of (cores i).state) (frame_of (cores i).state) refl) there
                | no q ↦
                    rw (e, eq-eqb i i refl, ne_eqb f (frame_of (cores i).state) q)
                    (else i f li lf' (λ z. q (omega arith)))
              ]
          | no n ↦ rw (ne_eqb j i n) (else j f lj lf' (λ z. n (omega arith)))
        ]

    state_same : (j : ℕ) → (changed cores i (with_current (cores i) hs) j).state ≡ (cores j).state
    state_same j = elim (ℕ_discrete j i) [ yes e ↦ rw (e, eq-eqb i i refl) refl | no n ↦ rw (ne_eqb j i n) refl ]

    pub frame_changed : DeskBytes K is_closed (changed cores i (with_current (cores i) hs)) marks after
    frame_changed =
        let size = keeps.long in
        let l = b.long in
        record {
          long = omega arith;
          classes = keeps.else 0 (λ e. omega arith) (inl (omega arith)) (inl (omega arith)) ∙ b.classes;
          closed = keeps.else 1 (λ e. omega arith) (inl (omega arith)) (inl (omega arith)) ∙ b.closed;
          states = λ j lj. keeps.else (states_at + j) (λ e. omega arith) (inl (omega arith)) (inl (omega arith)) ∙ b.states j lj ∙ sym (state_same j);
          depths = each_frame (λ n h. depth_of after n ≡ length h) frame.depth
              (λ j f lj lf' ne. keeps.else (depths_at + frame_number j f) (λ e. ne (omega arith)) (inl (omega arith)) (inl (omega arith)) ∙ b.depths j f lj lf');
          usage = λ c lc. keeps.else (marks_at + c) (λ e. omega arith) (inl (omega arith)) (inl (omega arith)) ∙ b.usage c lc;
          held = λ j f p lj lf' lp.
              each_frame (λ n h. held_of after n p ≡ held_byte_at h p) (frame.held p lp)
              (λ j f lj lf'' ne.
              keeps.else (held_at + max_depth * frame_number j f + p) (λ e. omega arith)
              (⊎_elim (λ l. inl (omega arith)) (λ l. inr (omega arith)) (outside j f p lp ne)) (inl (omega arith))
              ∙ b.held j f p lj lf'' lp)
              j f lj lf';
          origins = λ j f p lj lf' lp.
              each_frame (λ n h. origin_of after n p ≡ origin_at h p) (frame.origins p lp)
              (λ j f lj lf'' ne. keeps.origins (max_depth * frame_number j f + p) (outside j f p lp ne) ∙ b.origins j f p lj lf'' lp)
              j f lj lf';
          eight = keeps.eight b.eight;
        }
      where
        -- A place of another frame.
        outside : (j : ℕ) (f : Frame) (p : ℕ) → p < max_depth → (frame_number j f ≡ frame_number i (frame_of (cores i).state) → ⊥)
            → (max_depth * frame_number j f + p < max_depth * frame_number i (frame_of (cores i).state))
            ⊎ (max_depth * frame_number i (frame_of (cores i).state) + max_depth ≤ max_depth * frame_number j f + p)
        outside j f p lp ne =
            elim (dec_lt (frame_number j f) (frame_number i (frame_of (cores i).state))) [ yes l ↦ inl (omega arith) | no n ↦ inr (omega arith) ]

  -- ---- A core's state.

  pub state_changed : (i : ℕ) → i < core_count → (s : CoreState)
      → DeskBytes K is_closed (changed cores i (with_state (cores i) s)) marks (set desk (states_at + i) s)
  state_changed i li s =
      let l = b.long in
      let after = set desk (states_at + i) s in
      let other : (j : ℕ) → (j ≡ states_at + i → ⊥) → get_or after j 0 ≡ get_or desk j 0 = λ j n. get_or-set_other desk (states_at + i) j s 0 n in
      let far : (j : ℕ) → origins_at ≤ j → get_or after j 0 ≡ get_or desk j 0 = λ j l. other j (λ e. omega arith) in
      record {
        long = simp length-set l;
        classes = other 0 (λ e. omega arith) ∙ b.classes;
        closed = other 1 (λ e. omega arith) ∙ b.closed;
        states = λ j lj.
            elim (ℕ_discrete j i) [
              | yes e ↦ rw (e, eq-eqb i i refl) (get_or-set_same desk (states_at + i) s 0 (omega arith))
              | no n ↦ rw (ne_eqb j i n) (other (states_at + j) (λ e. n (omega arith)) ∙ b.states j lj)
            ];
        depths = λ j f lj lf. other (depths_at + frame_number j f) (λ e. omega arith) ∙ b.depths j f lj lf ∙ ap length (held_same j f);
        usage = λ c lc. other (marks_at + c) (λ e. omega arith) ∙ b.usage c lc;
        held = λ j f p lj lf lp.
            other (held_at + max_depth * frame_number j f + p) (λ e. omega arith)
            ∙ b.held j f p lj lf lp
            ∙ ap (λ (h : List HeldLock). held_byte_at h p) (held_same j f);
        origins = λ j f p lj lf lp.
            same_bits after desk far (max_depth * frame_number j f + p)
            ∙ b.origins j f p lj lf lp
            ∙ ap (λ (h : List HeldLock). origin_at h p) (held_same j f);
        eight = λ k l. rw (far (origins_at + k) (omega arith)) (b.eight k l);
      }
    where
      held_same : (j : ℕ) (f : Frame) → (cores j).held f ≡ (changed cores i (with_state (cores i) s) j).held f
      held_same j f = elim (ℕ_discrete j i) [ yes e ↦ rw (e, eq-eqb i i refl) refl | no n ↦ rw (ne_eqb j i n) refl ]

  -- ---- Usage marks.

  pub marks_changed : {after : List ℕ} → KeepsUnmarked desk after → {marks' : Marks} → MarkBytes after marks'
      → DeskBytes K is_closed cores marks' after
  marks_changed {after} keeps m =
      let size = keeps.long in
      let l = b.long in
      record {
        long = omega arith;
        classes = keeps.else 0 (inl (omega arith)) ∙ b.classes;
        closed = keeps.else 1 (inl (omega arith)) ∙ b.closed;
        states = λ j lj. keeps.else (states_at + j) (inl (omega arith)) ∙ b.states j lj;
        depths = λ j f lj lf. keeps.else (depths_at + frame_number j f) (inl (omega arith)) ∙ b.depths j f lj lf;
        usage = m.usage;
        held = λ j f p lj lf lp. keeps.else (held_at + max_depth * frame_number j f + p) (inr (omega arith)) ∙ b.held j f p lj lf lp;
        origins = λ j f p lj lf lp.
            same_bits after desk (λ j l. keeps.else j (inr (omega arith))) (max_depth * frame_number j f + p) ∙ b.origins j f p lj lf lp;
        eight = λ k l. rw (keeps.else (origins_at + k) (inr (omega arith))) (b.eight k l);
      }

  -- ---- Open or closed.

  pub closed_changed : DeskBytes K true cores marks (set desk closed_at 1)
  closed_changed =
      let l = b.long in
      let after = set desk closed_at 1 in
      let other : (j : ℕ) → (j ≡ closed_at → ⊥) → get_or after j 0 ≡ get_or desk j 0 = λ j n. get_or-set_other desk closed_at j 1 0 n in
      record {
        long = simp length-set l;
        classes = other 0 (λ e. omega arith) ∙ b.classes;
        closed = get_or-set_same desk closed_at 1 0 (omega arith);
        states = λ j lj. other (states_at + j) (λ e. omega arith) ∙ b.states j lj;
        depths = λ j f lj lf. other (depths_at + frame_number j f) (λ e. omega arith) ∙ b.depths j f lj lf;
        usage = λ c lc. other (marks_at + c) (λ e. omega arith) ∙ b.usage c lc;
        held = λ j f p lj lf lp. other (held_at + max_depth * frame_number j f + p) (λ e. omega arith) ∙ b.held j f p lj lf lp;
        origins = λ j f p lj lf lp.
            same_bits after desk (λ j l. other j (λ e. omega arith)) (max_depth * frame_number j f + p) ∙ b.origins j f p lj lf lp;
        eight = λ k l. rw (other (origins_at + k) (λ e. omega arith)) (b.eight k l);
      }

  -- ---- The count and what stands behind it.

  pub behind_changed : {after : List ℕ} → length after ≡ length desk → ((j : ℕ) → j < accepted_at → get_or after j 0 ≡ get_or desk j 0)
      → DeskBytes K is_closed cores marks after
  behind_changed {after} size other =
      record {
        long = rw size b.long;
        classes = other 0 (omega arith) ∙ b.classes;
        closed = other closed_at (omega arith) ∙ b.closed;
        states = λ j lj. other (states_at + j) (omega arith) ∙ b.states j lj;
        depths = λ j f lj lf. other (depths_at + frame_number j f) (omega arith) ∙ b.depths j f lj lf;
        usage = λ c lc. other (marks_at + c) (omega arith) ∙ b.usage c lc;
        held = λ j f p lj lf lp. other (held_at + max_depth * frame_number j f + p) (omega arith) ∙ b.held j f p lj lf lp;
        origins = λ j f p lj lf lp.
            let k = max_depth * frame_number j f + p in
            ap (λ (x : ℕ). x / 2 ^ (k % 8) % 2) (other (origins_at + k / 8) (omega arith)) ∙ b.origins j f p lj lf lp;
        eight = λ k l. rw (other (origins_at + k) (omega arith)) (b.eight k l);
      }

  pub count_changed : {n : ℕ} {after : List ℕ} → NumberPut desk accepted_at n after → DeskBytes K is_closed cores marks after
  count_changed P = behind_changed P.long (λ j l. P.else j (inl l))
