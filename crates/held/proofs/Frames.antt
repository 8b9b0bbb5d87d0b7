-- A frame's bytes and origin bits after a lock is held or released. Assumes nothing.
use mathlib.Core.Path.{◌≡◌, refl, sym, ap, ◌∙◌}
use mathlib.Core.List.{List, [], ◌∷◌, ◌++◌, map}
use mathlib.Core.Logic.{◌⊎◌, inl, inr, ⊎_elim}
use Prim.Native.Nat.{ℕ, zero, suc, ◌+◌, ◌-◌, ◌*◌, ◌/◌, ◌%◌, ◌<◌, ◌≤◌}
use native.Mathlib.Nat.{le_of_suc-le-suc, not-suc-le-zero}
use native.Mathlib.Decide.{ℕ_discrete, dec_lt}
use native.Mathlib.Omega.{arith}
use lib.ListN.{length, get_or, set, take, drop, length-set, length-append, length-take, length-drop}
use Rattle.std.proofs.Common.{get_or-take, get_or-drop}
use lib.Seq.{get_or-set_same, get_or-set_other}
use Rattle.std.specs.List.{CopiedTo, SameBelow, SameFrom}
use Rattle.rules.specs.Limits.{max_depth, held_modes, mode_count}
use Rattle.rules.specs.HeldLocks.{HeldLock}
use Rattle.layout.specs.Layout.{frame_count, origins_at, accepted_at, desk_size, depths_at, held_at, depth_of, held_of, origin_bit, origin_of}
use Rattle.layout.specs.Encoding.{held_byte, held_origin, EightBits}
use Rattle.layout.proofs.Held.{mode_origin, same_bits}
use Rattle.origins.specs.Origins.{OriginPut}
use Rattle.held.specs.Frames.{HeldBytes, Pushed, remove_at, OriginsMoved, Removed}

-- ---- What the places of a frame say, f being what a byte or a bit says of its lock: with one lock more, and with the lock at place q gone.

module _ (f : HeldLock → ℕ) where
  abbrev said : List HeldLock → ℕ → ℕ
  said hs p = get_or (map f hs) p 0

  at_inside : (hs : List HeldLock) (h : HeldLock) (p : ℕ) → (p ≡ length hs → ⊥) → said (hs ++ (h ∷ [])) p ≡ said hs p
  at_inside [] h zero n = absurd (n refl)
  at_inside [] h (suc p) n = refl
  at_inside (x ∷ hs) h zero n = refl
  at_inside (x ∷ hs) h (suc p) n = at_inside hs h p (λ e. n (ap suc e))

  at_last : (hs : List HeldLock) (h : HeldLock) → said (hs ++ (h ∷ [])) (length hs) ≡ f h
  at_last [] h = refl
  at_last (x ∷ hs) h = at_last hs h

  at_below : (q : ℕ) (hs : List HeldLock) (p : ℕ) → p < q → said (remove_at q hs) p ≡ said hs p
  at_below q [] p l = refl
  at_below zero (h ∷ hs) p l = absurd (not-suc-le-zero l)
  at_below (suc q) (h ∷ hs) zero l = refl
  at_below (suc q) (h ∷ hs) (suc p) l = at_below q hs p (le_of_suc-le-suc l)

  at_above : (q : ℕ) (hs : List HeldLock) (p : ℕ) → q ≤ p → said (remove_at q hs) p ≡ said hs (suc p)
  at_above q [] p l = refl
  at_above zero (h ∷ hs) p l = refl
  at_above (suc q) (h ∷ hs) zero l = absurd (not-suc-le-zero l)
  at_above (suc q) (h ∷ hs) (suc p) l = at_above q hs p (le_of_suc-le-suc l)

  at_past : (hs : List HeldLock) (p : ℕ) → length hs ≤ p → said hs p ≡ 0
  at_past [] p l = refl
  at_past (h ∷ hs) zero l = absurd (not-suc-le-zero l)
  at_past (h ∷ hs) (suc p) l = at_past hs p (le_of_suc-le-suc l)

  module _ (hs : List HeldLock) (before after : ℕ → ℕ) (is : (p : ℕ) → p < max_depth → before p ≡ said hs p) where
    with_more : (h : HeldLock) → after (length hs) ≡ f h → ((p : ℕ) → p < max_depth → (p ≡ length hs → ⊥) → after p ≡ before p)
        → (p : ℕ) → p < max_depth → after p ≡ said (hs ++ (h ∷ [])) p
    with_more h there else p l =
        elim (ℕ_discrete p (length hs)) [
          | yes e ↦ rw e (there ∙ sym (at_last hs h))
          | no n ↦ else p l n ∙ is p l ∙ sym (at_inside hs h p n)
        ]

    with_less : (q last : ℕ) → suc last ≡ length hs → length hs ≤ max_depth → ((p : ℕ) → q ≤ p → p < last → after p ≡ before (suc p)) → after last ≡ 0
        → ((p : ℕ) → p < max_depth → (p < q) ⊎ (last < p) → after p ≡ before p) → (p : ℕ) → p < max_depth → after p ≡ said (remove_at q hs) p
    with_less q last e few moved freed kept p l =
        elim (dec_lt p q) [
          | yes h ↦ kept p l (inl h) ∙ is p l ∙ sym (at_below q hs p h)
          | no h ↦ behind (omega arith) (dec_lt p last) (ℕ_discrete p last) ∙ sym (at_above q hs p (omega arith))
        ]
      where
        -- Places from q on say what the place behind them did, and past the last lock that is nothing.
        behind : q ≤ p → Dec (p < last) → Dec (p ≡ last) → after p ≡ said hs (suc p)
        behind lo (yes h) z = moved p lo h ∙ is (suc p) (omega arith)
        behind lo (no h) (yes z) = rw z (freed ∙ sym (at_past hs (suc last) (omega arith)))
        behind lo (no h) (no z) = kept p l (inr (omega arith)) ∙ is p l ∙ at_past hs p (omega arith) ∙ sym (at_past hs (suc p) (omega arith))

-- ---- The held bytes of a frame as a slice.

pub bytes_sliced : {desk : List ℕ} (n : ℕ) → desk_size ≤ length desk → n < frame_count → depth_of desk n ≤ max_depth → (xs : List ℕ)
    → xs ≡ take (held_at + max_depth * n + depth_of desk n - (held_at + max_depth * n)) (drop (held_at + max_depth * n) desk) → HeldBytes desk n xs
bytes_sliced {desk} n long inside few xs e =
    let a : ℕ = held_at + max_depth * n in
    record {
      long = rw e (simp (length-take, length-drop) (omega arith));
      byte = λ p l. rw e (get_or-take (a + depth_of desk n - a) (drop a desk) p 0 (omega arith) ∙ get_or-drop a desk p 0);
    }

-- ---- A lock is held.

module _ (desk : List ℕ) (n : ℕ) (long : desk_size ≤ length desk) (inside : n < frame_count) (room : depth_of desk n < max_depth) where
  pub push_law : (put : List ℕ) (class mode : ℕ) → mode < mode_count → OriginPut desk (max_depth * n + depth_of desk n) (mode / held_modes) put
      → Pushed desk n class mode
      (set (set put (held_at + max_depth * n + depth_of desk n) (class + 64 * (mode % held_modes))) (depths_at + n) (depth_of desk n + 1))
  push_law put class mode lm P =
      record {
        keeps = record {
          long = simp length-set P.long;
          else = λ j nd out in_bytes.
              other j nd (⊎_elim (λ l e. omega arith) (λ l e. omega arith) out)
              ∙ P.else j (⊎_elim (λ l e. omega arith) (λ l e. omega arith) in_bytes);
          origins = λ k out. bits k ∙ P.others k (⊎_elim (λ l e. omega arith) (λ l e. omega arith) out);
          eight = λ E b l.
              let far = other (origins_at + b) (omega arith) (omega arith) in
              elim (ℕ_discrete b (i / 8)) [
                | yes e ↦ rw (far, e) P.eight
                | no ne ↦ rw (far, P.else (origins_at + b) (λ e. ne (omega arith))) (E b l)
              ];
        };
        frame = λ hs F.
            let d = F.depth in
            record {
              depth =
                  let a = length-set put (held_at + max_depth * n + depth_of desk n) v in
                  let k = length-append hs (h ∷ []) in
                  get_or-set_same once (depths_at + n) (depth_of desk n + 1) 0 (omega (arith, P.long)) ∙ omega arith;
              held = with_more held_byte hs (held_of desk n) (λ p. held_of after n p) F.held h
                  (rw (← d)
                  (get_or-set_other once (depths_at + n) (held_at + max_depth * n + depth_of desk n) (depth_of desk n + 1) 0 (omega arith)
                  ∙ get_or-set_same put (held_at + max_depth * n + depth_of desk n) v 0 (omega (arith, P.long))))
                  (λ p l ne. other (held_at + max_depth * n + p) (omega arith) (λ e. ne (omega arith)) ∙ P.else (held_at + max_depth * n + p) (omega arith));
              origins = with_more held_origin hs (origin_of desk n) (λ p. origin_of after n p) F.origins h
                  (rw (← d) (bits i ∙ P.there ∙ mode_origin mode lm))
                  (λ p l ne. bits (max_depth * n + p) ∙ P.others (max_depth * n + p) (λ e. ne (omega arith)));
            };
      }
    where
      i : ℕ
      i = max_depth * n + depth_of desk n

      h : HeldLock
      h = record { class = class; mode = mode }

      v : ℕ
      v = class + 64 * (mode % held_modes)

      once : List ℕ
      once = set put (held_at + max_depth * n + depth_of desk n) v

      after : List ℕ
      after = set once (depths_at + n) (depth_of desk n + 1)

      other : (j : ℕ) → (j ≡ depths_at + n → ⊥) → (j ≡ held_at + max_depth * n + depth_of desk n → ⊥) → get_or after j 0 ≡ get_or put j 0
      other j nd nh =
          get_or-set_other once (depths_at + n) j (depth_of desk n + 1) 0 nd
          ∙ get_or-set_other put (held_at + max_depth * n + depth_of desk n) j v 0 nh

      bits : (k : ℕ) → origin_bit after k ≡ origin_bit put k
      bits = same_bits after put (λ j l. other j (λ e. omega arith) (λ e. omega arith))

-- ---- A release: the locks behind place q move down one.

remove_length : (q : ℕ) (hs : List HeldLock) → q < length hs → suc (length (remove_at q hs)) ≡ length hs
remove_length q [] l = absurd (not-suc-le-zero l)
remove_length zero (h ∷ hs) l = refl
remove_length (suc q) (h ∷ hs) l = ap suc (remove_length q hs (le_of_suc-le-suc l))

-- The origin bits from place q up to place p of frame n have moved down.
pub record OriginsMoving (before : List ℕ) (n q p : ℕ) (now : List ℕ) : Type 0 where
  pub long : length now ≡ length before
  pub from : q ≤ p
  pub else : (j : ℕ) → (j < origins_at) ⊎ (accepted_at ≤ j) → get_or now j 0 ≡ get_or before j 0
  pub moved : (r : ℕ) → q ≤ r → r < p → origin_of now n r ≡ origin_of before n (suc r)
  pub kept : (k : ℕ) → (k < max_depth * n + q) ⊎ (max_depth * n + p ≤ k) → origin_bit now k ≡ origin_bit before k
  pub eight : EightBits before → EightBits now

pub origins_start : (before : List ℕ) (n q : ℕ) → OriginsMoving before n q q before
origins_start before n q =
    record { long = refl; from = omega arith; else = λ j o. refl; moved = λ r lo hi. absurd (omega arith); kept = λ k o. refl; eight = λ E. E }

module _ {before now after : List ℕ} {n q p : ℕ} (M : OriginsMoving before n q p now) (inside : n < frame_count) (room : p < max_depth) where
  -- One bit is put at place p.
  put_else : {d : ℕ} → OriginPut now (max_depth * n + p) d after → (j : ℕ) → (j < origins_at) ⊎ (accepted_at ≤ j) → get_or after j 0 ≡ get_or before j 0
  put_else P j o = P.else j (⊎_elim (λ l e. omega arith) (λ l e. omega arith) o) ∙ M.else j o

  put_eight : {d : ℕ} → OriginPut now (max_depth * n + p) d after → EightBits before → EightBits after
  put_eight P E b l =
      elim (ℕ_discrete b ((max_depth * n + p) / 8)) [
        | yes e ↦ rw e P.eight
        | no ne ↦ rw (P.else (origins_at + b) (λ e. ne (omega arith))) (M.eight E b l)
      ]

  pub origins_step : OriginPut now (max_depth * n + p) (origin_bit now (max_depth * n + p + 1)) after → OriginsMoving before n q (p + 1) after
  origins_step P =
      let f = M.from in
      record {
        long = P.long ∙ M.long;
        from = omega arith;
        else = put_else P;
        moved = λ r lo hi.
            elim (ℕ_discrete r p) [
              | yes e ↦
                  let z : max_depth * n + p + 1 ≡ max_depth * n + suc p = omega arith in
                  rw e (P.there ∙ M.kept (max_depth * n + p + 1) (inr (omega arith)) ∙ ap (origin_bit before) z)
              | no ne ↦ P.others (max_depth * n + r) (λ e. ne (omega arith)) ∙ M.moved r lo (omega arith)
            ];
        kept = λ k o. P.others k (⊎_elim (λ l e. omega arith) (λ l e. omega arith) o) ∙ M.kept k (⊎_elim inl (λ l. inr (omega arith)) o);
        eight = put_eight P;
      }

  pub origins_done : OriginPut now (max_depth * n + p) 0 after → OriginsMoved before n q p after
  origins_done P =
      let f = M.from in
      record {
        long = P.long ∙ M.long;
        else = put_else P;
        moved = λ r lo hi. P.others (max_depth * n + r) (λ e. omega arith) ∙ M.moved r lo hi;
        freed = P.there;
        kept = λ k o. P.others k (⊎_elim (λ l e. omega arith) (λ l e. omega arith) o) ∙ M.kept k (⊎_elim inl (λ l. inr (omega arith)) o);
        eight = put_eight P;
      }

-- The bytes from place q up to place p of frame n have moved down.
pub record Moving (before : List ℕ) (n q p : ℕ) (now : List ℕ) : Type 0 where
  pub long : length now ≡ length before
  pub from : q ≤ p
  pub moved : (j : ℕ) → held_at + max_depth * n + q ≤ j → j < held_at + max_depth * n + p → get_or now j 0 ≡ get_or before (j + 1) 0
  pub else : (j : ℕ) → (j < held_at + max_depth * n + q) ⊎ (held_at + max_depth * n + p ≤ j) → get_or now j 0 ≡ get_or before j 0

pub moving_copied : {before now : List ℕ} (n q last : ℕ) → q ≤ last → length now ≡ length before
    → CopiedTo before now (held_at + max_depth * n + q + 1) (held_at + max_depth * n + q) (held_at + max_depth * n + last + 1 - (held_at + max_depth * n + q + 1))
    → SameBelow before now (held_at + max_depth * n + q)
    → SameFrom before now (held_at + max_depth * n + q + (held_at + max_depth * n + last + 1 - (held_at + max_depth * n + q + 1)))
    → Moving before n q last now
moving_copied {before} n q last f long copied below from =
    record {
      long = long;
      from = f;
      moved = λ j lo hi. copied j 0 lo (omega arith) ∙ ap (λ (k : ℕ). get_or before k 0) (omega arith);
      else = λ j o. ⊎_elim (λ l. below j 0 l) (λ l. from j 0 (omega arith)) o;
    }

module _ (before : List ℕ) (n q : ℕ) (long : desk_size ≤ length before) (inside : n < frame_count) (few : depth_of before n ≤ max_depth) (there : q < depth_of before n) where
  pub remove_law : (now : List ℕ) (last : ℕ) → suc last ≡ depth_of before n → Moving before n q last now → (after : List ℕ)
      → OriginsMoved (set (set now (held_at + max_depth * n + last) 0) (depths_at + n) last) n q last after → Removed before n q after
  remove_law now last is m after O =
      record {
        keeps = record {
          long = O.long ∙ simp length-set m.long;
          else = λ j nd o in_bytes.
              O.else j in_bytes
              ∙ other j nd (⊎_elim (λ l e. omega arith) (λ l e. omega arith) o)
              ∙ m.else j (⊎_elim (λ l. inl (omega arith)) (λ l. inr (omega arith)) o);
          origins = λ k o. O.kept k (⊎_elim (λ l. inl (omega arith)) (λ l. inr (omega arith)) o) ∙ bits k;
          eight = λ E. O.eight (λ b l. rw (far (origins_at + b) (omega arith)) (E b l));
        };
        frame = λ hs F.
            let d = F.depth in
            record {
              depth =
                  let l = length-set now (held_at + max_depth * n + last) 0 in
                  let r = remove_length q hs (omega arith) in
                  byte (depths_at + n) (omega arith) ∙ get_or-set_same once (depths_at + n) last 0 (omega (arith, size)) ∙ omega arith;
              held = with_less held_byte hs (held_of before n) (λ p. held_of after n p) F.held q last (omega arith) (omega arith)
                  (λ p lo hi.
                  let z : held_at + max_depth * n + p + 1 ≡ held_at + max_depth * n + suc p = omega arith in
                  byte (held_at + max_depth * n + p) (omega arith)
                  ∙ other (held_at + max_depth * n + p) (λ e. omega arith) (λ e. omega arith)
                  ∙ m.moved (held_at + max_depth * n + p) (omega arith) (omega arith)
                  ∙ ap (λ (j : ℕ). get_or before j 0) z)
                  (byte (held_at + max_depth * n + last) (omega arith)
                  ∙ get_or-set_other once (depths_at + n) (held_at + max_depth * n + last) last 0 (omega arith)
                  ∙ get_or-set_same now (held_at + max_depth * n + last) 0 0 (omega (arith, size)))
                  (λ p l o.
                  byte (held_at + max_depth * n + p) (omega arith)
                  ∙ other (held_at + max_depth * n + p) (λ e. omega arith) (⊎_elim (λ l e. omega arith) (λ l e. omega arith) o)
                  ∙ m.else (held_at + max_depth * n + p) (⊎_elim (λ l. inl (omega arith)) (λ l. inr (omega arith)) o));
              origins = with_less held_origin hs (origin_of before n) (λ p. origin_of after n p) F.origins q last (omega arith) (omega arith)
                  (λ p lo hi. O.moved p lo hi ∙ bits (max_depth * n + suc p)) O.freed
                  (λ p l o. O.kept (max_depth * n + p) (⊎_elim (λ l. inl (omega arith)) (λ l. inr (omega arith)) o) ∙ bits (max_depth * n + p));
            };
      }
    where
      once : List ℕ
      once = set now (held_at + max_depth * n + last) 0

      left : List ℕ
      left = set once (depths_at + n) last

      size : length now ≡ length before
      size = m.long

      other : (j : ℕ) → (j ≡ depths_at + n → ⊥) → (j ≡ held_at + max_depth * n + last → ⊥) → get_or left j 0 ≡ get_or now j 0
      other j nd nh = get_or-set_other once (depths_at + n) j last 0 nd ∙ get_or-set_other now (held_at + max_depth * n + last) j 0 0 nh

      byte : (j : ℕ) → j < origins_at → get_or after j 0 ≡ get_or left j 0
      byte j l = O.else j (inl l)

      far : (j : ℕ) → origins_at ≤ j → get_or left j 0 ≡ get_or before j 0
      far j l = other j (λ e. omega arith) (λ e. omega arith) ∙ m.else j (inr (omega arith))

      bits : (k : ℕ) → origin_bit left k ≡ origin_bit before k
      bits = same_bits left before far
