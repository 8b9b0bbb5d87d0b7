-- What the fit test says, clause by clause, both ways. Assumes nothing.
use mathlib.Core.Path.{◌≡◌, refl, sym}
use mathlib.Core.Bool.{Bool, true, false, not, ◌&&◌, ◌||◌, beq, false≢true}
use mathlib.Core.List.{List}
use mathlib.Core.Logic.{⊎_elim}
use Prim.Native.Nat.{ℕ, ◌/◌, ◌%◌, ◌^◌, ◌≤◌, ◌<◌}
use native.Mathlib.Decide.{dec_lt}
use native.Mathlib.Omega.{arith}
use lib.Dec.{leb, ltb, eqb}
use lib.ListN.{length, get_or}
use borrow.Author.Tests.{ltb-true, leb-true, eqb-true, lt-ltb, le-ltb, le-leb, eq-eqb}
use Rattle.rules.specs.Limits.{core_count, max_classes, max_depth, held_modes, max_in_progress, max_kept}
use Rattle.rules.specs.Context.{hard_over_soft, soft, hard, may_hold_soft, may_hold_hard}
use Rattle.rules.specs.Crosslocks.{size_of}
use Rattle.rules.proofs.Booleans.{or_cases, or_left, or_right, and_cases, and_both}
use Rattle.layout.specs.Layout.{frame_count, place_count, desk_size, sheet_size, seen_size, frame_number, classes_of, closed_of, state_of, depth_of, mark_of, held_of, origin_bit, pair_number, member_of, declared_of, progress_of, kept_of}
use Rattle.layout.specs.Fit.{all_below, classes_fit, core_fits, held_fits, frame_fits, origin_fits, mark_fits, kinds_fit, graph_fits, number_fits, numbers_fit, word_fits, cross_fits, fits}
use Rattle.layout.proofs.AllBelow.{all_at, all_of}

pub record CoreFacts (desk : List ℕ) (i : ℕ) : Type 0 where
  pub states : state_of desk i ≤ hard_over_soft
  pub soft_held : 0 < depth_of desk (frame_number i soft) → may_hold_soft (state_of desk i) ≡ true
  pub hard_held : 0 < depth_of desk (frame_number i hard) → may_hold_hard (state_of desk i) ≡ true

pub record FrameFacts (K : ℕ) (desk : List ℕ) (n : ℕ) : Type 0 where
  pub depth : depth_of desk n ≤ max_depth
  pub class : (p : ℕ) → p < depth_of desk n → held_of desk n p % 64 < K
  pub mode : (p : ℕ) → p < depth_of desk n → held_of desk n p / 64 < held_modes
  pub unused : (p : ℕ) → p < max_depth → depth_of desk n ≤ p → held_of desk n p ≡ 0

pub record MarkFacts (K : ℕ) (desk : List ℕ) (c : ℕ) : Type 0 where
  pub in_range : K ≤ c → mark_of desk c ≡ 0
  pub exclusive : mark_of desk c / 64 % 2 ≤ mark_of desk c / 4 % 2
  pub shared : mark_of desk c / 128 % 2 ≤ mark_of desk c / 8 % 2

pub record Facts (desk sheet : List ℕ) : Type 0 where
  pub long : desk_size ≤ length desk
  pub some : 1 ≤ classes_of desk
  pub few : classes_of desk ≤ max_classes
  pub square : sheet_size (classes_of desk) ≤ length sheet
  pub closed : closed_of desk ≤ 1
  pub cores : (i : ℕ) → i < core_count → CoreFacts desk i
  pub frames : (n : ℕ) → n < frame_count → FrameFacts (classes_of desk) desk n
  pub origins : (i : ℕ) → i < place_count → depth_of desk (i / max_depth) ≤ i % max_depth → origin_bit desk i ≡ 0
  pub marks : (c : ℕ) → c < max_classes → MarkFacts (classes_of desk) desk c
  pub kinds : (j : ℕ) → j < sheet_size (classes_of desk) → get_or sheet j 0 ≤ 15

-- A test that is a disjunction, as what follows where the first part fails.
empty_or : (n : ℕ) (b : Bool) → (eqb n 0 || b) ≡ true → 0 < n → b ≡ true
empty_or n b e h = ⊎_elim (λ z. absurd (let q = eqb-true n 0 z in omega arith)) (λ y. y) (or_cases (eqb n 0) b e)

or_empty : (n : ℕ) (b : Bool) → (0 < n → b ≡ true) → (eqb n 0 || b) ≡ true
or_empty n b h =
    elim (dec_lt 0 n) [ yes l ↦ or_right (eqb n 0) (h l) | no l ↦ or_left b (eq-eqb n 0 (omega arith)) ]

not_or : (a b : Bool) → (not a || b) ≡ true → a ≡ true → b ≡ true
not_or true b h e = h
not_or false b h e = absurd (false≢true e)

or_not : (a b : Bool) → (a ≡ true → b ≡ true) → (not a || b) ≡ true
or_not true b h = h refl
or_not false b h = refl

module _ (desk : List ℕ) (i : ℕ) where
  core_facts : core_fits desk i ≡ true → CoreFacts desk i
  unfolding core_fits
  core_facts e =
      let a = and_cases (leb (state_of desk i) hard_over_soft) _ e in
      let b = and_cases (eqb (depth_of desk (frame_number i soft)) 0 || may_hold_soft (state_of desk i)) _ a.1 in
      record {
        states = leb-true _ _ a.0;
        soft_held = empty_or (depth_of desk (frame_number i soft)) (may_hold_soft (state_of desk i)) b.0;
        hard_held = empty_or (depth_of desk (frame_number i hard)) (may_hold_hard (state_of desk i)) b.1;
      }

  core_fits_lem : CoreFacts desk i → core_fits desk i ≡ true
  unfolding core_fits
  core_fits_lem f =
      and_both (le-leb _ _ f.states)
      (and_both (or_empty _ _ f.soft_held) (or_empty _ _ f.hard_held))

module _ (K : ℕ) (desk : List ℕ) (n : ℕ) where
  abbrev fits_at : ℕ → Bool
  fits_at p = held_fits K (ltb p (depth_of desk n)) (held_of desk n p)

  frame_facts : frame_fits K desk n ≡ true → FrameFacts K desk n
  unfolding frame_fits
  frame_facts e =
      let a = and_cases (leb (depth_of desk n) max_depth) _ e in
      let at = all_at max_depth fits_at a.1 in
      let d : depth_of desk n ≤ max_depth = leb-true _ _ a.0 in
      let held : (p : ℕ) → p < depth_of desk n → (ltb (held_of desk n p % 64) K && ltb (held_of desk n p / 64) held_modes) ≡ true =
      λ p l. rw (lt-ltb p (depth_of desk n) l) at (at p (omega arith)) in
      record {
        depth = d;
        class = λ p l. ltb-true _ _ (and_cases (ltb (held_of desk n p % 64) K) _ (held p l)).0;
        mode = λ p l. ltb-true _ _ (and_cases (ltb (held_of desk n p % 64) K) _ (held p l)).1;
        unused = λ p l h. eqb-true _ _ (rw (le-ltb p (depth_of desk n) h) at (at p l));
      }

  frame_fits_lem : FrameFacts K desk n → frame_fits K desk n ≡ true
  unfolding frame_fits
  frame_fits_lem f =
      and_both (le-leb _ _ f.depth)
      (all_of max_depth fits_at
      (λ p l. elim (dec_lt p (depth_of desk n)) [
        | yes h ↦ rw (lt-ltb p (depth_of desk n) h) (and_both (lt-ltb _ _ (f.class p h)) (lt-ltb _ _ (f.mode p h)))
        | no h ↦
            let g : depth_of desk n ≤ p = omega arith in
            rw (le-ltb p (depth_of desk n) g) (eq-eqb _ _ (f.unused p l g))
      ]))

module _ (desk : List ℕ) (i : ℕ) where
  origin_zero : origin_fits desk i ≡ true → depth_of desk (i / max_depth) ≤ i % max_depth → origin_bit desk i ≡ 0
  unfolding origin_fits
  origin_zero e h =
      ⊎_elim (λ z. eqb-true _ _ z) (λ z. absurd (let l = ltb-true (i % max_depth) (depth_of desk (i / max_depth)) z in omega arith))
      (or_cases (eqb (origin_bit desk i) 0) (ltb (i % max_depth) (depth_of desk (i / max_depth))) e)

  origin_fits_lem : (depth_of desk (i / max_depth) ≤ i % max_depth → origin_bit desk i ≡ 0) → origin_fits desk i ≡ true
  unfolding origin_fits
  origin_fits_lem h =
      elim (dec_lt (i % max_depth) (depth_of desk (i / max_depth))) [
        | yes l ↦ or_right (eqb (origin_bit desk i) 0) (lt-ltb _ _ l)
        | no l ↦ or_left _ (eq-eqb (origin_bit desk i) 0 (h (omega arith)))
      ]

module _ (K : ℕ) (desk : List ℕ) (c : ℕ) where
  mark_facts : mark_fits K desk c ≡ true → MarkFacts K desk c
  unfolding mark_fits
  mark_facts e =
      let a = and_cases (ltb c K || eqb (mark_of desk c) 0) _ e in
      let b = and_cases (leb (mark_of desk c / 64 % 2) (mark_of desk c / 4 % 2)) _ a.1 in
      record {
        in_range = λ h. eqb-true _ _ (rw (le-ltb c K h) at a.0);
        exclusive = leb-true _ _ b.0;
        shared = leb-true _ _ b.1;
      }

  mark_fits_lem : MarkFacts K desk c → mark_fits K desk c ≡ true
  unfolding mark_fits
  mark_fits_lem f =
      and_both {a = ltb c K || eqb (mark_of desk c) 0}
      (elim (dec_lt c K) [
        | yes h ↦ or_left _ (lt-ltb c K h)
        | no h ↦ or_right (ltb c K) (eq-eqb (mark_of desk c) 0 (f.in_range (omega arith)))
      ])
      (and_both (le-leb _ _ f.exclusive) (le-leb _ _ f.shared))

module _ (desk sheet : List ℕ) where
  pub graph_facts : graph_fits desk sheet ≡ true → Facts desk sheet
  unfolding graph_fits
  graph_facts e =
      let K = classes_of desk in
      let a = and_cases (leb desk_size (length desk)) _ e in
      let b = and_cases (classes_fit K) _ a.1 in
      let k = and_cases (leb 1 K) _ b.0 in
      let d = and_cases (leb (sheet_size K) (length sheet)) _ b.1 in
      let f = and_cases (leb (closed_of desk) 1) _ d.1 in
      let g = and_cases (all_below core_count (core_fits desk)) _ f.1 in
      let h = and_cases (all_below frame_count (frame_fits K desk)) _ g.1 in
      let o = and_cases (all_below place_count (origin_fits desk)) _ h.1 in
      let m = and_cases (all_below max_classes (mark_fits K desk)) _ o.1 in
      record {
        long = leb-true _ _ a.0;
        some = leb-true _ _ k.0;
        few = leb-true _ _ k.1;
        square = leb-true _ _ d.0;
        closed = leb-true _ _ f.0;
        cores = λ i l. core_facts desk i (all_at core_count (core_fits desk) g.0 i l);
        frames = λ n l. frame_facts K desk n (all_at frame_count (frame_fits K desk) h.0 n l);
        origins = λ i l. origin_zero desk i (all_at place_count (origin_fits desk) o.0 i l);
        marks = λ c l. mark_facts K desk c (all_at max_classes (mark_fits K desk) m.0 c l);
        kinds = λ j l. leb-true _ _ (all_at (sheet_size K) (kinds_fit sheet) m.1 j l);
      }

  graph_fits_lem : Facts desk sheet → graph_fits desk sheet ≡ true
  unfolding graph_fits
  graph_fits_lem f =
      and_both (le-leb _ _ f.long)
      (and_both (and_both (le-leb _ _ f.some) (le-leb _ _ f.few))
      (and_both (le-leb _ _ f.square)
      (and_both (le-leb _ _ f.closed)
      (and_both (all_of core_count (core_fits desk) (λ i l. core_fits_lem desk i (f.cores i l)))
      (and_both (all_of frame_count (frame_fits (classes_of desk) desk) (λ n l. frame_fits_lem _ desk n (f.frames n l)))
      (and_both (all_of place_count (origin_fits desk) (λ i l. origin_fits_lem desk i (f.origins i l)))
      (and_both (all_of max_classes (mark_fits (classes_of desk) desk) (λ c l. mark_fits_lem _ desk c (f.marks c l)))
      (all_of (sheet_size (classes_of desk)) (kinds_fit sheet) (λ j l. le-leb _ _ (f.kinds j l))))))))))

-- Of the crosslocks.
pub record CrossFacts (desk : List ℕ) : Type 0 where
  pub declared : declared_of desk < 2 ^ classes_of desk
  pub progress : (c : ℕ) → c < max_classes → member_of (progress_of desk) c ≡ true → member_of (declared_of desk) c ≡ true
  pub few : size_of (member_of (progress_of desk)) ≤ max_in_progress
  pub kept : kept_of desk ≤ max_kept

module _ (desk : List ℕ) where
  abbrev is_declared : ℕ → Bool
  is_declared c = not (member_of (progress_of desk) c) || member_of (declared_of desk) c

  pub cross_facts_of : cross_fits desk ≡ true → CrossFacts desk
  unfolding cross_fits word_fits
  cross_facts_of e =
      let a = and_cases (ltb (declared_of desk) (2 ^ classes_of desk)) _ e in
      let b = and_cases (all_below max_classes is_declared) _ a.1 in
      let c = and_cases (leb (size_of (member_of (progress_of desk))) max_in_progress) _ b.1 in
      record {
        declared = ltb-true _ _ a.0;
        progress = λ i l h. not_or (member_of (progress_of desk) i) (member_of (declared_of desk) i) (all_at max_classes is_declared b.0 i l) h;
        few = leb-true _ _ c.0;
        kept = leb-true _ _ c.1;
      }

  cross_fits_lem : CrossFacts desk → cross_fits desk ≡ true
  unfolding cross_fits word_fits
  cross_fits_lem f =
      and_both (lt-ltb _ _ f.declared)
      (and_both (all_of max_classes is_declared (λ i l. or_not (member_of (progress_of desk) i) (member_of (declared_of desk) i) (f.progress i l)))
      (and_both (le-leb _ _ f.few) (le-leb _ _ f.kept)))

-- Of the second sheet.
pub record NumberFacts (desk sheet seen : List ℕ) : Type 0 where
  pub long : seen_size (classes_of desk) ≤ length seen
  pub numbered : (j : ℕ) → j < sheet_size (classes_of desk) → eqb (pair_number seen j) 0 ≡ eqb (get_or sheet j 0) 0

beq_same : (a b : Bool) → beq a b ≡ true → a ≡ b
beq_same true true h = refl
beq_same false false h = refl
beq_same true false h = sym h
beq_same false true h = h

same_beq : (a : Bool) → beq a a ≡ true
same_beq true = refl
same_beq false = refl

module _ (desk sheet seen : List ℕ) where
  pub facts : fits desk sheet seen ≡ true → Facts desk sheet
  unfolding fits
  facts e = graph_facts desk sheet (and_cases (graph_fits desk sheet) _ e).0

  pub cross_facts : fits desk sheet seen ≡ true → CrossFacts desk
  unfolding fits
  cross_facts e = cross_facts_of desk (and_cases (cross_fits desk) _ (and_cases (graph_fits desk sheet) _ e).1).0

  pub number_facts : fits desk sheet seen ≡ true → NumberFacts desk sheet seen
  unfolding fits numbers_fit number_fits
  number_facts e =
      let a = and_cases (leb (seen_size (classes_of desk)) (length seen)) _ (and_cases (cross_fits desk) _ (and_cases (graph_fits desk sheet) _ e).1).1 in
      record { long = leb-true _ _ a.0; numbered = λ j l. beq_same _ _ (all_at (sheet_size (classes_of desk)) (number_fits sheet seen) a.1 j l) }

  pub fits_of : Facts desk sheet → CrossFacts desk → NumberFacts desk sheet seen → fits desk sheet seen ≡ true
  unfolding fits numbers_fit number_fits
  fits_of f x n =
      and_both (graph_fits_lem desk sheet f)
      (and_both (cross_fits_lem desk x)
      (and_both (le-leb _ _ n.long)
      (all_of (sheet_size (classes_of desk)) (number_fits sheet seen) (λ j l. rw (n.numbered j l) (same_beq (eqb (get_or sheet j 0) 0))))))
