-- The fit test of a feed, condition by condition. Assumes nothing.
use mathlib.Core.Path.{◌≡◌, refl, sym, ap, ◌∙◌}
use mathlib.Core.Bool.{Bool, true, false, cond, not, ◌&&◌, ◌||◌, and-false, or-true}
use mathlib.Core.List.{List}
use Prim.Native.Nat.{ℕ, ◌+◌, ◌-◌, ◌≤◌, ◌<◌}
use native.Mathlib.Decide.{dec_lt}
use native.Mathlib.Omega.{arith}
use lib.Dec.{leb, ltb, eqb}
use lib.ListN.{length, get_or, take, drop, length-drop}
use lib.Seq.{get_or-take, get_or-drop, length-take-le}
use Rattle.std.proofs.Common.{MatchBool}
use Rattle.std.specs.List.{AllWithin, HoldsAt}
use borrow.Author.Tests.{eq-eqb, ne_eqb, lt-ltb, le-ltb, le-leb, lt-leb, ltb-true, leb-true, eqb-true}
use Rattle.rules.proofs.Booleans.{and_cases}
use Rattle.rules.specs.Log.{unit_size}
use Rattle.layout.specs.Fit.{all_below}
use Rattle.layout.proofs.AllBelow.{all_at, all_of}
use Rattle.progress.specs.Feed.{Feed, most_loose, opened_at, count_at, loose_at, number_at, feed_size, view, any_of, is_step_answer, stands_with, well_formed, unused_zero, fits}

-- ---- The step's answers.

low : all_below 12 (λ a. eqb a 2 || is_step_answer a) ≡ true
unfolding all_below is_step_answer any_of
low = refl

-- All numbers up to 11 but 2.
pub low_answer : (a : ℕ) → (a ≡ 2 → ⊥) → a ≤ 11 → true ≡ is_step_answer a
low_answer a n l = sym (rw (ne_eqb a 2 n) at (all_at 12 (λ b. eqb b 2 || is_step_answer b) low a (omega arith)))

agree : (a b : Bool) → cond a b (not b) ≡ true → a ≡ b
agree true b e = sym e
agree false false e = refl
agree false true e = e

high : all_below 20 (λ a. leb a 11 || cond (leb 15 a && leb a 19) (is_step_answer a) (not (is_step_answer a))) ≡ true
unfolding all_below is_step_answer any_of
high = refl

none_above : (a : ℕ) → 19 < a → is_step_answer a ≡ false
unfolding is_step_answer any_of
none_above a h =
    simp (
      lt-leb a 1 (omega arith),
      ne_eqb a 11 (omega arith),
      ne_eqb a 10 (omega arith),
      ne_eqb a 3 (omega arith),
      ne_eqb a 4 (omega arith),
      ne_eqb a 15 (omega arith),
      ne_eqb a 6 (omega arith),
      ne_eqb a 7 (omega arith),
      ne_eqb a 5 (omega arith),
      ne_eqb a 8 (omega arith),
      ne_eqb a 16 (omega arith),
      ne_eqb a 17 (omega arith),
      ne_eqb a 18 (omega arith),
      ne_eqb a 19 (omega arith),
      ne_eqb a 9 (omega arith),
    )

-- Past 11 those of 15 to 19.
pub high_answer : (a : ℕ) → 11 < a → (leb 15 a && leb a 19) ≡ is_step_answer a
high_answer a h =
    elim (dec_lt 19 a) [
      | yes l ↦ simp (lt-leb a 19 l, none_above a l, and-false)
      | no l ↦ agree (leb 15 a && leb a 19) (is_step_answer a) (
          rw (lt-leb a 11 h) at (all_at 20 (λ b. leb b 11 || cond (leb 15 b && leb b 19) (is_step_answer b) (not (is_step_answer b))) high a (omega arith))
          )
    ]

module _ (a : ℕ) where
  pub two : a ≡ 2 → false ≡ is_step_answer a
  unfolding is_step_answer any_of
  two e = rw e refl

  -- Past 11 by their places.
  pub below_late : 11 < a → a < 15 → false ≡ is_step_answer a
  below_late h k = rw (lt-leb 15 a k) at (high_answer a h)

  pub late : 15 ≤ a → a ≤ 19 → true ≡ is_step_answer a
  late h k = rw (le-leb 15 a h, le-leb a 19 k) at (high_answer a (omega arith))

  pub past_late : 19 < a → false ≡ is_step_answer a
  past_late h = sym (none_above a h)

-- ---- A feed that can be, where it has `count` loose bytes.

module _ (f : Feed) (count : ℕ) (l : length f.loose ≡ count) where
  module _ (few : count < unit_size f.opened f.loose) where
    pub going_on : f.answer ≡ 0 → stands_with f.opened f.answer f.number ≡ well_formed f
    unfolding well_formed
    going_on e = rw (l, lt-ltb count (unit_size f.opened f.loose) few, eq-eqb f.answer 0 e) refl

    pub at_unit : (f.answer ≡ 0 → ⊥) → count ≡ 0 → stands_with f.opened f.answer f.number ≡ well_formed f
    unfolding well_formed
    at_unit n e = rw (l, lt-ltb count (unit_size f.opened f.loose) few, ne_eqb f.answer 0 n, eq-eqb count 0 e) refl

-- ---- The bytes.

pub used_zero : (feed : List ℕ) (j : ℕ) → j < get_or feed count_at 0 → unused_zero feed j ≡ true
used_zero feed j h = rw (lt-ltb j (get_or feed count_at 0) h) refl

pub is_zero : (feed : List ℕ) (j : ℕ) → get_or feed (loose_at + j) 0 ≡ 0 → unused_zero feed j ≡ true
is_zero feed j e = simp (eq-eqb (get_or feed (loose_at + j) 0) 0 e, or-true)

pub not_zero : (feed : List ℕ) (j : ℕ) → get_or feed count_at 0 ≤ j → j < most_loose → (get_or feed (loose_at + j) 0 ≡ 0 → ⊥) → false ≡ all_below most_loose (unused_zero feed)
not_zero feed j h k n = by (all_below most_loose (unused_zero feed)) refl
  where
    by : (t : Bool) → all_below most_loose (unused_zero feed) ≡ t → false ≡ t
    by false e = refl
    by true e = sym (rw (le-ltb j (get_or feed count_at 0) h, ne_eqb (get_or feed (loose_at + j) 0) 0 n) refl) ∙ all_at most_loose (unused_zero feed) e j k

-- What the search for another byte than 0 behind the loose ones finds.
module _ (feed : List ℕ) (long : feed_size ≤ length feed) (few : get_or feed count_at 0 ≤ most_loose) where
  abbrev pub behind : List ℕ
  behind = take (number_at - (loose_at + get_or feed count_at 0)) (drop (loose_at + get_or feed count_at 0) feed)

  behind_length : length behind ≡ most_loose - get_or feed count_at 0
  behind_length = length-take-le (number_at - (loose_at + get_or feed count_at 0)) (drop (loose_at + get_or feed count_at 0) feed) (simp length-drop (omega arith)) ∙ omega arith

  behind_at : (k : ℕ) → k < length behind → get_or behind k 0 ≡ get_or feed (loose_at + (get_or feed count_at 0 + k)) 0
  behind_at k h =
      get_or-take (number_at - (loose_at + get_or feed count_at 0)) (drop (loose_at + get_or feed count_at 0) feed) k 0 (omega (arith, h, behind_length))
      ∙ get_or-drop (loose_at + get_or feed count_at 0) feed k 0 ∙ ap (λ (i : ℕ). get_or feed i 0) (omega arith)

  pub zeros_behind : (r : Bool) → MatchBool r (AllWithin (λ b. b ≡ 0) behind 0 (length behind)) ((k : ℕ) × (k < length behind) × HoldsAt (λ b. b ≡ 0 → ⊥) behind k)
      → r ≡ all_below most_loose (unused_zero feed)
  zeros_behind true h =
      sym (all_of most_loose (unused_zero feed) (λ j l. elim (dec_lt j (get_or feed count_at 0)) [
        | yes q ↦ used_zero feed j q
        | no q ↦
            let k = j - get_or feed count_at 0 in
            let i : k < length behind = omega (arith, behind_length) in
            is_zero feed j (ap (λ (n : ℕ). get_or feed (loose_at + n) 0) (omega arith) ∙ sym (behind_at k i) ∙ h k 0 (omega arith) i)
      ]))
  zeros_behind false h =
      not_zero feed (get_or feed count_at 0 + h.0) (omega arith) (omega (arith, h.1, behind_length)) (λ e. h.2 0 (behind_at h.0 h.1 ∙ e))

-- What a fit buffer has.
pub record FitFacts (feed : List ℕ) : Type 0 where
  pub long : feed_size ≤ length feed
  pub bit : get_or feed opened_at 0 ≤ 1
  pub few : get_or feed count_at 0 ≤ most_loose
  pub unused : (j : ℕ) → j < most_loose → get_or feed count_at 0 ≤ j → get_or feed (loose_at + j) 0 ≡ 0
  pub formed : well_formed (view feed) ≡ true

pub fit_facts : (feed : List ℕ) → fits feed ≡ true → FitFacts feed
unfolding fits
fit_facts feed e =
    let p = and_cases (leb feed_size (length feed)) _ e in
    let q = and_cases (leb (get_or feed opened_at 0) 1) _ p.1 in
    let r = and_cases (leb (get_or feed count_at 0) most_loose) _ q.1 in
    let s = and_cases (all_below most_loose (unused_zero feed)) _ r.1 in
    record {
      long = leb-true feed_size (length feed) p.0;
      bit = leb-true (get_or feed opened_at 0) 1 q.0;
      few = leb-true (get_or feed count_at 0) most_loose r.0;
      unused = λ j h k. eqb-true (get_or feed (loose_at + j) 0) 0 (rw (le-ltb j (get_or feed count_at 0) k) at (all_at most_loose (unused_zero feed) s.0 j h));
      formed = s.1;
    }

pub formed_loose : (f : Feed) → well_formed f ≡ true → length f.loose < unit_size f.opened f.loose
unfolding well_formed
formed_loose f e = ltb-true (length f.loose) (unit_size f.opened f.loose) (and_cases (ltb (length f.loose) (unit_size f.opened f.loose)) _ e).0
