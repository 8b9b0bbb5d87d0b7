-- What each exit of the functions of a unit comes to. Assumes nothing.
use mathlib.Core.Path.{◌≡◌, refl, sym, ap, subst, ◌∙◌}
use mathlib.Core.Bool.{Bool, true, false, ◌&&◌}
use mathlib.Core.List.{List, [], ◌∷◌, ◌++◌}
use Prim.Native.Nat.{ℕ, ◌+◌, ◌-◌, ◌^◌, ◌≤◌, ◌<◌}
use native.Mathlib.Numerals.{add-one}
use native.Mathlib.Omega.{arith}
use lib.Dec.{eqb}
use lib.ListN.{length, take, length-take, length-append}
use borrow.Author.Tests.{lt-ltb, le-ltb, eqb-true}
use Rattle.rules.proofs.Booleans.{and_cases}
use Rattle.rules.specs.Record.{record_size}
use Rattle.rules.specs.Log.{unit_size, header_classes, header_word}
use Rattle.opening.specs.Open.{Opened}
use Rattle.validator.specs.Calls.{Buffers, Called}
use Rattle.progress.specs.declared.Progress.{Progress}
use Rattle.progress.specs.Feed.{Feed, longest, unit_begun, with_part}
use Rattle.progress.specs.Code.{feed_of, Counted}
use Rattle.progress.proofs.UnitSizes.{unit_most, unit_grows}
use Rattle.unit.specs.Units.{more, UnitValidated, header, a_record}
use Rattle.unit.specs.Parts.{PartTaken, not_yet, complete}

-- ---- The number.

pub one_counted : (n : ℕ) → n < 2 ^ 64 - 1 → n + 1 ≡ more n
unfolding more
one_counted n h = simp (lt-ltb n (2 ^ 64 - 1) h, add-one)

pub stays_counted : (n : ℕ) → 2 ^ 64 - 1 ≤ n → n ≡ more n
unfolding more
stays_counted n h = simp (le-ltb n (2 ^ 64 - 1) h)

pub counted_none : (p : Progress) → p.count ≡ 0 → Counted p
counted_none p e = rw e refl

-- ---- A unit.

module _ {opened : Bool} {number answer : ℕ} {b b' : Buffers} {unit : List ℕ} (f : Feed) where
  pub is_record : (n : ℕ) → opened ≡ true → Called b unit answer b' → n ≡ more number → f ≡ unit_begun answer true n
      → UnitValidated opened number b unit f b'
  is_record n o t e q = rw (q, e) (a_record o t)

  pub is_header_lem : (K declared : ℕ) → opened ≡ false → K ≡ header_classes unit → declared ≡ header_word unit
      → Opened K declared b.desk b.sheet b.seen b.history answer b'.desk b'.sheet b'.seen b'.history → b'.slip ≡ b.slip
      → f ≡ unit_begun answer (eqb answer 0) number → UnitValidated opened number b unit f b'
  is_header_lem K declared o k d p s q =
      rw q
      (header o
      (subst (λ (n : ℕ). Opened n (header_word unit) b.desk b.sheet b.seen b.history answer b'.desk b'.sheet b'.seen b'.history) k
      (subst (λ (n : ℕ). Opened K n b.desk b.sheet b.seen b.history answer b'.desk b'.sheet b'.seen b'.history) d p)) s)

-- ---- A part of a piece.

nothing_in : (l : List ℕ) → length l ≤ 0 → l ≡ []
nothing_in [] h = refl
nothing_in (x ∷ l) h = absurd (omega arith)

module _ (p : Progress) (part : List ℕ) (k : Counted p) (h : p.count + length part ≤ unit_size p.opened (feed_of p).loose) where
  -- A whole record.
  pub whole_part : {f' : Feed} {b b' : Buffers} → (p.opened && eqb (length part) record_size) ≡ true → UnitValidated true p.number b part f' b'
      → PartTaken (feed_of p) b part f' b'
  whole_part {f'} {b} {b'} t j =
      let q = and_cases p.opened (eqb (length part) record_size) t in
      let e = eqb-true (length part) record_size q.1 in
      let u : unit_size p.opened (feed_of p).loose ≡ record_size = rw q.0 refl in
      let z : (feed_of p).loose ++ part ≡ part = ap (λ (l : List ℕ). l ++ part) (nothing_in (feed_of p).loose (omega arith)) in
      complete {f' = f'} {b' = b'} (rw (z, q.0) e) (rw (z, q.0) j)

  module _ (next : Progress) (q : feed_of next ≡ with_part (feed_of p) part) (c : next.count ≡ p.count + length part) where
    longer : length ((feed_of p).loose ++ part) ≡ next.count
    longer = length-append (feed_of p).loose part ∙ omega arith

    -- The unit as it stands with the part.
    size_now : unit_size next.opened (feed_of next).loose ≡ unit_size p.opened ((feed_of p).loose ++ part)
    size_now = ap (λ (f : Feed). unit_size f.opened f.loose) q

    not_over : next.count ≤ unit_size next.opened (feed_of next).loose
    not_over = rw size_now (let g = unit_grows p.opened (feed_of p).loose part in omega arith)

    pub at_most : next.count ≤ longest
    at_most = let n = not_over in let m = unit_most next.opened (feed_of next).loose in omega arith

    pub counted_part : Counted next
    counted_part = sym (ap (λ (f : Feed). length f.loose) q ∙ longer)

    pub part_kept : (b : Buffers) → next.count < unit_size next.opened (feed_of next).loose → PartTaken (feed_of p) b part (feed_of next) b
    part_kept b s = rw q (not_yet (rw (longer, ← size_now) s))

    pub part_completes : {f' : Feed} {b b' : Buffers} → unit_size next.opened (feed_of next).loose ≤ next.count
        → UnitValidated p.opened p.number b (feed_of next).loose f' b' → PartTaken (feed_of p) b part f' b'
    part_completes {f'} {b} {b'} s j =
        let n = not_over in
        let e : next.count ≡ unit_size next.opened (feed_of next).loose = omega arith in
        complete (longer ∙ e ∙ size_now) (subst (λ (l : List ℕ). UnitValidated p.opened p.number b l f' b') (ap (λ (f : Feed). f.loose) q) j)

-- The loose bytes stand in the array.
pub counted_within : (p : Progress) → Counted p → p.count ≤ length p.loose
counted_within p k = omega (arith, length-take p.count p.loose)
