-- There is a least cycle exactly when there is a closed strong path, there is one only, and `least_cycle` is it. Assumes nothing.
use mathlib.Core.Path.{◌≡◌, refl, sym, ap, ◌∙◌, subst}
use mathlib.Core.Bool.{Bool, true, false, cond, not, ◌&&◌, false≢true}
use mathlib.Core.List.{List, [], ◌∷◌}
use mathlib.Core.Logic.{◌↔◌}
use mathlib.Core.Option.{Option, none, some}
use Prim.Native.Nat.{ℕ, zero, suc, ◌+◌, ◌*◌, ◌<◌, ◌≤◌}
use native.Mathlib.Omega.{arith}
use native.Mathlib.Decide.{ℕ_discrete, dec_lt}
use lib.Dec.{ltb, eqb}
use lib.ListN.{length}
use borrow.Author.Tests.{lt-ltb, ltb-true, eqb-false, ne_eqb, not-true}
use Rattle.rules.specs.Graph.{Graph, dependency_by}
use Rattle.rules.specs.StrongPath.{strong_joint, ClosedStrongPath}
use Rattle.rules.specs.Cycle.{Entry, entry_at, following, Cycle}
use Rattle.rules.specs.LeastCycle.{triples, NotAfter, ends, before, same, LeastCycle}
use Rattle.rules.specs.Ranks.{rank_count, entry_number, numbered}
use Rattle.rules.specs.CycleDecision.{all_below, cycle_at, is_cycle, or_else, put_first, first_from, first_list, least_cycle}
use Rattle.rules.proofs.Booleans.{and_cases, and_both}
use Rattle.rules.proofs.Cycles.{cycle_sound}
use Rattle.rules.proofs.CycleExists.{cycle_exists}
use Rattle.rules.proofs.Ranks.{rank_less, number_entry, entry_number_lem, number_before, same_entry, same_triples}

-- ---- One only.

both_ways : (xs ys : List ℕ) → length xs ≡ length ys → NotAfter xs ys → NotAfter ys xs → xs ≡ ys
both_ways [] [] l a b = refl
both_ways [] (y ∷ ys) l a b = absurd (omega arith)
both_ways (x ∷ xs) [] l a b = absurd (omega arith)
both_ways (x ∷ xs) (y ∷ ys) l (before p) (before q) = absurd (omega arith)
both_ways (x ∷ xs) (y ∷ ys) l (before p) (same q b) = absurd (omega arith)
both_ways (x ∷ xs) (y ∷ ys) l (same p a) (before q) = absurd (omega arith)
both_ways (x ∷ xs) (y ∷ ys) l (same p a) (same q b) = rw (p, both_ways xs ys (omega arith) a b) refl

length_triples : (es fs : List Entry) → length es ≡ length fs → length (triples es) ≡ length (triples fs)
length_triples [] [] l = refl
length_triples [] (f ∷ fs) l = absurd (omega arith)
length_triples (e ∷ es) [] l = absurd (omega arith)
length_triples (e ∷ es) (f ∷ fs) l = let h = length_triples es fs (omega arith) in omega arith

pub least_one : {K : ℕ} {g : Graph} {es fs : List Entry} → LeastCycle K g es → LeastCycle K g fs → es ≡ fs
least_one {es = es} {fs = fs} l m =
    let q : length es ≡ length fs = omega (arith, l.fewest fs m.cycle, m.fewest es l.cycle) in
    same_triples es fs (both_ways (triples es) (triples fs) (length_triples es fs q) (l.first fs m.cycle (sym q)) (m.first es l.cycle q))

-- ---- The test of a cycle.

all_below_lem : (n : ℕ) (test : ℕ → Bool) → all_below n test ≡ true → (i : ℕ) → i < n → test i ≡ true
all_below_lem zero test h i l = absurd (omega arith)
all_below_lem (suc n) test h i l =
    let p = and_cases (test n) (all_below n test) h in
    elim (ℕ_discrete i n) [ yes e ↦ rw e p.0 | no e ↦ all_below_lem n test p.1 i (omega arith) ]

below_all : (n : ℕ) (test : ℕ → Bool) → ((i : ℕ) → i < n → test i ≡ true) → all_below n test ≡ true
below_all zero test h = refl
below_all (suc n) test h = and_both (h n (omega arith)) (below_all n test (λ i l. h i (omega arith)))

module _ (K : ℕ) (g : Graph) (es : List Entry) where
  pub cycle_of : is_cycle K g es ≡ true → Cycle K g es
  unfolding is_cycle
  cycle_of h =
      record {
        not_empty = ltb-true 0 (length es) a.0;
        at_most = omega (arith, ltb-true (length es) (suc K) b.0);
        in_range = λ i l. ltb-true (entry_at es i).class K (at i l).2;
        drawn = λ i l. (at i l).0;
        strong = λ i l. record { strong = (at i l).1 };
        once = λ i j l m. eqb-false (entry_at es i).class (entry_at es j).class (not-true _ (all_below_lem j _ (at j m).4 i l));
        lowest_first = λ i l. omega (arith, ltb-true (entry_at es 0).class (suc (entry_at es i).class) (at i l).3);
      }
    where
      a : (ltb 0 (length es) ≡ true) × ((ltb (length es) (suc K) && all_below (length es) (cycle_at K g es)) ≡ true)
      a = and_cases (ltb 0 (length es)) _ h

      b : (ltb (length es) (suc K) ≡ true) × (all_below (length es) (cycle_at K g es) ≡ true)
      b = and_cases (ltb (length es) (suc K)) _ a.1

      at : (i : ℕ) → i < length es → (dependency_by (entry_at es i).source g (entry_at es i).class (following es i).class (entry_at es i).kind ≡ true)
          × (strong_joint (entry_at es i).kind.second (following es i).kind.first ≡ true) × (ltb (entry_at es i).class K ≡ true)
          × (ltb (entry_at es 0).class (suc (entry_at es i).class) ≡ true) × (all_below i (λ j. not (eqb (entry_at es j).class (entry_at es i).class)) ≡ true)
      at i l =
          let d = and_cases _ _ (all_below_lem (length es) (cycle_at K g es) b.1 i l) in
          let j = and_cases _ _ d.1 in
          let r = and_cases _ _ j.1 in
          let o = and_cases _ _ r.1 in
          (d.0, j.0, r.0, o.0, o.1)

  pub is_cycle_lem : Cycle K g es → is_cycle K g es ≡ true
  unfolding is_cycle
  is_cycle_lem c =
      and_both (lt-ltb 0 (length es) c.not_empty)
      (and_both (lt-ltb (length es) (suc K) (omega (arith, c.at_most)))
      (below_all (length es) (cycle_at K g es)
      (λ i l. and_both (c.drawn i l)
      (and_both (c.strong i l).strong
      (and_both (lt-ltb (entry_at es i).class K (c.in_range i l))
      (and_both (lt-ltb (entry_at es 0).class (suc (entry_at es i).class) (omega (arith, c.lowest_first i l)))
      (below_all i _ (λ j m. rw (ne_eqb (entry_at es j).class (entry_at es i).class (c.once j i m l)) refl))))))))

-- ---- The first list that passes a test.

record Before (try : ℕ → Option (List Entry)) (i n : ℕ) (es : List Entry) : Type 0 where
  at : ℕ
  from : i ≤ at
  less : at < i + n
  gives : try at ≡ some es
  none_before : (j : ℕ) → i ≤ j → j < at → try j ≡ none

abbrev First : (ℕ → Option (List Entry)) → ℕ → ℕ → Option (List Entry) → Type 0
First try i n none = (j : ℕ) → i ≤ j → j < i + n → try j ≡ none
First try i n (some es) = Before try i n es

first_from_lem : (n i : ℕ) (try : ℕ → Option (List Entry)) → First try i n (first_from n i try)
first_from_lem zero i try = λ j l m. absurd (omega arith)
first_from_lem (suc n) i try = by (try i) refl (first_from_lem n (suc i) try)
  where
    later : (f : Option (List Entry)) → try i ≡ none → First try (suc i) n f → First try i (suc n) f
    later none q h = λ j l m. elim (ℕ_discrete j i) [ yes e ↦ rw e q | no e ↦ h j (omega arith) (omega arith) ]
    later (some es) q h =
        record {
          at = h.at;
          from = omega (arith, h.from);
          less = omega (arith, h.less);
          gives = h.gives;
          none_before = λ j l m. elim (ℕ_discrete j i) [ yes e ↦ rw e q | no e ↦ h.none_before j (omega arith) m ];
        }

    by : (f : Option (List Entry)) → try i ≡ f → First try (suc i) n (first_from n (suc i) try) → First try i (suc n) (or_else f (first_from n (suc i) try))
    by none q h = later (first_from n (suc i) try) q h
    by (some es) q h = record { at = i; from = omega arith; less = omega arith; gives = q; none_before = λ j l m. absurd (omega arith) }

-- The list is of n entries of classes below K, and passes.
record Passes (K n : ℕ) (test : List Entry → Bool) (es : List Entry) : Type 0 where
  long : length es ≡ n
  in_range : (i : ℕ) → i < length es → (entry_at es i).class < K
  passes : test es ≡ true

record FirstOf (K n : ℕ) (test : List Entry → Bool) (es : List Entry) : Type 0 where
  itself : Passes K n test es
  first : (fs : List Entry) → Passes K n test fs → NotAfter (triples es) (triples fs)

abbrev Right : ℕ → ℕ → (List Entry → Bool) → Option (List Entry) → Type 0
Right K n test none = (fs : List Entry) → Passes K n test fs → ⊥
Right K n test (some es) = FirstOf K n test es

same_list : {es fs : List Entry} → some es ≡ some fs → es ≡ fs
same_list q = ap (λ (f : Option (List Entry)). elim f [ none ↦ [] | some es ↦ es ]) q

some_not_none : {es : List Entry} → some es ≡ none → ⊥
some_not_none q = let z : ◌≡◌ {A = ℕ} 1 0 = ap (λ (f : Option (List Entry)). elim f [ none ↦ 0 | some es ↦ 1 ]) q in omega arith

-- Lists of one entry more: `sub i` is the first of those that go on from the entry of number i.
module _ (K n : ℕ) (test : List Entry → Bool) (sub : ℕ → Option (List Entry)) (right : (i : ℕ) → Right K n (λ es. test (numbered i ∷ es)) (sub i)) where
  abbrev try : ℕ → Option (List Entry)
  try i = put_first (numbered i) (sub i)

  number_less : (f : Entry) → f.class < K → entry_number f < rank_count * K
  number_less f l = omega (arith, rank_less f.kind f.source)

  head_in_range : (f : Entry) (fs : List Entry) → Passes K (suc n) test (f ∷ fs) → f.class < K
  head_in_range f fs p = p.in_range 0 (omega arith)

  tail_passes : (f : Entry) (fs : List Entry) → Passes K (suc n) test (f ∷ fs) → (i : ℕ) → numbered i ≡ f → Passes K n (λ es. test (numbered i ∷ es)) fs
  tail_passes f fs p i q =
      record { long = omega (arith, p.long); in_range = λ j l. p.in_range (suc j) (omega arith); passes = subst (λ (e : Entry). test (e ∷ fs) ≡ true) (sym q) p.passes }

  -- Where nothing is some no list passes.
  none_passes : (i : ℕ) → try i ≡ none → (fs : List Entry) → Passes K n (λ es. test (numbered i ∷ es)) fs → ⊥
  none_passes i q fs p = by (sub i) (right i) q
    where
      by : (f : Option (List Entry)) → Right K n (λ es. test (numbered i ∷ es)) f → put_first (numbered i) f ≡ none → ⊥
      by none r z = r fs p
      by (some es) r z = some_not_none z

  with_first : (i : ℕ) (es : List Entry) → i < rank_count * K → FirstOf K n (λ es. test (numbered i ∷ es)) es → ((j : ℕ) → j < i → try j ≡ none)
      → FirstOf K (suc n) test (numbered i ∷ es)
  with_first i es l r before_i = record { itself = record { long = ap suc r.itself.long; in_range = in_range; passes = r.itself.passes }; first = first }
    where
      in_range : (j : ℕ) → j < suc (length es) → (entry_at (numbered i ∷ es) j).class < K
      in_range zero m = omega arith
      in_range (suc j) m = r.itself.in_range j (omega arith)

      first : (fs : List Entry) → Passes K (suc n) test fs → NotAfter (triples (numbered i ∷ es)) (triples fs)
      first [] p = absurd (omega (arith, p.long))
      first (f ∷ fs) p = elim (dec_lt (entry_number f) i) [
        | yes k ↦ absurd (none_passes (entry_number f) (before_i (entry_number f) k) fs (tail_passes f fs p (entry_number f) (number_entry f)))
        | no k ↦ elim (ℕ_discrete (entry_number f) i) [
          | yes q ↦ let e : numbered i ≡ f = ap numbered (sym q) ∙ number_entry f in same_entry es fs e (r.first fs (tail_passes f fs p i e))
          | no q ↦ number_before (numbered i) f es fs (omega (arith, entry_number_lem i))
        ]
      ]

  one_more : (f : Option (List Entry)) → First try 0 (rank_count * K) f → Right K (suc n) test f
  one_more none h = λ fs. no_list fs
    where
      no_list : (fs : List Entry) → Passes K (suc n) test fs → ⊥
      no_list [] p = absurd (omega (arith, p.long))
      no_list (f ∷ fs) p =
          none_passes (entry_number f) (h (entry_number f) (omega arith) (omega (arith, number_less f (head_in_range f fs p)))) fs
          (tail_passes f fs p (entry_number f) (number_entry f))
  one_more (some es) h = by (sub h.at) (right h.at) h.gives
    where
      by : (f : Option (List Entry)) → Right K n (λ es. test (numbered h.at ∷ es)) f → put_first (numbered h.at) f ≡ some es → FirstOf K (suc n) test es
      by none r q = absurd (some_not_none (sym q))
      by (some fs) r q =
          subst (λ (o : List Entry). FirstOf K (suc n) test o) (same_list q)
          (with_first h.at fs (omega (arith, h.less)) r (λ j l. h.none_before j (omega arith) l))

first_list_lem : (K n : ℕ) (test : List Entry → Bool) → Right K n test (first_list K n test)
first_list_lem K zero test = by (test []) refl
  where
    no_list : test [] ≡ false → (fs : List Entry) → Passes K zero test fs → ⊥
    no_list q [] p = false≢true (sym q ∙ p.passes)
    no_list q (f ∷ fs) p = absurd (omega (arith, p.long))

    by : (b : Bool) → test [] ≡ b → Right K zero test (cond b (some []) none)
    by true q = record { itself = record { long = refl; in_range = λ i l. absurd (omega arith); passes = q }; first = λ fs p. ends }
    by false q = no_list q
first_list_lem K (suc n) test =
    one_more K n test (λ i. first_list K n (λ es. test (numbered i ∷ es))) (λ i. first_list_lem K n (λ es. test (numbered i ∷ es)))
    (first_list K (suc n) test) (first_from_lem (rank_count * K) 0 (λ i. put_first (numbered i) (first_list K n (λ es. test (numbered i ∷ es)))))

-- ---- The least cycle.

module _ (K : ℕ) (g : Graph) where
  abbrev cycles : ℕ → Option (List Entry)
  cycles n = first_list K n (is_cycle K g)

  as_passes : (es : List Entry) → Cycle K g es → (n : ℕ) → length es ≡ n → Passes K n (is_cycle K g) es
  as_passes es c n q = record { long = q; in_range = c.in_range; passes = is_cycle_lem K g es c }

  none_of : (n : ℕ) → cycles n ≡ none → (es : List Entry) → Cycle K g es → length es ≡ n → ⊥
  none_of n q es c l = subst (λ (f : Option (List Entry)). Right K n (is_cycle K g) f) q (first_list_lem K n (is_cycle K g)) es (as_passes es c n l)

  abbrev Least : Option (List Entry) → Type 0
  Least none = (es : List Entry) → Cycle K g es → ⊥
  Least (some es) = LeastCycle K g es

  least : (f : Option (List Entry)) → First cycles 1 K f → Least f
  least none h = λ es c. none_of (length es) (h (length es) c.not_empty (omega (arith, c.at_most))) es c refl
  least (some es) h =
      let r = subst (λ (f : Option (List Entry)). Right K h.at (is_cycle K g) f) h.gives (first_list_lem K h.at (is_cycle K g)) in
      record {
        cycle = cycle_of K g es r.itself.passes;
        fewest = λ fs c. elim (dec_lt (length fs) (length es)) [
          | yes l ↦ absurd (none_of (length fs) (h.none_before (length fs) c.not_empty (omega (arith, r.itself.long))) fs c refl)
          | no l ↦ omega arith
        ];
        first = λ fs c q. r.first fs (as_passes fs c h.at (q ∙ r.itself.long));
      }

  is_least : Least (least_cycle K g)
  unfolding least_cycle
  is_least = least (least_cycle K g) (first_from_lem K 1 cycles)

-- What is worked out is the least cycle.
pub found_least : {K : ℕ} {g : Graph} {es : List Entry} → least_cycle K g ≡ some es → LeastCycle K g es
found_least {K} {g} q = subst (λ (f : Option (List Entry)). Least K g f) q (is_least K g)

pub least_exists : {K : ℕ} {g : Graph} → ClosedStrongPath K g → (es : List Entry) × LeastCycle K g es
least_exists {K} {g} p = by (least_cycle K g) refl
  where
    by : (f : Option (List Entry)) → least_cycle K g ≡ f → (es : List Entry) × LeastCycle K g es
    by none q = let c = cycle_exists p in absurd (subst (λ (f : Option (List Entry)). Least K g f) q (is_least K g) c.0 c.1)
    by (some es) q = (es, found_least q)

pub least_exactly : {K : ℕ} {g : Graph} → ClosedStrongPath K g ↔ ((es : List Entry) × LeastCycle K g es)
least_exactly = (least_exists, λ l. cycle_sound l.1.cycle)
