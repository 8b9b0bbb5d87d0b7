-- The order of the merge does not matter. The run that never closes ("flow") ends in the same state for both lists, since neighbours of different cores may
-- change places; and the true run stays open and equals it, or closes, exactly by whether its last graph has a cycle. Assumes nothing.
use mathlib.Core.Path.{◌≡◌, refl, sym, ◌∙◌, ap, ap₂, subst}
use mathlib.Core.Bool.{Bool, true, false, cond, ◌&&◌, ◌||◌, and-false, false≢true}
use mathlib.Core.List.{List, [], ◌∷◌, Memᴰ, nil≢cons, head-eq_of_cons-eq, tail-eq_of_cons-eq}
use mathlib.Core.Option.{Option, none, some}
use mathlib.Core.Logic.{◌⊎◌, inl, inr, ⊎_elim}
use Prim.Native.Nat.{ℕ, suc, zero-le}
use lib.Dec.{eqb, leb, ltb}
use borrow.Author.Tests.{eqb-true, eqb-false, eq-eqb, ne_eqb}
use Rattle.rules.specs.Limits.{max_accepted}
use Rattle.rules.specs.Record.{Bytes, Event, acquire, release, interrupt, cross_acquire, commit, cross_release, core_of, event_of, is_malformed, is_cross}
use Rattle.rules.specs.Context.{leaves_handler}
use Rattle.rules.specs.HeldLocks.{Core, after_event}
use Rattle.rules.specs.Marks.{marks_of}
use Rattle.rules.specs.Graph.{Kind, Graph, Dependencies, empty_graph, dependency}
use Rattle.rules.specs.Crosslocks.{declaring, count_below, after_cross}
use Rattle.rules.specs.StrongPath.{StrongPath, one, more}
use Rattle.rules.specs.Decision.{cyclic}
use Rattle.rules.specs.Verdict.{Refusal, closed, malformed, no_class, wrong_sort, no_transition, still_held, not_held, too_deep, in_progress, not_in_progress, list_full, history_full, count_full, order, refusal_number, number, Situation, applies, first_that_applies, refusal}
use Rattle.rules.specs.Run.{State, situation, drawn_with, accept, Result, decided, step, answers, run}
use Rattle.rules.specs.Join.{joined_state, join}
use Rattle.rules.specs.TwoRuns.{Never}
use Rattle.rules.proofs.Decided.{cyclic_sound}
use Rattle.rules.proofs.Monotone.{Within, within_self, within_more, cyclic_mono}
use Rattle.rules.proofs.Steps.{StepCases, was_refused, was_clean, was_fault, stepped, closed_step, closed_exactly, accepted_passes}
use Rattle.merges.specs.Merge.{of_core, SameForEachCore, Ordinary, unnumbered, MergedAlike, to_core, AnsweredAlike}

-- ---- The count, which is not one core's, decides only over 9.

abbrev uncounted : Situation → Situation
uncounted s = record { is_closed = s.is_closed; classes = s.classes; core = s.core; cross = s.cross; accepted = 0; bytes = s.bytes }

count_aside : (s : Situation) (x : Refusal) → (applies x s ≡ applies x (uncounted s)) ⊎ (x ≡ count_full)
count_aside s closed = inl refl
count_aside s malformed = inl refl
count_aside s no_class = inl refl
count_aside s wrong_sort = inl refl
count_aside s no_transition = inl refl
count_aside s still_held = inl refl
count_aside s not_held = inl refl
count_aside s too_deep = inl refl
count_aside s in_progress = inl refl
count_aside s not_in_progress = inl refl
count_aside s list_full = inl refl
count_aside s history_full = inl refl
count_aside s count_full = inr refl

first_aside : (s : Situation) (rs : List Refusal) → (first_that_applies rs s ≡ first_that_applies rs (uncounted s)) ⊎ (first_that_applies rs s ≡ some count_full)
first_aside s [] = inl refl
first_aside s (x ∷ rs) = ⊎_elim (λ e. same (applies x s) refl e (first_aside s rs)) (λ e. full x e (leb max_accepted s.accepted) refl (first_aside s rs)) (count_aside s x)
  where
    Claim : List Refusal → Type 0
    Claim l = (first_that_applies l s ≡ first_that_applies l (uncounted s)) ⊎ (first_that_applies l s ≡ some count_full)

    same : (b : Bool) → applies x s ≡ b → applies x s ≡ applies x (uncounted s) → Claim rs → Claim (x ∷ rs)
    same true e q ih = inl (rw (e, sym q ∙ e))
    same false e q ih = rw (e, sym q ∙ e) ih

    full : (x : Refusal) → x ≡ count_full → (b : Bool) → leb max_accepted s.accepted ≡ b → Claim rs → Claim (x ∷ rs)
    full x q true e ih = rw q (inr (rw e))
    full x q false e ih = rw (q, e) ih

-- What the rules say of a record but for the count.
abbrev judged : ℕ → State → Bytes → Option Refusal
judged K s r = refusal (uncounted (situation K s r))

judged_so : (K : ℕ) (s : State) (r : Bytes) → (number (step K s r).answer ≡ 9 → ⊥) → refusal (situation K s r) ≡ judged K s r
unfolding refusal
judged_so K s r over =
    ⊎_elim (λ e. e) (λ e. absurd (over (rw e))) (first_aside (situation K s r) order)

-- ---- The run that never closes and has no first-seen numbers.

abbrev proceed_by : State → Bytes → Option Refusal → State
proceed_by s r (some x) = s
proceed_by s r none = unnumbered (accept s r)

abbrev proceed : ℕ → State → Bytes → State
proceed K s r = proceed_by s r (judged K s r)

abbrev flow : ℕ → State → List Bytes → State
flow K s [] = s
flow K s (r ∷ rs) = flow K (proceed K s r) rs

-- What it answers.
abbrev answer_by : Option Refusal → ℕ
answer_by (some x) = refusal_number x
answer_by none = 0

abbrev flow_answers : ℕ → State → List Bytes → List ℕ
flow_answers K s [] = []
flow_answers K s (r ∷ rs) = answer_by (judged K s r) ∷ flow_answers K (proceed K s r) rs

within_trans : {g h k : Graph} → Within g h → Within h k → Within g k
within_trans a b = record { locks = λ f t k x. b.locks f t k (a.locks f t k x); marks = λ c l u x. b.marks c l u (a.marks c l u x) }

flow_grows : (K : ℕ) (s : State) (rs : List Bytes) → Within s.graph (flow K s rs).graph
flow_grows K s [] = within_self s.graph
flow_grows K s (r ∷ rs) = within_trans (by (judged K s r)) (flow_grows K (proceed K s r) rs)
  where
    by : (x : Option Refusal) → Within s.graph (proceed_by s r x).graph
    by (some x) = within_self s.graph
    by none = within_more _ _ (within_self s.graph)

-- ---- The true run against it.

pub stays_closed : (K : ℕ) (s : State) (rs : List Bytes) → s.is_closed ≡ true → (run K s rs).is_closed ≡ true
stays_closed K s [] h = h
stays_closed K s (r ∷ rs) h = ap (λ (o : Result). (run K o.state rs).is_closed) (closed_step K s r h) ∙ stays_closed K s rs h

-- What a run of an open state comes to.
data Ran (K : ℕ) (s : State) (rs : List Bytes) : Type 0 where
  stays : (run K s rs).is_closed ≡ false → unnumbered (run K s rs) ≡ flow K (unnumbered s) rs → answers K s rs ≡ flow_answers K (unnumbered s) rs
      → cyclic K (flow K (unnumbered s) rs).graph ≡ false → Ran K s rs
  closes : (run K s rs).is_closed ≡ true → cyclic K (flow K (unnumbered s) rs).graph ≡ true → Ran K s rs

-- Both go on from the same state.
goes_on : {K : ℕ} {s : State} {r : Bytes} {rs : List Bytes} {o : Result} → step K s r ≡ o → proceed K (unnumbered s) r ≡ unnumbered o.state
    → number o.answer ≡ answer_by (judged K s r) → Ran K o.state rs → Ran K s (r ∷ rs)
goes_on {K} {rs = rs} q b c (stays u v given w) =
    stays (ap (λ (o : Result). (run K o.state rs).is_closed) q ∙ u)
    (ap (λ (o : Result). unnumbered (run K o.state rs)) q ∙ v ∙ sym (ap (λ (t : State). flow K t rs) b))
    (ap (λ (o : Result). number o.answer ∷ answers K o.state rs) q ∙ ap₂ ◌∷◌ c (given ∙ sym (ap (λ (t : State). flow_answers K t rs) b)))
    (ap (λ (t : State). cyclic K (flow K t rs).graph) b ∙ w)
goes_on {K} {rs = rs} q b c (closes u w) =
    closes (ap (λ (o : Result). (run K o.state rs).is_closed) q ∙ u) (ap (λ (t : State). cyclic K (flow K t rs).graph) b ∙ w)

ran_step : {K : ℕ} {s : State} {r : Bytes} {o : Result} (rs : List Bytes) → StepCases K s r o → step K s r ≡ o → refusal (situation K s r) ≡ judged K s r
    → ((t : State) → o.state ≡ t → t.is_closed ≡ false → cyclic K t.graph ≡ false → Ran K t rs)
    → s.is_closed ≡ false → cyclic K s.graph ≡ false → Ran K s (r ∷ rs)
ran_step {s} {r} rs (was_refused x e) q u rest op ac =
    goes_on q (ap (proceed_by (unnumbered s) r) (sym u ∙ e)) (sym (ap answer_by (sym u ∙ e))) (rest s refl op ac)
ran_step {s} {r} rs (was_clean e c) q u rest op ac =
    goes_on q (ap (proceed_by (unnumbered s) r) (sym u ∙ e)) (sym (ap answer_by (sym u ∙ e))) (rest (accept s r) refl op c)
ran_step {K} {s} {r} rs (was_fault e c) q u rest op ac =
    closes ((closed_exactly K s (r ∷ rs) op).1 (record { at = 0; by = zero-le; is_fault = ap (λ (o : Result). number o.answer) q }))
    (ap (λ (t : State). cyclic K (flow K t rs).graph) (ap (proceed_by (unnumbered s) r) (sym u ∙ e))
    ∙ cyclic_mono (flow_grows K (unnumbered (accept s r)) rs) K c)

ran : (K : ℕ) (s : State) (rs : List Bytes) → Never 9 (answers K s rs) → s.is_closed ≡ false → cyclic K s.graph ≡ false → Ran K s rs
ran K s [] over op ac = stays op refl refl ac
ran K s (r ∷ rs) over op ac =
    ran_step rs (stepped K s r) refl (judged_so K s r (over.never 0))
    (λ t q. ran K t rs (subst (λ (t : State). Never 9 (answers K t rs)) q (record { never = λ i. over.never (suc i) }))) op ac

-- ---- Neighbours of different cores change places.

or_turn : (a b c : Bool) → ((a || b) || c) ≡ ((a || c) || b)
or_turn true b c = refl
or_turn false true true = refl
or_turn false true false = refl
or_turn false false true = refl
or_turn false false false = refl

module _ (K : ℕ) (d : ℕ → Bool) where
  -- An ordinary event leaves crosslocks alone, where none is in progress.
  idle_cross : (ev : Event) (i : ℕ) (core : Core) → is_cross ev ≡ false → after_cross ev i core (declaring d) ≡ declaring d
  unfolding count_below
  idle_cross (acquire c m) i core o = refl
  idle_cross (release c m) i core o = refl
  idle_cross (interrupt e) i core o = by (leaves_handler e)
    where
      by : (b : Bool) → record { declared = d; progress = λ c. false; since = λ c. 0; history = cond b [] [] } ≡ declaring d
      by true = refl
      by false = refl
  idle_cross (cross_acquire c) i core o = absurd (false≢true (sym o))
  idle_cross (commit c) i core o = absurd (false≢true (sym o))
  idle_cross (cross_release c) i core o = absurd (false≢true (sym o))

  abbrev IsOrdinary : Bytes → Type 0
  IsOrdinary r = is_malformed r ≡ false → is_cross (event_of r) ≡ false

  accept_cross : (s : State) (r : Bytes) → s.cross ≡ declaring d → is_cross (event_of r) ≡ false → (accept s r).cross ≡ declaring d
  accept_cross s r z o = ap (after_cross (event_of r) (core_of r) (s.cores (core_of r))) z ∙ idle_cross (event_of r) (core_of r) (s.cores (core_of r)) o

  -- An accepted record is well-formed.
  judged_ordinary : (s : State) (r : Bytes) → IsOrdinary r → judged K s r ≡ none → is_cross (event_of r) ≡ false
  judged_ordinary s r o e = o (accepted_passes (uncounted (situation K s r)) malformed e)

  proceed_cross : (s : State) (r : Bytes) → s.cross ≡ declaring d → IsOrdinary r → (proceed K s r).cross ≡ declaring d
  proceed_cross s r z o = by (judged K s r) refl
    where
      by : (x : Option Refusal) → judged K s r ≡ x → (proceed_by s r x).cross ≡ declaring d
      by (some x) e = z
      by none e = accept_cross s r z (judged_ordinary s r o e)

  module _ (s : State) (z : s.cross ≡ declaring d) (a b : Bytes) (oa : IsOrdinary a) (apart : eqb (core_of b) (core_of a) ≡ false) where
    -- One core's record is judged alike before and after another's.
    judged_aside : judged K (proceed K s a) b ≡ judged K s b
    judged_aside = by (judged K s a) refl
      where
        by : (x : Option Refusal) → judged K s a ≡ x → judged K (proceed_by s a x) b ≡ judged K s b
        by (some x) e = refl
        by none e = rw (apart, accept_cross s a z (judged_ordinary s a oa e) ∙ sym z)

  apart_back : (i j : ℕ) → eqb i j ≡ false → eqb j i ≡ false
  apart_back i j h = ne_eqb j i (λ e. eqb-false i j h (sym e))

  cores_swapped : (i p q : ℕ) (x y z : Core) → eqb q p ≡ false → cond (eqb i q) y (cond (eqb i p) x z) ≡ cond (eqb i p) x (cond (eqb i q) y z)
  cores_swapped i p q x y z n = by (eqb i p) refl (eqb i q) refl
    where
      by : (b : Bool) → eqb i p ≡ b → (c : Bool) → eqb i q ≡ c → cond c y (cond b x z) ≡ cond b x (cond c y z)
      by true e true f = absurd (eqb-false q p n (sym (eqb-true i q f) ∙ eqb-true i p e))
      by true e false f = refl
      by false e c f = refl

  module _ (s : State) (z : s.cross ≡ declaring d) (a b : Bytes) (oa : IsOrdinary a) (ob : IsOrdinary b) (apart : eqb (core_of b) (core_of a) ≡ false) where
    accepts_swapped : judged K s a ≡ none → judged K s b ≡ none → unnumbered (accept (unnumbered (accept s a)) b) ≡ unnumbered (accept (unnumbered (accept s b)) a)
    accepts_swapped e f =
        let back : eqb (core_of a) (core_of b) ≡ false = apart_back (core_of b) (core_of a) apart in
        let cross_a : (accept s a).cross ≡ s.cross = accept_cross s a z (judged_ordinary s a oa e) ∙ sym z in
        let cross_b : (accept s b).cross ≡ s.cross = accept_cross s b z (judged_ordinary s b ob f) ∙ sym z in
        rw (apart, back, cross_a, cross_b, cross_a)
        (λ i. record {
          is_closed = s.is_closed;
          cores = λ c. cores_swapped c (core_of a) (core_of b) (after a) (after b) (s.cores c) apart i;
          graph = record {
            locks = λ f t k. or_turn (s.graph.locks f t k) (draws a f t k) (draws b f t k) i;
            marks = λ c l u. or_turn (s.graph.marks c l u) (marks_of (after a) c l u) (marks_of (after b) c l u) i;
          };
          cross = s.cross;
          journal = record { accepted = suc (suc s.journal.accepted); seen = λ f t. 0 };
        })
      where
        after : Bytes → Core
        after r = after_event (event_of r) (s.cores (core_of r))

        draws : Bytes → Dependencies
        draws r = drawn_with (s.cores (core_of r)) s.cross r

    swapped : proceed K (proceed K s a) b ≡ proceed K (proceed K s b) a
    swapped =
        ap (proceed_by (proceed K s a) b) (judged_aside s z a b oa apart)
        ∙ by (judged K s a) refl (judged K s b) refl
        ∙ sym (ap (proceed_by (proceed K s b) a) (judged_aside s z b a ob (apart_back (core_of b) (core_of a) apart)))
      where
        by : (x : Option Refusal) → judged K s a ≡ x → (y : Option Refusal) → judged K s b ≡ y → proceed_by (proceed_by s a x) b y ≡ proceed_by (proceed_by s b y) a x
        by (some x) e (some y) f = refl
        by (some x) e none f = refl
        by none e (some y) f = refl
        by none e none f = accepts_swapped e f

  -- ---- Lists that give each core the same.

  -- The second list is the first with the record put in, behind records of other cores.
  data Put (x : Bytes) : List Bytes → List Bytes → Type 0 where
    here : {ys : List Bytes} → Put x ys (x ∷ ys)
    behind : {y : Bytes} {ys ys' : List Bytes} → eqb (core_of x) (core_of y) ≡ false → Put x ys ys' → Put x (y ∷ ys) (y ∷ ys')

  first_ordinary : {r : Bytes} {rs : List Bytes} → Ordinary (r ∷ rs) → IsOrdinary r
  first_ordinary {r} o = o.each r (Memᴰ.head refl)

  rest_ordinary : {r : Bytes} {rs : List Bytes} → Ordinary (r ∷ rs) → Ordinary rs
  rest_ordinary o = record { each = λ r m. o.each r (Memᴰ.tail m) }

  -- It may come first.
  moved : {x : Bytes} (s : State) → s.cross ≡ declaring d → {ys ys' : List Bytes} → IsOrdinary x → Ordinary ys' → Put x ys ys' → flow K s ys' ≡ flow K s (x ∷ ys)
  moved s z ox o here = refl
  moved {x} s z ox o (behind {y} {ys} n p) =
      moved (proceed K s y) (proceed_cross s y z (first_ordinary o)) ox (rest_ordinary o) p
      ∙ ap (λ (t : State). flow K t ys) (swapped s z y x (first_ordinary o) ox n)

  -- What is picked of two neighbours, of which not both are picked, and of the rest.
  shuffled : {A : Type 0} (b c : Bool) → (b ≡ true → c ≡ true → ⊥) → {x x' y y' : A} {l m n : List A} → l ≡ cond b (x' ∷ m) m → x' ≡ x → y ≡ y' → m ≡ n
      → cond c (y ∷ l) l ≡ cond b (x ∷ cond c (y' ∷ n) n) (cond c (y' ∷ n) n)
  shuffled true true never e p q r = absurd (never refl refl)
  shuffled true false never e p q r = e ∙ ap₂ ◌∷◌ p r
  shuffled false true never e p q r = ap₂ ◌∷◌ q (e ∙ r)
  shuffled false false never e p q r = e ∙ r

  not_both : (i : ℕ) (x y : Bytes) → eqb (core_of x) (core_of y) ≡ false → eqb i (core_of x) ≡ true → eqb i (core_of y) ≡ true → ⊥
  not_both i x y n e f = eqb-false (core_of x) (core_of y) n (sym (eqb-true i (core_of x) e) ∙ eqb-true i (core_of y) f)

  put_same : (i : ℕ) {x : Bytes} {ys ys' : List Bytes} → Put x ys ys' → of_core i ys' ≡ of_core i (x ∷ ys)
  put_same i here = refl
  put_same i {x} (behind {y} n p) = shuffled (eqb i (core_of x)) (eqb i (core_of y)) (not_both i x y n) (put_same i p) refl refl refl

  -- Each core's answers stay as they are.
  own_moved : (i : ℕ) {x : Bytes} (s : State) → s.cross ≡ declaring d → {ys ys' : List Bytes} → IsOrdinary x → Ordinary ys' → Put x ys ys'
      → to_core i ys' (flow_answers K s ys') ≡ to_core i (x ∷ ys) (flow_answers K s (x ∷ ys))
  own_moved i s z ox o here = refl
  own_moved i {x} s z ox o (behind {y} {ys} n p) =
      shuffled (eqb i (core_of x)) (eqb i (core_of y)) (not_both i x y n)
      (own_moved i (proceed K s y) (proceed_cross s y z (first_ordinary o)) ox (rest_ordinary o) p)
      (ap answer_by (judged_aside s z y x (first_ordinary o) n))
      (sym (ap answer_by (judged_aside s z x y ox (apart_back (core_of x) (core_of y) n))))
      (ap (λ (t : State). to_core i ys (flow_answers K t ys)) (swapped s z y x (first_ordinary o) ox n))

  record Found (x : Bytes) (ys : List Bytes) : Type 0 where
    rest : List Bytes
    put : Put x rest ys

  found : (x : Bytes) (xs ys : List Bytes) → of_core (core_of x) ys ≡ x ∷ xs → Found x ys
  found x xs [] e = absurd (nil≢cons e)
  found x xs (y ∷ ys) e = by (eqb (core_of x) (core_of y)) refl e (found x xs ys)
    where
      by : (b : Bool) → eqb (core_of x) (core_of y) ≡ b → cond b (y ∷ of_core (core_of x) ys) (of_core (core_of x) ys) ≡ x ∷ xs → (of_core (core_of x) ys ≡ x ∷ xs → Found x ys)
          → Found x (y ∷ ys)
      by true q e ih = record { rest = ys; put = subst (λ (r : Bytes). Put x ys (r ∷ ys)) (sym (head-eq_of_cons-eq e)) here }
      by false q e ih = let f = ih e in record { rest = y ∷ f.rest; put = behind q f.put }

  rest_same : {x : Bytes} {xs ys zs : List Bytes} → SameForEachCore (x ∷ xs) ys → Put x zs ys → SameForEachCore xs zs
  rest_same {x} {xs} {zs = zs} m p = record { each = λ i. by i (eqb i (core_of x)) refl (m.each i ∙ put_same i p) }
    where
      by : (i : ℕ) (b : Bool) → eqb i (core_of x) ≡ b → cond b (x ∷ of_core i xs) (of_core i xs) ≡ cond b (x ∷ of_core i zs) (of_core i zs) → of_core i xs ≡ of_core i zs
      by i true q e = tail-eq_of_cons-eq e
      by i false q e = e

  -- Each record of a list is in its core's own, and that is in the list.
  in_own : {r : Bytes} {rs : List Bytes} → Memᴰ r rs → Memᴰ r (of_core (core_of r) rs)
  in_own {r} (Memᴰ.head {x = y} {xs} e) = rw e (rw (eq-eqb (core_of y) (core_of y) refl) (Memᴰ.head refl))
  in_own {r} (Memᴰ.tail {x = y} {xs} m) = by (eqb (core_of r) (core_of y)) (in_own m)
    where
      by : (b : Bool) → Memᴰ r (of_core (core_of r) xs) → Memᴰ r (cond b (y ∷ of_core (core_of r) xs) (of_core (core_of r) xs))
      by true h = Memᴰ.tail h
      by false h = h

  own_in : (i : ℕ) {r : Bytes} (rs : List Bytes) → Memᴰ r (of_core i rs) → Memᴰ r rs
  own_in i [] m = m
  own_in i {r} (y ∷ rs) m = by (eqb i (core_of y)) m (own_in i rs)
    where
      by : (b : Bool) → Memᴰ r (cond b (y ∷ of_core i rs) (of_core i rs)) → (Memᴰ r (of_core i rs) → Memᴰ r rs) → Memᴰ r (y ∷ rs)
      by true (Memᴰ.head e) ih = Memᴰ.head e
      by true (Memᴰ.tail m) ih = Memᴰ.tail (ih m)
      by false m ih = Memᴰ.tail (ih m)

  same_ordinary : {xs ys : List Bytes} → SameForEachCore xs ys → Ordinary xs → Ordinary ys
  same_ordinary {xs} m o =
      record { each = λ r h. o.each r (own_in (core_of r) xs (subst (λ (l : List Bytes). Memᴰ r l) (sym (m.each (core_of r))) (in_own h))) }

  none_left : {y : Bytes} {ys : List Bytes} → SameForEachCore [] (y ∷ ys) → ⊥
  none_left {y} {ys} m = nil≢cons {x = y} {xs = of_core (core_of y) ys} (m.each (core_of y) ∙ rw (eq-eqb (core_of y) (core_of y) refl))

  first_found : {x : Bytes} {xs ys : List Bytes} → SameForEachCore (x ∷ xs) ys → Found x ys
  first_found {x} {xs} {ys} m = found x (of_core (core_of x) xs) ys (sym (m.each (core_of x)) ∙ rw (eq-eqb (core_of x) (core_of x) refl))

  flow_same : (xs ys : List Bytes) → Ordinary xs → SameForEachCore xs ys → (s : State) → s.cross ≡ declaring d → flow K s xs ≡ flow K s ys
  flow_same [] [] o m s z = refl
  flow_same [] (y ∷ ys) o m s z = absurd (none_left m)
  flow_same (x ∷ xs) ys o m s z =
      let f = first_found m in
      flow_same xs f.rest (rest_ordinary o) (rest_same m f.put) (proceed K s x) (proceed_cross s x z (first_ordinary o))
      ∙ sym (moved s z (first_ordinary o) (same_ordinary m o) f.put)

  own_same : (i : ℕ) (xs ys : List Bytes) → Ordinary xs → SameForEachCore xs ys → (s : State) → s.cross ≡ declaring d
      → to_core i xs (flow_answers K s xs) ≡ to_core i ys (flow_answers K s ys)
  own_same i [] [] o m s z = refl
  own_same i [] (y ∷ ys) o m s z = absurd (none_left m)
  own_same i (x ∷ xs) ys o m s z =
      let f = first_found m in
      ap (λ (l : List ℕ). cond (eqb i (core_of x)) (answer_by (judged K s x) ∷ l) l)
      (own_same i xs f.rest (rest_ordinary o) (rest_same m f.put) (proceed K s x) (proceed_cross s x z (first_ordinary o)))
      ∙ sym (own_moved i s z (first_ordinary o) (same_ordinary m o) f.put)

  -- An ordinary record leaves the crosslocks of a true run alone too.
  pub step_cross : (s : State) (r : Bytes) → s.cross ≡ declaring d → (is_malformed r ≡ false → is_cross (event_of r) ≡ false) → (step K s r).state.cross ≡ declaring d
  step_cross s r z o = by (stepped K s r)
    where
      by : {t : Result} → StepCases K s r t → t.state.cross ≡ declaring d
      by (was_refused x e) = z
      by (was_clean e c) = accept_cross s r z (o (accepted_passes (situation K s r) malformed e))
      by (was_fault e c) = accept_cross s r z (o (accepted_passes (situation K s r) malformed e))

  -- ---- The claim, from a state with no crosslock in progress that is open only without a cycle.

  module _ (s : State) (idle : s.cross ≡ declaring d) (acyclic : s.is_closed ≡ false → cyclic K s.graph ≡ false) {xs ys : List Bytes} (o : Ordinary xs)
      (m : SameForEachCore xs ys) (nx : Never 9 (answers K s xs)) (ny : Never 9 (answers K s ys)) where
    pub merge_order : MergedAlike (run K s xs) (run K s ys)
    merge_order = by s.is_closed refl
      where
        -- With a closed run nothing is claimed but that both are.
        both_closed : (run K s xs).is_closed ≡ true → (run K s ys).is_closed ≡ true → MergedAlike (run K s xs) (run K s ys)
        both_closed u v = record { closed = u ∙ sym v; same = λ h. absurd (false≢true (sym h ∙ u)) }

        cycles : cyclic K (flow K (unnumbered s) xs).graph ≡ cyclic K (flow K (unnumbered s) ys).graph
        cycles = ap (λ (t : State). cyclic K t.graph) (flow_same xs ys o m (unnumbered s) idle)

        alike : Ran K s xs → Ran K s ys → MergedAlike (run K s xs) (run K s ys)
        alike (stays u v g w) (stays u' v' g' w') = record { closed = u ∙ sym u'; same = λ h. v ∙ flow_same xs ys o m (unnumbered s) idle ∙ sym v' }
        alike (closes u w) (closes u' w') = both_closed u u'
        alike (stays u v g w) (closes u' w') = absurd (false≢true (sym w ∙ cycles ∙ w'))
        alike (closes u w) (stays u' v' g' w') = absurd (false≢true (sym (cycles ∙ w') ∙ w))

        by : (b : Bool) → s.is_closed ≡ b → MergedAlike (run K s xs) (run K s ys)
        by true e = both_closed (stays_closed K s xs e) (stays_closed K s ys e)
        by false e = alike (ran K s xs nx e (acyclic e)) (ran K s ys ny e (acyclic e))

    -- If the desk stays open, each core's records are answered alike.
    pub merge_answers : (run K s xs).is_closed ≡ false → AnsweredAlike xs ys (answers K s xs) (answers K s ys)
    merge_answers h = by s.is_closed refl
      where
        by : (b : Bool) → s.is_closed ≡ b → AnsweredAlike xs ys (answers K s xs) (answers K s ys)
        by true e = absurd (false≢true (sym h ∙ stays_closed K s xs e))
        by false e = both (ran K s xs nx e (acyclic e)) (ran K s ys ny e (acyclic e))
          where
            both : Ran K s xs → Ran K s ys → AnsweredAlike xs ys (answers K s xs) (answers K s ys)
            both (stays u v g w) (stays u' v' g' w') = record { each = λ i. ap (to_core i xs) g ∙ own_same i xs ys o m (unnumbered s) idle ∙ sym (ap (to_core i ys) g') }
            both (stays u v g w) (closes u' w') = absurd (false≢true (sym h ∙ merge_order.closed ∙ u'))
            both (closes u w) r = absurd (false≢true (sym h ∙ u))

-- ---- Starts without a cycle.

no_dependency : (K f t : ℕ) (k : Kind) → dependency K empty_graph f t k ≡ true → ⊥
unfolding dependency
no_dependency K f t k h = false≢true (sym (and-false (ltb f K && ltb t K)) ∙ h)

no_path : {K f t : ℕ} {k l : Kind} → StrongPath K empty_graph f k t l → ⊥
no_path {K} (one {f} {t} {k} x) = no_dependency K f t k x.drawn
no_path {K} (more {f} {m} {k = k} x j p) = no_dependency K f m k x.drawn

pub empty_acyclic : (K : ℕ) → cyclic K empty_graph ≡ false
empty_acyclic K = by (cyclic K empty_graph) refl
  where
    by : (b : Bool) → cyclic K empty_graph ≡ b → b ≡ false
    by true e = absurd (no_path (cyclic_sound K empty_graph e).path)
    by false e = refl

-- A joined state is open only without one.
pub joined_acyclic : (K : ℕ) (s t : State) → (join K s t).state.is_closed ≡ false → cyclic K (join K s t).state.graph ≡ false
joined_acyclic K s t = by (cyclic K (joined_state s t).graph) refl
  where
    by : (b : Bool) → cyclic K (joined_state s t).graph ≡ b → (decided b (joined_state s t)).state.is_closed ≡ false → cyclic K (decided b (joined_state s t)).state.graph ≡ false
    by true e h = absurd (false≢true (sym h))
    by false e h = e
