-- Demand 3: more evidence never clears a fault. While the second run is open, the named cores are equal in both runs and the first run's graph
-- lies within the second's, which has accepted and kept no fewer records; once it is closed, "a fault at or before" is all that is claimed. Assumes nothing.
use mathlib.Core.Path.{◌≡◌, refl, sym, ◌∙◌, ap, subst}
use mathlib.Core.Bool.{Bool, true, false, cond, not, ◌||◌, false≢true}
use mathlib.Core.List.{List, [], ◌∷◌, Memᴰ}
use mathlib.Core.Option.{Option, none, some}
use mathlib.Core.Logic.{◌⊎◌, inl, inr, ⊎_elim}
use Prim.Native.Nat.{ℕ, zero, suc, ◌<◌, ◌≤◌, zero-le, suc-le-suc}
use native.Mathlib.Nat.{le_of_suc-le-suc, not-suc-le-zero, le_refl}
use native.Mathlib.Omega.{arith}
use lib.Dec.{leb, eqb}
use lib.ListN.{length, get_or, get_or-replicate}
use borrow.Author.Tests.{ne_eqb, leb-true, leb-false, le-leb, not-false}
use Rattle.rules.specs.Limits.{max_classes, max_accepted, max_in_progress, max_kept}
use Rattle.rules.specs.Record.{Bytes, Event, acquire, release, interrupt, cross_acquire, commit, cross_release, core_of, event_of, is_cross, is_malformed, Names}
use Rattle.rules.specs.Context.{frame_of}
use Rattle.rules.specs.HeldLocks.{is_try, Core, after_event}
use Rattle.rules.specs.Graph.{Kind}
use Rattle.rules.specs.Crosslocks.{Crosslocks, size_of, is_idle, is_kept, drawn_on}
use Rattle.rules.specs.Decision.{cyclic}
use Rattle.rules.specs.Verdict.{Refusal, closed, malformed, no_class, wrong_sort, no_transition, still_held, not_held, too_deep, in_progress, not_in_progress, list_full, history_full, count_full, number, class_missing, sort_wrong, already_taken, not_taken, no_place, no_room, applies, refusal}
use Rattle.rules.specs.Run.{State, situation, accept_on, accept, Result, decided, settled, step, answers, graph_at}
use Rattle.rules.specs.TwoRuns.{NamedIn, Foreign, Interleaved, done, keep, insert, place, Never, FaultBy, MoreEvidence}
use Rattle.rules.proofs.Decided.{cyclic_sound}
use Rattle.rules.proofs.Monotone.{Within, within_self, within_more, within_both, cyclic_mono}
use Rattle.rules.proofs.Histories.{CrossAlong, both_cross, aside_cross, commit_mono}
use Rattle.rules.proofs.Booleans.{and_mono}
use Rattle.rules.proofs.Steps.{closed_answers, closed_no_fault, shut_after, fault_cycle, accepted_passes, Alike, refused_alike}

names_its_core : (r : Bytes) → is_malformed r ≡ false → Names r (core_of r)
names_its_core r h = record { formed = h; is_core = refl }

-- ---- The limits: how many acquires are kept, and how many records may be accepted.

abbrev is_limit : Refusal → Bool
is_limit closed = false
is_limit malformed = false
is_limit no_class = false
is_limit wrong_sort = false
is_limit no_transition = false
is_limit still_held = false
is_limit not_held = false
is_limit too_deep = false
is_limit in_progress = false
is_limit not_in_progress = false
is_limit list_full = false
is_limit history_full = true
is_limit count_full = true

limit_is : (x : Refusal) → is_limit x ≡ true → (x ≡ history_full) ⊎ (x ≡ count_full)
limit_is closed h = absurd (false≢true h)
limit_is malformed h = absurd (false≢true h)
limit_is no_class h = absurd (false≢true h)
limit_is wrong_sort h = absurd (false≢true h)
limit_is no_transition h = absurd (false≢true h)
limit_is still_held h = absurd (false≢true h)
limit_is not_held h = absurd (false≢true h)
limit_is too_deep h = absurd (false≢true h)
limit_is in_progress h = absurd (false≢true h)
limit_is not_in_progress h = absurd (false≢true h)
limit_is list_full h = absurd (false≢true h)
limit_is history_full h = inl refl
limit_is count_full h = inr refl

module _ (K : ℕ) {named : ℕ → Type 0} (s₁ s₂ : State) (r : Bytes) (q : s₁.cores (core_of r) ≡ s₂.cores (core_of r))
    (o : s₁.is_closed ≡ s₂.is_closed) (x : CrossAlong named s₁.cross s₂.cross) (fewer : s₁.journal.accepted ≤ s₂.journal.accepted) where
  same_sort : (ev : Event) → sort_wrong s₁.cross.declared ev ≡ sort_wrong s₂.cross.declared ev
  same_sort ev = ap (λ (d : ℕ → Bool). sort_wrong d ev) x.declared

  -- A fact of the classes in progress.
  same_set : {A : Type 0} (says : (ℕ → Bool) → A) → says s₁.cross.progress ≡ says s₂.cross.progress
  same_set says = ap says x.progress

  same_taken : (ev : Event) → already_taken s₁.cross ev ≡ already_taken s₂.cross ev
  same_taken (acquire c m) = refl
  same_taken (release c m) = refl
  same_taken (interrupt e) = refl
  same_taken (cross_acquire c) = same_set (λ p. p c)
  same_taken (commit c) = refl
  same_taken (cross_release c) = refl

  same_missing : (ev : Event) → not_taken s₁.cross ev ≡ not_taken s₂.cross ev
  same_missing (acquire c m) = refl
  same_missing (release c m) = refl
  same_missing (interrupt e) = refl
  same_missing (cross_acquire c) = refl
  same_missing (commit c) = same_set (λ p. not (p c))
  same_missing (cross_release c) = same_set (λ p. not (p c))

  same_place : (ev : Event) → no_place s₁.cross ev ≡ no_place s₂.cross ev
  same_place (acquire c m) = refl
  same_place (release c m) = refl
  same_place (interrupt e) = refl
  same_place (cross_acquire c) = same_set (λ p. leb max_in_progress (size_of p))
  same_place (commit c) = refl
  same_place (cross_release c) = refl

  less_room : (ev : Event) → no_room s₁.cross ev ≡ true → no_room s₂.cross ev ≡ true
  less_room (acquire c m) =
      and_mono (is_kept s₁.cross m) (leb max_kept (length s₁.cross.history)) (λ h. sym (same_set (λ p. not (is_idle p || is_try m))) ∙ h)
      (λ h. let l = leb-true max_kept (length s₁.cross.history) h in let k = x.shorter in le-leb max_kept (length s₂.cross.history) (omega arith))
  less_room (release c m) = λ h. h
  less_room (interrupt e) = λ h. h
  less_room (cross_acquire c) = λ h. h
  less_room (commit c) = λ h. h
  less_room (cross_release c) = λ h. h

  more_accepted : leb max_accepted s₁.journal.accepted ≡ true → leb max_accepted s₂.journal.accepted ≡ true
  more_accepted h = let l = leb-true max_accepted s₁.journal.accepted h in le-leb max_accepted s₂.journal.accepted (omega arith)

  alike_here : Alike is_limit (situation K s₁ r) (situation K s₂ r)
  alike_here =
      record {
        same = elim [
          | closed ↦ λ n. o
          | malformed ↦ λ n. refl
          | no_class ↦ λ n. refl
          | wrong_sort ↦ λ n. same_sort (event_of r)
          | no_transition ↦ λ n. rw q
          | still_held ↦ λ n. rw q
          | not_held ↦ λ n. rw q
          | too_deep ↦ λ n. rw q
          | in_progress ↦ λ n. same_taken (event_of r)
          | not_in_progress ↦ λ n. same_missing (event_of r)
          | list_full ↦ λ n. same_place (event_of r)
          | history_full ↦ λ n. absurd (false≢true (sym n))
          | count_full ↦ λ n. absurd (false≢true (sym n))
        ];
        fuller = λ x n.
            ⊎_elim (λ e. subst (λ (y : Refusal). applies y (situation K s₁ r) ≡ true → applies y (situation K s₂ r) ≡ true) (sym e) (less_room (event_of r)))
            (λ e. subst (λ (y : Refusal). applies y (situation K s₁ r) ≡ true → applies y (situation K s₂ r) ≡ true) (sym e) more_accepted) (limit_is x n);
      }

  same_refusal : (number (step K s₂ r).answer ≡ 19 → ⊥) → (number (step K s₂ r).answer ≡ 9 → ⊥) → refusal (situation K s₂ r) ≡ refusal (situation K s₁ r)
  same_refusal room over =
      refused_alike is_limit alike_here
      (λ y n h.
      ⊎_elim (λ e. let z : refusal (situation K s₂ r) ≡ some history_full = h ∙ ap some e in room (rw z refl))
      (λ e. let z : refusal (situation K s₂ r) ≡ some count_full = h ∙ ap some e in over (rw z refl)) (limit_is y n))

module _ (K : ℕ) (few : K ≤ max_classes) (whole : List Bytes) where
  record Along (s₁ s₂ : State) : Type 0 where
    open₁ : s₁.is_closed ≡ false
    open₂ : s₂.is_closed ≡ false
    agree : (i : ℕ) → NamedIn whole i → s₁.cores i ≡ s₂.cores i
    within : Within s₁.graph s₂.graph
    cross : CrossAlong (NamedIn whole) s₁.cross s₂.cross
    fewer : s₁.journal.accepted ≤ s₂.journal.accepted

  -- ---- A record of the first list, in both runs.

  data Together (o₁ o₂ : Result) : Type 0 where
    alike : number o₂.answer ≡ number o₁.answer → Along o₁.state o₂.state → Together o₁ o₂
    faulted : number o₂.answer ≡ 1 → o₂.state.is_closed ≡ true → (number o₁.answer ≡ 0) ⊎ (number o₁.answer ≡ 1) → Together o₁ o₂

  both_decided : {t₁ t₂ : State} → Along t₁ t₂ → (b₁ b₂ : Bool) → (b₁ ≡ true → b₂ ≡ true) → Together (decided b₁ t₁) (decided b₂ t₂)
  both_decided a false false m = alike refl a
  both_decided a false true m = faulted refl refl (inl refl)
  both_decided a true true m = faulted refl refl (inr refl)
  both_decided a true false m = absurd (false≢true (m refl))

  -- What an accepted event of a named core draws in the first run, it draws in the second.
  drawn_both : (ev : Event) (i : ℕ) (core : Core) {x₁ x₂ : Crosslocks} → CrossAlong (NamedIn whole) x₁ x₂ → NamedIn whole i → class_missing K ev ≡ false → not_taken x₁ ev ≡ false
      → (f t : ℕ) (k : Kind) → drawn_on ev i core x₁ f t k ≡ true → drawn_on ev i core x₂ f t k ≡ true
  drawn_both (acquire c m) i core a n l p f t k h = h
  drawn_both (release c m) i core a n l p f t k h = h
  drawn_both (interrupt e) i core a n l p f t k h = h
  drawn_both (cross_acquire c) i core a n l p f t k h = h
  drawn_both (commit c) i core {x₁} a n l p f t k h =
      let q = leb-false K c l in commit_mono (NamedIn whole) a c i (frame_of core.state) n (omega arith) (not-false (x₁.progress c) p) f t k h
  drawn_both (cross_release c) i core a n l p f t k h = h

  both_accept : (core : Core) (r : Bytes) {s₁ s₂ : State} → NamedIn whole (core_of r) → class_missing K (event_of r) ≡ false → not_taken s₁.cross (event_of r) ≡ false
      → Along s₁ s₂ → Along (accept_on core s₁ r) (accept_on core s₂ r)
  both_accept core r n l p a =
      record {
        open₁ = a.open₁;
        open₂ = a.open₂;
        agree = λ i n. ap (cond (eqb i (core_of r)) (after_event (event_of r) core)) (a.agree i n);
        within = within_both _ _ _ (drawn_both (event_of r) (core_of r) core a.cross n l p) a.within;
        cross = both_cross (NamedIn whole) a.cross (event_of r) (core_of r) core;
        fewer = suc-le-suc a.fewer;
      }

  both_settled : (r : Bytes) {s₁ s₂ : State} → NamedIn whole (core_of r) → Along s₁ s₂ → s₁.cores (core_of r) ≡ s₂.cores (core_of r) → (x : Option Refusal)
      → refusal (situation K s₁ r) ≡ x → Together (settled K s₁ r x) (settled K s₂ r x)
  both_settled r n a q (some x) e = alike refl a
  both_settled r {s₁} {s₂} n a q none e =
      let l = accepted_passes (situation K s₁ r) no_class e in
      let p = accepted_passes (situation K s₁ r) not_in_progress e in
      let t : Along (accept s₁ r) (accept s₂ r) =
      subst (λ (c : Core). Along (accept s₁ r) (accept_on c s₂ r)) q (both_accept (s₁.cores (core_of r)) r n l p a) in
      both_decided t (cyclic K (accept s₁ r).graph) (cyclic K (accept s₂ r).graph) (cyclic_mono t.within K)

  -- A malformed record is refused with 3 whatever the cores are; any other names its core, which is the same in both runs.
  malformed_refused : (s : State) (r : Bytes) → s.is_closed ≡ false → is_malformed r ≡ true → refusal (situation K s r) ≡ some malformed
  unfolding refusal
  malformed_refused s r o h = rw (o, h)

  both_step : (r : Bytes) {s₁ s₂ : State} → Along s₁ s₂ → Memᴰ r whole → (number (step K s₂ r).answer ≡ 19 → ⊥)
      → (number (step K s₂ r).answer ≡ 9 → ⊥) → Together (step K s₁ r) (step K s₂ r)
  both_step r {s₁} {s₂} a m room over = by (is_malformed r) refl
    where
      by : (b : Bool) → is_malformed r ≡ b → Together (step K s₁ r) (step K s₂ r)
      by true h = rw (malformed_refused s₁ r a.open₁ h, malformed_refused s₂ r a.open₂ h) (alike refl a)
      by false h =
          let n : NamedIn whole (core_of r) = record { by = r; member = m; names = names_its_core r h } in
          let q = a.agree (core_of r) n in
          let e = same_refusal K s₁ s₂ r q (a.open₁ ∙ sym a.open₂) a.cross a.fewer room over in
          rw e (both_settled r n a q (refusal (situation K s₁ r)) refl)

  -- ---- A foreign record, in the second run only.

  data Aside (s₁ : State) (o₂ : Result) : Type 0 where
    apart : Along s₁ o₂.state → Aside s₁ o₂
    faulted : number o₂.answer ≡ 1 → o₂.state.is_closed ≡ true → Aside s₁ o₂

  aside_decided : {s₁ t₂ : State} → Along s₁ t₂ → (b₂ : Bool) → Aside s₁ (decided b₂ t₂)
  aside_decided a false = apart a
  aside_decided a true = faulted refl refl

  aside_accept : (r : Bytes) {s₁ s₂ : State} → Along s₁ s₂ → (NamedIn whole (core_of r) → ⊥) → is_cross (event_of r) ≡ false → Along s₁ (accept s₂ r)
  aside_accept r {s₁} {s₂} a out o =
      record {
        open₁ = a.open₁;
        open₂ = a.open₂;
        agree = λ i n. rw (ne_eqb i (core_of r) (λ q. out (rw q at n))) (a.agree i n);
        within = within_more _ _ a.within;
        cross = aside_cross (NamedIn whole) a.cross (event_of r) (core_of r) (s₂.cores (core_of r)) out o;
        fewer = let l = a.fewer in omega arith;
      }

  aside_settled : (r : Bytes) {s₁ s₂ : State} → Along s₁ s₂ → (NamedIn whole (core_of r) → ⊥) → is_cross (event_of r) ≡ false → (x : Option Refusal)
      → Aside s₁ (settled K s₂ r x)
  aside_settled r a out o (some x) = apart a
  aside_settled r {s₂} a out o none = aside_decided (aside_accept r a out o) (cyclic K (accept s₂ r).graph)

  aside_step : (r : Bytes) {s₁ s₂ : State} → Along s₁ s₂ → Foreign whole r → Aside s₁ (step K s₂ r)
  aside_step r {s₁} {s₂} a f = by (is_malformed r) refl
    where
      by : (b : Bool) → is_malformed r ≡ b → Aside s₁ (step K s₂ r)
      by true h = rw (malformed_refused s₂ r a.open₂ h) (apart a)
      by false h =
          aside_settled r a (f.apart (core_of r) (names_its_core r h)) (f.ordinary h) (refusal (situation K s₂ r))

  -- ---- The lists.

  record Pair {xs ys : List Bytes} (e : Interleaved whole xs ys) (given₁ given₂ : List ℕ) : Type 0 where
    same : (i : ℕ) → i < length xs → (get_or given₂ (place e i) 0 ≡ get_or given₁ i 0) ⊎ FaultBy given₂ (place e i)
    old : (i : ℕ) → i < length xs → get_or given₂ (place e i) 0 ≡ 1 → (get_or given₁ i 0 ≡ 0) ⊎ (get_or given₁ i 0 ≡ 1)

  later : {A : Type 0} {given : List ℕ} {j : ℕ} (n : ℕ) → A ⊎ FaultBy given j → A ⊎ FaultBy (n ∷ given) (suc j)
  later n (inl x) = inl x
  later n (inr f) = inr (record { at = suc f.at; by = suc-le-suc f.by; is_fault = f.is_fault })

  at_once : (n : ℕ) (given : List ℕ) (j : ℕ) → n ≡ 1 → FaultBy (n ∷ given) j
  at_once n given j h = record { at = 0; by = zero-le; is_fault = h }

  keep_pair : {xs ys : List Bytes} {e : Interleaved whole xs ys} (r : Bytes) {o₁ o₂ : Result} → Together o₁ o₂
      → (Along o₁.state o₂.state → Pair e (answers K o₁.state xs) (answers K o₂.state ys))
      → Pair (keep {r = r} e) (number o₁.answer ∷ answers K o₁.state xs) (number o₂.answer ∷ answers K o₂.state ys)
  keep_pair r {o₁} {o₂} (alike q a) rest =
      let p = rest a in
      record {
        same = elim [ zero ↦ λ l. inl q | suc i ↦ λ l. later (number o₂.answer) (p.same i (le_of_suc-le-suc l)) ];
        old = elim [ zero ↦ λ l h. inr (sym q ∙ h) | suc i ↦ λ l h. p.old i (le_of_suc-le-suc l) h ];
      }
  keep_pair {ys} {e} r {o₁} {o₂} (faulted h c z) rest =
      record {
        same = λ i l. inr (at_once (number o₂.answer) (answers K o₂.state ys) (place (keep {r = r} e) i) h);
        old = elim [ zero ↦ λ l k. z | suc i ↦ λ l k. absurd (closed_no_fault K o₂.state ys (place e i) c k) ];
      }

  insert_pair : {xs ys : List Bytes} {e : Interleaved whole xs ys} {r : Bytes} (f : Foreign whole r) {s₁ : State} {o₂ : Result} → Aside s₁ o₂
      → (Along s₁ o₂.state → Pair e (answers K s₁ xs) (answers K o₂.state ys))
      → Pair (insert {r = r} f e) (answers K s₁ xs) (number o₂.answer ∷ answers K o₂.state ys)
  insert_pair f {o₂} (apart a) rest =
      let p = rest a in
      record { same = λ i l. later (number o₂.answer) (p.same i l); old = p.old }
  insert_pair {ys} {e} f {o₂} (faulted h c) rest =
      record {
        same = λ i l. inr (at_once (number o₂.answer) (answers K o₂.state ys) (suc (place e i)) h);
        old = λ i l k. absurd (closed_no_fault K o₂.state ys (place e i) c k);
      }

  never_later : {answer first : ℕ} {given : List ℕ} → Never answer (first ∷ given) → Never answer given
  never_later n = record { never = λ i. n.never (suc i) }

  pairs : {xs ys : List Bytes} (e : Interleaved whole xs ys) → ((r : Bytes) → Memᴰ r xs → Memᴰ r whole) → (s₁ s₂ : State) → Along s₁ s₂
      → Never 19 (answers K s₂ ys) → Never 9 (answers K s₂ ys) → Pair e (answers K s₁ xs) (answers K s₂ ys)
  pairs done sub s₁ s₂ a m n = record { same = λ i l. absurd (not-suc-le-zero l); old = λ i l h. absurd (not-suc-le-zero l) }
  pairs (keep {r} e) sub s₁ s₂ a m n =
      keep_pair r (both_step r a (sub r (Memᴰ.head refl)) (m.never 0) (n.never 0))
      (λ b. pairs e (λ x m. sub x (Memᴰ.tail m)) (step K s₁ r).state (step K s₂ r).state b (never_later m) (never_later n))
  pairs (insert {r} f e) sub s₁ s₂ a m n =
      insert_pair f (aside_step r a f) (λ b. pairs e sub s₁ (step K s₂ r).state b (never_later m) (never_later n))

fault_kept : {given : List ℕ} (n j : ℕ) → n ≡ 1 → (get_or given j 0 ≡ n) ⊎ FaultBy given j → FaultBy given j
fault_kept n j h (inl q) = record { at = j; by = le_refl j; is_fault = q ∙ h }
fault_kept n j h (inr f) = f

-- ---- What the statement's words come to.

-- A malformed record names no core, so it may be put in anywhere.
pub malformed_foreign : (rs : List Bytes) (r : Bytes) → is_malformed r ≡ true → Foreign rs r
malformed_foreign rs r h =
    record { apart = λ core n m. false≢true (sym n.formed ∙ h); ordinary = λ w. absurd (false≢true (sym w ∙ h)) }

-- `place` is where the first list's record stands: the same record, inside the second list, in the first list's order.
pub place_same : {whole xs ys : List Bytes} (e : Interleaved whole xs ys) (i : ℕ) → i < length xs → get_or ys (place e i) [] ≡ get_or xs i []
place_same done i l = refl
place_same (keep e) zero l = refl
place_same (keep e) (suc i) l = place_same e i (le_of_suc-le-suc l)
place_same (insert f e) i l = place_same e i l

pub place_inside : {whole xs ys : List Bytes} (e : Interleaved whole xs ys) (i : ℕ) → i < length xs → place e i < length ys
place_inside done i l = l
place_inside (keep e) zero l = suc-le-suc zero-le
place_inside (keep e) (suc i) l = suc-le-suc (place_inside e i (le_of_suc-le-suc l))
place_inside (insert f e) i l = suc-le-suc (place_inside e i l)

pub place_order : {whole xs ys : List Bytes} (e : Interleaved whole xs ys) (i j : ℕ) → i < j → place e i < place e j
place_order done i j l = l
place_order (keep e) i zero l = absurd (not-suc-le-zero l)
place_order (keep e) zero (suc j) l = suc-le-suc zero-le
place_order (keep e) (suc i) (suc j) l = suc-le-suc (place_order e i j (le_of_suc-le-suc l))
place_order (insert f e) i j l = suc-le-suc (place_order e i j l)

-- What is in progress was acquired when no more was kept than is now: at opening and after a join nothing is.
pub record Started (x : Crosslocks) : Type 0 where
  pub inside : (c : ℕ) → x.progress c ≡ true → x.since c ≤ length x.history

-- From an open state.
more_evidence_open : (K : ℕ) → K ≤ max_classes → (s : State) → s.is_closed ≡ false → Started s.cross → {xs ys : List Bytes} (e : Interleaved xs xs ys)
    → Never 19 (answers K s ys) → Never 9 (answers K s ys) → MoreEvidence K s e (answers K s xs) (answers K s ys)
more_evidence_open K few s o st {xs} {ys} e m n =
    let x : CrossAlong (NamedIn xs) s.cross s.cross =
    record {
      declared = refl;
      progress = refl;
      shorter = le_refl (length s.cross.history);
      inside = λ c l h. st.inside c h;
      covers = λ c l h. record { covered = λ i n t y. y };
    } in
    let a : Along K few xs s s =
    record { open₁ = o; open₂ = o; agree = λ i n. refl; within = within_self s.graph; cross = x; fewer = le_refl s.journal.accepted } in
    let p = pairs K few xs e (λ r m. m) s s a m n in
    record {
      same = p.same;
      true_fault = λ j h. cyclic_sound K (graph_at K s ys j) (fault_cycle K s ys j h);
      old = p.old;
      shut = shut_after K s ys;
      sooner = λ i l h. fault_kept (get_or (answers K s xs) i 0) (place e i) h (p.same i l);
    }

-- From a closed one, where every answer is 10.
more_evidence_closed : (K : ℕ) (s : State) → s.is_closed ≡ true → {xs ys : List Bytes} (e : Interleaved xs xs ys)
    → MoreEvidence K s e (answers K s xs) (answers K s ys)
more_evidence_closed K s c {xs} {ys} e =
    record {
      same = λ i l. inl (rw (closed_answers K s xs c, closed_answers K s ys c)
          (get_or-replicate (length ys) (place e i) 10 0 (place_inside e i l) ∙ sym (get_or-replicate (length xs) i 10 0 l)));
      true_fault = λ j h. absurd (closed_no_fault K s ys j c h);
      old = λ i l h. absurd (closed_no_fault K s ys (place e i) c h);
      shut = shut_after K s ys;
      sooner = λ i l h. absurd (closed_no_fault K s xs i c h);
    }

-- Demand 3, from any state, "if neither run meets 9" and "neither run meets 19": where the second does not, the first does not either, so that is all that
-- is asked.
pub more_evidence : (K : ℕ) → K ≤ max_classes → (s : State) → Started s.cross → {xs ys : List Bytes} (e : Interleaved xs xs ys)
    → Never 19 (answers K s ys) → Never 9 (answers K s ys) → MoreEvidence K s e (answers K s xs) (answers K s ys)
more_evidence K few s st {xs} {ys} e m n = by s.is_closed refl
  where
    by : (b : Bool) → s.is_closed ≡ b → MoreEvidence K s e (answers K s xs) (answers K s ys)
    by false o = more_evidence_open K few s o st e m n
    by true c = more_evidence_closed K s c e
