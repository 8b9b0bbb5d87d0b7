-- The contracts settle every byte; demands 1 and 2 and the balance law of the calls. Assumes nothing.
use mathlib.Core.Path.{◌≡◌, refl, sym, ap, ◌∙◌, subst, subst₂, fun_ext}
use mathlib.Core.Bool.{Bool, true, false}
use mathlib.Core.List.{List, [], ◌∷◌, ◌++◌}
use mathlib.Core.Logic.{◌⊎◌, ◌↔◌}
use Prim.Native.Nat.{ℕ, suc, ◌+◌, ◌*◌, ◌<◌, ◌≤◌}
use native.Mathlib.Decide.{ℕ_discrete, dec_lt}
use native.Mathlib.Omega.{arith}
use lib.Dec.{leb, eqb}
use lib.Count.{ones}
use lib.ListN.{length, take}
use borrow.Author.Tests.{leb-true, le-leb, lt-ltb, eqb-true, eq-eqb}
use Rattle.words.specs.Bits.{bit, flag}
use Rattle.words.proofs.Words.{bit_two, bits_same}
use Rattle.rules.specs.Record.{Bytes}
use Rattle.rules.specs.Graph.{Graph}
use Rattle.rules.specs.StrongPath.{ClosedStrongPath}
use Rattle.rules.specs.Verdict.{number}
use Rattle.rules.specs.Run.{State, Result, step, run, graph_at}
use Rattle.rules.specs.Balance.{acquires, releases, tally, standing}
use Rattle.rules.proofs.Booleans.{and_cases, and_both}
use Rattle.rules.proofs.Steps.{StepCases, was_refused, was_clean, was_fault, stepped, refused_number, step_exactly}
use Rattle.rules.specs.FirstSeen.{number_after}
use Rattle.rules.proofs.Balanced.{balanced}
use Rattle.rules.proofs.Journals.{accepted_counted, first_seen}
use Rattle.layout.specs.Layout.{history_size, slip_size, classes_of, closed_of, kinds_of, number_of}
use Rattle.layout.specs.Decoding.{view, CarriedOut}
use Rattle.layout.specs.Fit.{fits, entries_fit, fits_all}
use Rattle.fit.proofs.Facts.{facts, number_facts}
use Rattle.layout.proofs.Buffers.{cell_inside}
use Rattle.fit.proofs.Fitting.{stand_encodes}
use Rattle.fit.proofs.Settled.{settled_desk_after, settled_sheet_after, settled_seen_after, settled_history_after}
use Rattle.validator.specs.Step.{Validated}
use Rattle.question.specs.Question.{Asked}
use Rattle.validator.specs.Calls.{Buffers, Called}
use Rattle.plungerowl.specs.Runs.{Ran, Start}
use Rattle.validator.proofs.Reports.{reported_one}
use Rattle.plungerowl.specs.Demands.{SameStep, ClosedByFault, FaultExactly, DrawnFromRecords, NumberedFromRecords, Balanced}
use Rattle.plungerowl.proofs.Runs.{held_fit, validated_by, carried_slip, run_holds, start_holds, start_uncounted, start_unheld}

-- ---- The contracts settle the number and every byte, for every input.

-- One result of the rules, carried out in the same buffers.
pub carried_settles : {K : ℕ} {o : Result} {b b₁ b₂ : Buffers} {x y : ℕ} → 1 ≤ K
    → CarriedOut K o b.desk b.sheet b.seen b.history b.slip x b₁.desk b₁.sheet b₁.seen b₁.history b₁.slip
    → CarriedOut K o b.desk b.sheet b.seen b.history b.slip y b₂.desk b₂.sheet b₂.seen b₂.history b₂.slip → SameStep x y b₁ b₂
carried_settles {K} {o} {b} {b₁} {b₂} {x} some u v =
    let s = o.state in
    let n = u.number_is ∙ sym v.number_is in
    record {
      number_is = n;
      desk_is = settled_desk_after K s.is_closed s.cores s.graph.marks s.journal.accepted s.cross b₁.desk b₂.desk b₁.history b₂.history
          (stand_encodes u.stands).in_desk (stand_encodes v.stands).in_desk (stand_encodes u.stands).in_count (stand_encodes v.stands).in_count
          (stand_encodes u.stands).in_cross (stand_encodes v.stands).in_cross b.desk u.keeps_desk v.keeps_desk;
      sheet_is = settled_sheet_after K some s.graph.locks b₁.sheet b₂.sheet (stand_encodes u.stands).in_sheet (stand_encodes v.stands).in_sheet
          b.sheet u.keeps_sheet v.keeps_sheet;
      seen_is = settled_seen_after K some s.journal.seen b₁.seen b₂.seen (stand_encodes u.stands).in_seen (stand_encodes v.stands).in_seen b.seen
          u.keeps_seen v.keeps_seen;
      history_is = settled_history_after s.cross.history b₁.history b₂.history (stand_encodes u.stands).in_cross.entries
          (stand_encodes v.stands).in_cross.entries b.history u.keeps_history v.keeps_history;
      slip_is = elim (ℕ_discrete x 1) [
        | yes z ↦ reported_one (u.reported z) (v.reported (sym n ∙ z))
        | no h ↦ u.unreported h ∙ sym (v.unreported (λ z. h (n ∙ z)))
      ];
    }

module _ {b b₁ b₂ : Buffers} {r : Bytes} {x y : ℕ} (p : Called b r x b₁) (q : Called b r y b₂) where
  pub step_settles : SameStep x y b₁ b₂
  unfolding fits_all
  step_settles = by (fits_all b.desk b.sheet b.seen b.history b.slip) refl
    where
      by : (t : Bool) → fits_all b.desk b.sheet b.seen b.history b.slip ≡ t → SameStep x y b₁ b₂
      by true e =
          carried_settles {b = b} {b₁ = b₁} {b₂ = b₂} (facts b.desk b.sheet b.seen (and_cases (fits b.desk b.sheet b.seen) _ e).0).some (p.validated e) (q.validated e)
      by false e =
          let u = p.is_unfit e in
          let v = q.is_unfit e in
          record {
            number_is = u.0 ∙ sym v.0;
            desk_is = u.1 ∙ sym v.1;
            sheet_is = u.2 ∙ sym v.2;
            seen_is = u.3 ∙ sym v.3;
            history_is = u.4 ∙ sym v.4;
            slip_is = u.5 ∙ sym v.5;
          }

-- A digit is 0 or 1, so digits that are 1 together are the same.
same_bit : (x y : ℕ) → x < 2 → y < 2 → (x ≡ 1 → y ≡ 1) → (y ≡ 1 → x ≡ 1) → x ≡ y
same_bit x y l m p q =
    elim (ℕ_discrete x 1) [ yes e ↦ e ∙ sym (p e) | no n ↦ elim (ℕ_discrete y 1) [ yes e ↦ absurd (n (q e)) | no o ↦ omega arith ] ]

pub ask_settles : {desk sheet seen : List ℕ} {class a word count a' word' count' : ℕ} → Asked desk sheet seen class a word count
    → Asked desk sheet seen class a' word' count' → (a ≡ a') × (word ≡ word') × (count ≡ count')
ask_settles {desk} {sheet} {seen} {class} {a} {word} {count} {a'} {word'} {count'} p q = by (fits desk sheet seen) refl
  where
    three : {x y z : ℕ} → (a ≡ x) × (word ≡ y) × (count ≡ z) → (a' ≡ x) × (word' ≡ y) × (count' ≡ z) → (a ≡ a') × (word ≡ word') × (count ≡ count')
    three u v = (u.0 ∙ sym v.0, u.1 ∙ sym v.1, u.2 ∙ sym v.2)

    by : (t : Bool) → fits desk sheet seen ≡ t → (a ≡ a') × (word ≡ word') × (count ≡ count')
    by false e = three (p.is_unfit e) (q.is_unfit e)
    by true e = elim (dec_lt class (classes_of desk)) [
      | yes l ↦
          let u = p.answered e l in
          let v = q.answered e l in
          let w : word ≡ word' =
          bits_same (word + word') word word' (omega arith) (omega arith)
          (λ t. same_bit (bit word t) (bit word' t) (bit_two word t) (bit_two word' t) (λ h. (v.1 t).1 ((u.1 t).0 h)) (λ h. (u.1 t).1 ((v.1 t).0 h))) in
          (u.0 ∙ sym v.0, w, u.2 ∙ ap ones w ∙ sym v.2)
      | no n ↦ three (p.no_such_class e (omega arith)) (q.no_such_class e (omega arith))
    ]

-- Demand 2, of a validated record.
validated_verdict : (K : ℕ) (s : State) (r : Bytes) {desk sheet seen history slip desk' sheet' seen' history' slip' : List ℕ} {answer : ℕ}
    → Validated K s r desk sheet seen history slip answer desk' sheet' seen' history' slip'
    → FaultExactly K (step K s r).state.graph (step K s r).state.journal.seen answer slip slip'
validated_verdict K s r j =
    record {
      exactly = subst (λ (n : ℕ). (n ≡ 0) ⊎ (n ≡ 1) → (n ≡ 1) ↔ ClosedStrongPath K (step K s r).state.graph) (sym j.number_is) (step_exactly K s r);
      cycle = j.reported;
    }

-- ---- Fit buffers, from wherever they come, are taken as they stand.

module _ {b b' : Buffers} {r : Bytes} {answer : ℕ} (e : fits_all b.desk b.sheet b.seen b.history b.slip ≡ true) (t : Called b r answer b') where
  -- A step keeps them fit.
  pub fit_kept : fits_all b'.desk b'.sheet b'.seen b'.history b'.slip ≡ true
  unfolding fits_all
  fit_kept =
      let p = and_cases (fits b.desk b.sheet b.seen) _ e in
      let j = t.validated e in
      let q = and_cases (leb history_size (length b.history)) _ p.1 in
      let long = leb-true history_size (length b.history) q.0 in
      let room = leb-true (slip_size (classes_of b.desk)) (length b.slip) (and_cases (entries_fit b.desk b.history) _ q.1).1 in
      let l = carried_slip j in
      let k = j.keeps_history.long in
      and_both j.stands.fit
      (and_both (le-leb history_size (length b'.history) (omega arith))
      (and_both j.stands.entries (rw j.stands.classes (le-leb (slip_size (classes_of b.desk)) (length b'.slip) (omega arith)))))

  -- Demand 2: a fault exactly when the graph then has a closed strong path.
  pub step_verdict : FaultExactly (classes_of b.desk) (step (classes_of b.desk) (view b.desk b.sheet b.seen b.history) r).state.graph
      (step (classes_of b.desk) (view b.desk b.sheet b.seen b.history) r).state.journal.seen answer b.slip b'.slip
  step_verdict = validated_verdict (classes_of b.desk) (view b.desk b.sheet b.seen b.history) r (t.validated e)

-- ---- Demand 1.

-- Of the rules: an open state is closed exactly by a fault.
closed_by : {K : ℕ} {s : State} {r : Bytes} {o : Result} → StepCases K s r o → s.is_closed ≡ false
    → (flag o.state.is_closed ≡ 1) ↔ (number o.answer ≡ 1)
closed_by (was_refused x e) h = (λ z. absurd (let w : flag false ≡ 1 = ap flag (sym h) ∙ z in omega arith), λ z. absurd (let n = refused_number x in omega arith))
closed_by (was_clean e c) h = (λ z. absurd (let w : flag false ≡ 1 = ap flag (sym h) ∙ z in omega arith), λ z. absurd (omega arith))
closed_by (was_fault e c) h = (λ z. refl, λ z. refl)

pub closed_by_fault : {b b' : Buffers} {r : Bytes} {answer : ℕ} → Called b r answer b' → ClosedByFault b.desk answer b'.desk
closed_by_fault {b} {b'} {r} {answer} t = record { exactly = λ z. by z (fits_all b.desk b.sheet b.seen b.history b.slip) refl }
  where
    by : closed_of b.desk ≡ 0 → (u : Bool) → fits_all b.desk b.sheet b.seen b.history b.slip ≡ u → (closed_of b'.desk ≡ 1) ↔ (answer ≡ 1)
    by z true e =
        let j = t.validated e in
        let w = closed_by (stepped (classes_of b.desk) (view b.desk b.sheet b.seen b.history) r) (rw z refl) in
        let c = (stand_encodes j.stands).in_desk.closed in
        (λ q. j.number_is ∙ w.0 (sym c ∙ q), λ q. c ∙ w.1 (sym j.number_is ∙ q))
    by z false e =
        let u = t.is_unfit e in
        let same : closed_of b'.desk ≡ 0 = ap closed_of u.1 ∙ z in
        (λ q. absurd (omega arith), λ q. absurd (let n = u.0 in omega arith))

-- ---- Demand 2, of runs from opening or from a join.

pub run_drawn : {K : ℕ} {s : State} {b b' : Buffers} {rs : List Bytes} {given : List ℕ} → Start K s b → Ran b rs given b' → DrawnFromRecords K s rs b'
run_drawn o w = let h = run_holds (start_holds o) w in record { stands = h.stands; stays_fit = held_fit h }

-- The last record of a list, in the rules.
take_all : (rs : List Bytes) (r : Bytes) → take (suc (length rs)) (rs ++ (r ∷ [])) ≡ rs ++ (r ∷ [])
take_all [] r = refl
take_all (x ∷ rs) r = ap {B = List Bytes} (λ (l : List Bytes). x ∷ l) (take_all rs r)

run_last : (K : ℕ) (s : State) (rs : List Bytes) (r : Bytes) → run K s (rs ++ (r ∷ [])) ≡ (step K (run K s rs) r).state
run_last K s [] r = refl
run_last K s (x ∷ rs) r = run_last K (step K s x).state rs r

-- The graph and the numbers with what the last record draws, from the records alone.
pub run_verdict : {K : ℕ} {s : State} {b b' b'' : Buffers} {rs : List Bytes} {given : List ℕ} {r : Bytes} {answer : ℕ} → Start K s b → Ran b rs given b'
    → Called b' r answer b'' → FaultExactly K (graph_at K s (rs ++ (r ∷ [])) (length rs)) (number_after K s (rs ++ (r ∷ []))) answer b'.slip b''.slip
run_verdict {K} {s} {b' = b'} {b''} {rs} {r = r} {answer} o w t =
    let v = validated_verdict K (run K s rs) r (validated_by (run_holds (start_holds o) w) {b' = b''} t) in
    subst₂ (λ (g : Graph) (n : ℕ → ℕ → ℕ). FaultExactly K g n answer b'.slip b''.slip)
    (ap (λ (s : State). s.graph) (sym (run_last K s rs r)) ∙ ap (λ (l : List Bytes). (run K s l).graph) (sym (take_all rs r)))
    (ap (λ (s : State). s.journal.seen) (sym (run_last K s rs r)) ∙ fun_ext (λ f. fun_ext (λ t. first_seen K s (start_uncounted o) (rs ++ (r ∷ [])) f t))) v

-- ---- Request e, of such runs.

pub run_numbered : {K : ℕ} {s : State} {b b' : Buffers} {rs : List Bytes} {given : List ℕ} → Start K s b → Ran b rs given b' → NumberedFromRecords K s rs b'
run_numbered {K} {s} {b' = b'} {rs} o w =
    let h = (run_holds (start_holds o) w).stands in
    let n = number_facts b'.desk b'.sheet b'.seen h.fit in
    let k : classes_of b'.desk ≡ K = h.classes in
    let same : (f t : ℕ) → f < K → t < K → eqb (number_of b'.seen K f t) 0 ≡ eqb (kinds_of b'.sheet K f t) 0 =
    λ f t l m. n.numbered (f * K + t) (rw k (cell_inside K f t l m)) in
    record {
      counted = ap (λ (s : State). s.journal.accepted) h.is_view ∙ accepted_counted K s (start_uncounted o) rs;
      numbered = λ f t l m.
          let e : (view b'.desk b'.sheet b'.seen b'.history).journal.seen f t ≡ number_of b'.seen K f t = rw (k, lt-ltb f K l, lt-ltb t K m) refl in
          sym e ∙ ap (λ (s : State). s.journal.seen f t) h.is_view ∙ first_seen K s (start_uncounted o) rs f t;
      none = λ f t l m. (
        λ z. eqb-true (kinds_of b'.sheet K f t) 0 (sym (same f t l m) ∙ eq-eqb (number_of b'.seen K f t) 0 z),
        λ z. eqb-true (number_of b'.seen K f t) 0 (same f t l m ∙ eq-eqb (kinds_of b'.sheet K f t) 0 z),
      );
    }

-- ---- The balance law.

pub run_balanced : {K : ℕ} {s : State} {b b' : Buffers} {rs : List Bytes} {given : List ℕ} → Start K s b → Ran b rs given b' → Balanced K s rs b'
run_balanced {K} {s} {b' = b'} {rs} o w =
    record {
      balance = λ core f class.
          subst (λ (u : State). standing class ((u.cores core).held f) + tally K core f (releases class) s rs ≡ tally K core f (acquires class) s rs)
          (sym (run_holds (start_holds o) w).stands.is_view) (balanced K s (start_unheld o) rs core f class).balance;
    }
