-- Calls of the joiner: every byte is settled, in either order they give the same, and what they draw is worked out from the records of both benches.
-- Assumes nothing.
use mathlib.Core.Path.{◌≡◌, refl, sym, ap, ap₂, ◌∙◌, subst, subst₂}
use mathlib.Core.Bool.{Bool, true, false, not, ◌&&◌, ◌||◌}
use mathlib.Core.List.{List, []}
use mathlib.Core.Logic.{inl, inr}
use Prim.Native.Nat.{ℕ, zero, suc, ◌+◌, ◌*◌, ◌/◌, ◌%◌, ◌<◌, ◌≤◌}
use native.Mathlib.Decide.{ℕ_discrete, dec_lt}
use native.Mathlib.Omega.{arith}
use lib.Dec.{leb, eqb}
use lib.ListN.{length, get_or, get_or-append}
use borrow.Author.Tests.{lt-ltb, le-ltb, ne_eqb}
use Rattle.rules.specs.Record.{Bytes}
use Rattle.rules.specs.HeldLocks.{Core}
use Rattle.rules.specs.Graph.{Graph}
use Rattle.rules.specs.Cycle.{Entry, entry_bytes, entry_at}
use Rattle.rules.specs.Verdict.{number}
use Rattle.rules.specs.Crosslocks.{Crosslocks}
use Rattle.rules.specs.Run.{State, Result, run}
use Rattle.rules.specs.Join.{joined_graph, join}
use Rattle.rules.specs.Log.{Outcome}
use Rattle.rules.proofs.LeastCycles.{least_one}
use Rattle.rules.proofs.Joined.{or_swap, join_either_way, join_exactly, joined_as}
use Rattle.layout.specs.Layout.{accepted_at, number_size, entries_at, entry_size, entry_number_at, slip_size, classes_of, declared_of, member_of, KeepsPast}
use Rattle.rules.specs.Number.{bytes_of}
use Rattle.layout.specs.Encoding.{DeskBytes, SheetBytes, NumberBytes, CrossBytes}
use Rattle.layout.specs.Decoding.{StandFor, SlipBytes, Reported, entry_seen, CarriedOut}
use Rattle.fit.proofs.Facts.{facts}
use Rattle.fit.proofs.Fitting.{stand_encodes, any_history}
use Rattle.fit.proofs.Settled.{settled_desk_after, settled_sheet_after}
use Rattle.validator.specs.Calls.{Buffers, buffers}
use Rattle.benches.specs.Benches.{Bench, bench_fits, bench_classes, bench_state, is_closed, larger, same_classes, has_room, join_unfit, join_refusal}
use Rattle.joiner.proofs.Joins.{passed}
use Rattle.plungerowl.specs.Runs.{Ran, SameBench, Start}
use Rattle.plungerowl.specs.Demands.{SameStep, FaultExactly}
use Rattle.plungerowl.specs.Logs.{classes_in, word_in, records_in, outcome_for, WholeLog, short_header, bad_header, by_rules}
use Rattle.plungerowl.specs.Joins.{CalledJoin, bench_of, JoinedFrom, NoNumber, EitherOrder}
use Rattle.plungerowl.proofs.Runs.{carried_slip, run_holds, start_holds, join_carried, join_same, joined_empty}
use Rattle.plungerowl.proofs.Demands.{carried_settles}

-- ---- The contract settles the number and every byte, for every input.

pub join_settles : {one two : Bench} {b b₁ b₂ : Buffers} {x y : ℕ} → CalledJoin one two b x b₁ → CalledJoin one two b y b₂ → SameStep x y b₁ b₂
join_settles {one} {two} {b} {b₁} {b₂} p q =
    elim (ℕ_discrete (join_refusal one two (length b.desk) (length b.sheet) (length b.seen) (length b.slip)) 0) [
      | yes z ↦
          let f = facts one.desk one.sheet one.seen (passed one two b.desk b.sheet b.seen b.slip z).fit₁ in
          let bare : Buffers → Buffers = λ c. buffers c.desk c.sheet c.seen [] c.slip in
          let w = carried_settles {b = bare b} {b₁ = bare b₁} {b₂ = bare b₂} f.some (p.0.is_joined z) (q.0.is_joined z) in
          record {
            number_is = w.number_is;
            desk_is = w.desk_is;
            sheet_is = w.sheet_is;
            seen_is = w.seen_is;
            history_is = p.1 ∙ sym q.1;
            slip_is = w.slip_is;
          }
      | no n ↦
          let u = p.0.is_refused (omega arith) in
          let v = q.0.is_refused (omega arith) in
          record {
            number_is = u.0 ∙ sym v.0;
            desk_is = u.1 ∙ sym v.1;
            sheet_is = u.2 ∙ sym v.2;
            seen_is = u.3 ∙ sym v.3;
            history_is = p.1 ∙ sym q.1;
            slip_is = u.4 ∙ sym v.4;
          }
    ]

-- ---- What is joined.

pub join_from : {one two : Bench} {b b' : Buffers} {answer : ℕ} → CalledJoin one two b answer b' → answer ≤ 1
    → JoinedFrom (bench_classes one) (bench_state one) (bench_state two) answer b b'
join_from {one} {two} {b} {b'} {answer} p l =
    let K = bench_classes one in
    let s = bench_state one in
    let t = bench_state two in
    let c = join_carried b b' p.0 l in
    let e = (joined_as K s t).graph in
    record {
      stands = any_history c.stands (joined_empty K s t) b'.history;
      verdict = record {
        exactly = λ _. (
          λ z. (join_exactly K s t).0 (sym c.number_is ∙ z),
          λ w. c.number_is ∙ (join_exactly K s t).1 w,
        );
        cycle = λ z. subst (λ (g : Graph). Reported K g (join K s t).state.journal.seen b.slip b'.slip) e (c.reported z);
      };
    }

-- A bench is what its buffers stand for, but for the history.
bench_same : {K : ℕ} {s : State} (b : Buffers) → StandFor K s b.desk b.sheet b.seen b.history → SameBench (bench_state (bench_of b)) s
bench_same b h =
    record {
      graph = ap (λ (u : State). u.graph) h.is_view;
      journal = ap (λ (u : State). u.journal) h.is_view;
      declared = ap (λ (u : State). u.cross.declared) h.is_view;
    }

-- So what is joined is the join of the states.
from_same : {K : ℕ} {s s' t t' : State} {b b' : Buffers} {answer : ℕ} → SameBench s s' → SameBench t t' → JoinedFrom K s t answer b b' → JoinedFrom K s' t' answer b b'
from_same {K} {s} {s'} {t} {t'} {b} {b'} {answer} p q j =
    let e = join_same K p q in
    record {
      stands = subst (λ (o : Result). StandFor K o.state b'.desk b'.sheet b'.seen b'.history) e j.stands;
      verdict = subst₂ (λ (g : Graph) (o : Result). FaultExactly K g o.state.journal.seen answer b.slip b'.slip) (ap₂ joined_graph p.graph q.graph) e j.verdict;
    }

benches_joined : {K L : ℕ} {s t : State} (c₁ c₂ : Buffers) {b b' : Buffers} {answer : ℕ} → StandFor K s c₁.desk c₁.sheet c₁.seen c₁.history
    → StandFor L t c₂.desk c₂.sheet c₂.seen c₂.history → CalledJoin (bench_of c₁) (bench_of c₂) b answer b' → answer ≤ 1 → JoinedFrom K s t answer b b'
benches_joined {K} {L} {s} {t} c₁ c₂ {b} {b'} {answer} h g p l =
    from_same (bench_same c₁ h) (bench_same c₂ g)
    (subst (λ (k : ℕ). JoinedFrom k (bench_state (bench_of c₁)) (bench_state (bench_of c₂)) answer b b') h.classes (join_from {b = b} {b' = b'} p l))

-- Benches that runs left, each from opening or from a join: what is joined are the graphs of their records.
pub runs_joined : {K : ℕ} {s t : State} {b₁ c₁ b₂ c₂ b b' : Buffers} {xs ys : List Bytes} {given₁ given₂ : List ℕ} {answer : ℕ} → Start K s b₁ → Ran b₁ xs given₁ c₁
    → Start K t b₂ → Ran b₂ ys given₂ c₂ → CalledJoin (bench_of c₁) (bench_of c₂) b answer b' → answer ≤ 1 → JoinedFrom K (run K s xs) (run K t ys) answer b b'
runs_joined {c₁ = c₁} {c₂ = c₂} o₁ w₁ o₂ w₂ p l =
    let h = (run_holds (start_holds o₁) w₁).stands in
    let g = (run_holds (start_holds o₂) w₂).stands in
    benches_joined c₁ c₂ h g p l

-- ---- In either order.

or_swap₂ : (a b c : Bool) → (not a || (not b || c)) ≡ (not b || (not a || c))
or_swap₂ true true c = refl
or_swap₂ true false c = refl
or_swap₂ false true c = refl
or_swap₂ false false c = refl

larger_swap : (k k' : ℕ) → larger k k' ≡ larger k' k
larger_swap k k' =
    elim (dec_lt k k') [
      | yes l ↦ rw (lt-ltb k k' l, le-ltb k' k (let m : k ≤ k' = omega arith in m)) refl
      | no n ↦ elim (dec_lt k' k) [
        | yes m ↦ rw (lt-ltb k' k m, le-ltb k k' (let m : k' ≤ k = omega arith in m)) refl
        | no m ↦ let e : k ≡ k' = omega arith in rw e refl
      ]
    ]

eqb_swap : (k k' : ℕ) → eqb k k' ≡ eqb k' k
eqb_swap k k' = elim (ℕ_discrete k k') [ yes e ↦ rw e refl | no n ↦ ne_eqb k k' n ∙ sym (ne_eqb k' k (λ e. n (sym e))) ]

classes_swap : (desk₁ desk₂ : List ℕ) → same_classes desk₁ desk₂ ≡ same_classes desk₂ desk₁
unfolding same_classes
classes_swap desk₁ desk₂ = ap₂ ◌&&◌ (eqb_swap (classes_of desk₁) (classes_of desk₂)) (eqb_swap (declared_of desk₁) (declared_of desk₂))

refusal_swap : (one two : Bench) (desk sheet seen slip : ℕ) → join_refusal one two desk sheet seen slip ≡ join_refusal two one desk sheet seen slip
unfolding join_refusal join_unfit
refusal_swap one two desk sheet seen slip =
    rw (
      larger_swap (bench_classes one) (bench_classes two),
      classes_swap one.desk two.desk,
      or_swap (is_closed one) (is_closed two),
      or_swap₂ (bench_fits one) (bench_fits two) (not (has_room (larger (bench_classes two) (bench_classes one)) desk sheet seen slip)),
    ) refl

-- The entries of two slips of one cycle, whatever the numbers.
same_entries : {numbers numbers' : ℕ → ℕ → ℕ} (es : List Entry) {x y : List ℕ} → SlipBytes numbers es x → SlipBytes numbers' es y → (i : ℕ) → i < entry_size * length es
    → i % entry_size < entry_number_at → get_or x (suc i) 0 ≡ get_or y (suc i) 0
same_entries {numbers} {numbers'} es {x} {y} p q i l m =
    let e : entries_at + entry_size * (i / entry_size) + i % entry_size ≡ suc i = omega arith in
    let a : i / entry_size < length es = omega arith in
    let k : i % entry_size < entry_size = omega arith in
    subst (λ (z : ℕ). get_or x z 0 ≡ get_or y z 0) e
    (p.entries (i / entry_size) (i % entry_size) a k
    ∙ get_or-append (entry_bytes (entry_at es (i / entry_size))) (bytes_of number_size (entry_seen numbers es (i / entry_size))) 0 (i % entry_size) m
    ∙ sym (get_or-append (entry_bytes (entry_at es (i / entry_size))) (bytes_of number_size (entry_seen numbers' es (i / entry_size))) 0 (i % entry_size) m)
    ∙ sym (q.entries (i / entry_size) (i % entry_size) a k))

slips_alike : {K : ℕ} {g : Graph} {numbers numbers' : ℕ → ℕ → ℕ} {slip x y : List ℕ} → Reported K g numbers slip x → Reported K g numbers' slip y
    → (j : ℕ) → NoNumber x j → get_or x j 0 ≡ get_or y j 0
slips_alike {numbers = numbers} {numbers'} {slip} {x} {y} p q j h = by j h
  where
    es : List Entry
    es = p.entries

    other : SlipBytes numbers' es y × KeepsPast (slip_size (length es)) slip y
    other = subst (λ (fs : List Entry). SlipBytes numbers' fs y × KeepsPast (slip_size (length fs)) slip y) (sym (least_one p.least q.least)) (q.bytes, q.keeps)

    past : (j : ℕ) → slip_size (length es) ≤ j → get_or x j 0 ≡ get_or y j 0
    past j l = p.keeps.past j l ∙ sym (other.1.past j l)

    by : (j : ℕ) → NoNumber x j → get_or x j 0 ≡ get_or y j 0
    by j (inl z) = rw z (p.bytes.count ∙ sym other.0.count)
    by j (inr (inr l)) = past j (let c = p.bytes.count in omega arith)
    by zero (inr (inl m)) = p.bytes.count ∙ sym other.0.count
    by (suc i) (inr (inl m)) =
        elim (dec_lt i (entry_size * length es)) [
          | yes l ↦ same_entries es p.bytes other.0 i l (m i refl)
          | no n ↦ past (suc i) (omega arith)
        ]

pub join_either_order : {one two : Bench} {b b₁ b₂ : Buffers} {x y : ℕ} → CalledJoin one two b x b₁ → CalledJoin two one b y b₂ → EitherOrder x y b₁ b₂
join_either_order {one} {two} {b} {b₁} {b₂} {x} {y} p q =
    elim (ℕ_discrete (join_refusal one two (length b.desk) (length b.sheet) (length b.seen) (length b.slip)) 0) [
      | yes z ↦ both_joined z
      | no n ↦
          let u = p.0.is_refused (omega arith) in
          let v = q.0.is_refused (let e = swap in omega arith) in
          record {
            number_is = u.0 ∙ swap ∙ sym v.0;
            desk_is = u.1 ∙ sym v.1;
            sheet_is = u.2 ∙ sym v.2;
            seen_long = ap length (u.3 ∙ sym v.3);
            slip_long = ap length (u.4 ∙ sym v.4);
            slip_is = λ j _. ap (λ (l : List ℕ). get_or l j 0) (u.4 ∙ sym v.4);
          }
    ]
  where
    swap : join_refusal one two (length b.desk) (length b.sheet) (length b.seen) (length b.slip)
        ≡ join_refusal two one (length b.desk) (length b.sheet) (length b.seen) (length b.slip)
    swap = refusal_swap one two (length b.desk) (length b.sheet) (length b.seen) (length b.slip)

    K : ℕ
    K = bench_classes one

    s : State
    s = bench_state one

    t : State
    t = bench_state two

    both_joined : join_refusal one two (length b.desk) (length b.sheet) (length b.seen) (length b.slip) ≡ 0 → EitherOrder x y b₁ b₂
    both_joined z =
        let a = passed one two b.desk b.sheet b.seen b.slip z in
        let u = p.0.is_joined z in
        let v : CarriedOut K (join K t s) b.desk b.sheet b.seen [] b.slip y b₂.desk b₂.sheet b₂.seen [] b₂.slip =
        subst (λ (k : ℕ). CarriedOut k (join k t s) b.desk b.sheet b.seen [] b.slip y b₂.desk b₂.sheet b₂.seen [] b₂.slip) a.same
        (q.0.is_joined (sym swap ∙ z)) in
        let f = join_either_way K s t (ap member_of a.declared) in
        let n : x ≡ y = u.number_is ∙ ap number f.answer ∙ sym v.number_is in
        let e = stand_encodes u.stands in
        let d = stand_encodes v.stands in
        let o = (join K s t).state in
        record {
          number_is = n;
          desk_is = settled_desk_after K o.is_closed o.cores o.graph.marks o.journal.accepted o.cross b₁.desk b₂.desk [] [] e.in_desk
              (subst₂ (λ (c : Bool) (g : Graph). DeskBytes K c o.cores g.marks b₂.desk) (sym f.is_closed) (sym f.graph)
              (subst (λ (c : ℕ → Core). DeskBytes K (join K t s).state.is_closed c (join K t s).state.graph.marks b₂.desk) (sym f.cores) d.in_desk))
              e.in_count (subst (λ (c : ℕ). NumberBytes c b₂.desk accepted_at) (sym f.accepted) d.in_count)
              e.in_cross (subst (λ (x : Crosslocks). CrossBytes x b₂.desk []) (sym f.cross) d.in_cross) b.desk u.keeps_desk v.keeps_desk;
          sheet_is = settled_sheet_after K (facts one.desk one.sheet one.seen a.fit₁).some o.graph.locks b₁.sheet b₂.sheet e.in_sheet
              (subst (λ (g : Graph). SheetBytes K g.locks b₂.sheet) (sym f.graph) d.in_sheet) b.sheet u.keeps_sheet v.keeps_sheet;
          seen_long = u.keeps_seen.long ∙ sym v.keeps_seen.long;
          slip_long = carried_slip u ∙ sym (carried_slip v);
          slip_is = λ j h. slip_sames n u v f.graph j h;
        }
      where
        slip_sames : x ≡ y → CarriedOut K (join K s t) b.desk b.sheet b.seen [] b.slip x b₁.desk b₁.sheet b₁.seen [] b₁.slip
            → CarriedOut K (join K t s) b.desk b.sheet b.seen [] b.slip y b₂.desk b₂.sheet b₂.seen [] b₂.slip
            → (join K s t).state.graph ≡ (join K t s).state.graph → (j : ℕ) → NoNumber b₁.slip j → get_or b₁.slip j 0 ≡ get_or b₂.slip j 0
        slip_sames n u v g j h =
            elim (ℕ_discrete x 1) [
              | yes z ↦ slips_alike (u.reported z)
                  (subst (λ (g : Graph). Reported K g (join K t s).state.journal.seen b.slip b₂.slip) (sym g) (v.reported (sym n ∙ z))) j h
              | no w ↦ ap (λ (l : List ℕ). get_or l j 0) (u.unreported w ∙ sym (v.unreported (λ z. w (n ∙ z))))
            ]

-- ---- Two logs.

-- The state that a whole log leaves, from its bytes alone.
abbrev pub state_after : Buffers → (log : List ℕ) → State
state_after b log = (outcome_for (classes_in log) (word_in log) (leb (slip_size (classes_in log)) (length b.slip)) (records_in log true)).state

clean_stands : {b b' : Buffers} {log : List ℕ} {answer number : ℕ} → WholeLog b log true answer number b' → answer ≡ 0
    → StandFor (classes_in log) (state_after b log) b'.desk b'.sheet b'.seen b'.history
clean_stands (short_header l) z = absurd (omega arith)
clean_stands (bad_header l e) z = absurd (omega arith)
clean_stands {log = log} (by_rules {b' = b'} o l e q left) z =
    subst (λ (u : Outcome). StandFor (classes_in log) u.state b'.desk b'.sheet b'.seen b'.history) q left.stands

-- Clean logs whose benches are joined, as the command does: what is joined are the graphs of their records, and nothing else.
pub logs_joined : {b₁ c₁ b₂ c₂ b b' : Buffers} {log₁ log₂ : List ℕ} {n₁ n₂ answer : ℕ} → WholeLog b₁ log₁ true 0 n₁ c₁ → WholeLog b₂ log₂ true 0 n₂ c₂
    → CalledJoin (bench_of c₁) (bench_of c₂) b answer b' → answer ≤ 1 → JoinedFrom (classes_in log₁) (state_after b₁ log₁) (state_after b₂ log₂) answer b b'
logs_joined {c₁ = c₁} {c₂ = c₂} w₁ w₂ p l =
    benches_joined c₁ c₂ (clean_stands w₁ refl) (clean_stands w₂ refl) p l
