-- Runs of the calls are runs of the rules. Assumes nothing.
use mathlib.Core.Path.{◌≡◌, refl, sym, ap, ap₂, ◌∙◌, subst, subst₂}
use native.Mathlib.Decide.{ℕ_discrete}
use mathlib.Core.Bool.{Bool, true, false, cond, false≢true}
use mathlib.Core.List.{List, [], ◌∷◌}
use Prim.Native.Nat.{ℕ, ◌≤◌}
use native.Mathlib.Omega.{arith}
use lib.Dec.{leb}
use lib.ListN.{length}
use borrow.Author.Tests.{le-leb, leb-true}
use Rattle.rules.specs.Limits.{max_classes}
use Rattle.rules.specs.Record.{Bytes}
use Rattle.rules.specs.Context.{Frame}
use Rattle.rules.specs.HeldLocks.{Core}
use Rattle.rules.specs.Verdict.{bad_opening}
use Rattle.rules.specs.Graph.{Graph}
use Rattle.rules.specs.Crosslocks.{Crosslocks}
use Rattle.rules.specs.Decision.{cyclic}
use Rattle.rules.specs.Run.{Journal, State, Result, start, step, starting_from, decided, answers, run}
use Rattle.rules.specs.Join.{joined_graph, joined_journal, joined_state, join}
use Rattle.rules.specs.TwoRuns.{Interleaved, Never, MoreEvidence}
use Rattle.rules.proofs.Booleans.{and_cases, and_both}
use Rattle.rules.proofs.MoreEvidence.{Started, more_evidence}
use Rattle.rules.proofs.Joined.{joined_as}
use Rattle.validity.specs.Valid.{Valid}
use Rattle.validity.proofs.Kept.{valid_start}
use Rattle.layout.specs.Layout.{desk_size, sheet_size, seen_size, history_size, slip_size, member_of, KeepsPast}
use Rattle.layout.specs.Decoding.{StandFor, CarriedOut}
use Rattle.layout.specs.Fit.{classes_fit, word_fits, fits_all}
use Rattle.fit.proofs.Facts.{facts}
use Rattle.fit.proofs.Fitting.{stand_valid, any_history, encodes_stand}
use Rattle.opening.specs.Open.{opens, opened_desk, opened_sheet, opened_seen, opened_history, Opened}
use Rattle.opening.proofs.Opens.{open_encodes}
use Rattle.validator.specs.Step.{Validated}
use Rattle.validator.specs.Calls.{Buffers, buffers, Called}
use Rattle.benches.specs.Benches.{Bench, bench_classes, bench_state, join_refusal}
use Rattle.joiner.specs.Joining.{Joined}
use Rattle.benches.proofs.Refusals.{refusal_high}
use Rattle.plungerowl.specs.Runs.{Ran, no_call, call, Opening, SameBench, Joining, Start, from_opening, from_join}

-- The buffers encode a state of the rules, and the step will not find them unfit.
pub record Holds (K : ℕ) (s : State) (b : Buffers) : Type 0 where
  pub some : 1 ≤ K
  pub few : K ≤ max_classes
  pub valid : Valid K s
  pub stands : StandFor K s b.desk b.sheet b.seen b.history
  pub history_room : history_size ≤ length b.history
  pub room : slip_size K ≤ length b.slip

module _ {K : ℕ} {s : State} {b : Buffers} (h : Holds K s b) where
  pub held_fit : fits_all b.desk b.sheet b.seen b.history b.slip ≡ true
  unfolding fits_all
  held_fit =
      and_both h.stands.fit
      (and_both (le-leb history_size (length b.history) h.history_room)
      (and_both h.stands.entries (rw h.stands.classes (le-leb (slip_size K) (length b.slip) h.room))))

  pub validated_by : {r : Bytes} {answer : ℕ} {b' : Buffers} → Called b r answer b'
      → Validated K s r b.desk b.sheet b.seen b.history b.slip answer b'.desk b'.sheet b'.seen b'.history b'.slip
  validated_by {r} {answer} {b'} t =
      subst₂ (λ (k : ℕ) (s : State). Validated k s r b.desk b.sheet b.seen b.history b.slip answer b'.desk b'.sheet b'.seen b'.history b'.slip)
      h.stands.classes h.stands.is_view (t.validated held_fit)

pub carried_slip : {K : ℕ} {o : Result} {desk sheet seen history slip desk' sheet' seen' history' slip' : List ℕ} {answer : ℕ}
    → CarriedOut K o desk sheet seen history slip answer desk' sheet' seen' history' slip' → length slip' ≡ length slip
carried_slip {answer} j =
    elim (ℕ_discrete answer 1) [ yes e ↦ (j.reported e).keeps.long | no n ↦ ap length (j.unreported n) ]

-- Buffers that stand for a state, with room in history and slip.
pub stand_holds : {K : ℕ} {s : State} {b : Buffers} → StandFor K s b.desk b.sheet b.seen b.history → history_size ≤ length b.history
    → slip_size K ≤ length b.slip → Holds K s b
stand_holds {K} {s} {b} h long room =
    let f = facts b.desk b.sheet b.seen h.fit in
    record {
      some = rw h.classes at f.some;
      few = rw h.classes at f.few;
      valid = stand_valid h;
      stands = h;
      history_room = long;
      room = room;
    }

pub step_holds : {K : ℕ} {s : State} {o : Result} {b b' : Buffers} {answer : ℕ} → Holds K s b
    → CarriedOut K o b.desk b.sheet b.seen b.history b.slip answer b'.desk b'.sheet b'.seen b'.history b'.slip → Holds K o.state b'
step_holds h j =
    stand_holds j.stands (let l = j.keeps_history.long in let m = h.history_room in omega arith) (let l = carried_slip j in let m = h.room in omega arith)

pub run_holds : {K : ℕ} {s : State} {b b' : Buffers} {rs : List Bytes} {given : List ℕ} → Holds K s b → Ran b rs given b' → Holds K (run K s rs) b'
run_holds h no_call = h
run_holds {K} {s} h (call {r = r} t w) = run_holds {s = (step K s r).state} (step_holds h (validated_by h t)) w

pub run_answers : {K : ℕ} {s : State} {b b' : Buffers} {rs : List Bytes} {given : List ℕ} → Holds K s b → Ran b rs given b' → given ≡ answers K s rs
run_answers h no_call = refl
run_answers {K} {s} h (call {r = r} t w) =
    let j = validated_by h t in
    ap₂ {C = List ℕ} ◌∷◌ j.number_is (run_answers {s = (step K s r).state} (step_holds h j) w)

pub opened_true : {K declared : ℕ} {desk sheet seen history desk' sheet' seen' history' : List ℕ}
    → Opened K declared desk sheet seen history 0 desk' sheet' seen' history' → opens K declared desk sheet seen history ≡ true
opened_true {K} {declared} {desk} {sheet} {seen} {history} o = by (opens K declared desk sheet seen history) refl
  where
    by : (b : Bool) → opens K declared desk sheet seen history ≡ b → opens K declared desk sheet seen history ≡ true
    by true e = e
    by false e = absurd (let z : 0 ≡ bad_opening = o.answer ∙ ap (λ (t : Bool). cond t 0 bad_opening) e in omega arith)

-- What an opening that was not refused leaves.
pub record OpenedAs (K declared : ℕ) (desk sheet seen history desk' sheet' seen' history' : List ℕ) : Type 0 where
  pub some : 1 ≤ K
  pub few : K ≤ max_classes
  pub valid : Valid K (start (member_of declared))
  pub stands : StandFor K (start (member_of declared)) desk' sheet' seen' history'
  pub long : history_size ≤ length history'
  pub keeps_desk : KeepsPast desk_size desk desk'
  pub keeps_sheet : KeepsPast (sheet_size K) sheet sheet'
  pub keeps_seen : KeepsPast (seen_size K) seen seen'
  pub keeps_history : KeepsPast history_size history history'

pub opened_as : {K declared : ℕ} {desk sheet seen history desk' sheet' seen' history' : List ℕ}
    → Opened K declared desk sheet seen history 0 desk' sheet' seen' history' → OpenedAs K declared desk sheet seen history desk' sheet' seen' history'
unfolding opens
opened_as {K} {declared} {desk} {sheet} {seen} {history} {desk'} {sheet'} {seen'} {history'} o =
    let e = opened_true o in
    let f = open_encodes K declared desk sheet seen history e in
    let p = and_cases (classes_fit K) _ e in
    let c = and_cases (leb 1 K) (leb K max_classes) p.0 in
    let q = and_cases (leb desk_size (length desk)) _ (and_cases (word_fits K declared) _ p.1).1 in
    let r = and_cases (leb (seen_size K) (length seen)) _ (and_cases (leb (sheet_size K) (length sheet)) _ q.1).1 in
    let some = leb-true 1 K c.0 in
    let few = leb-true K max_classes c.1 in
    let valid = valid_start K (member_of declared) f.below in
    let d : opened_desk K declared desk ≡ desk' = sym (o.desk ∙ ap (λ (t : Bool). cond t (opened_desk K declared desk) desk) e) in
    let s : opened_sheet K sheet ≡ sheet' = sym (o.sheet ∙ ap (λ (t : Bool). cond t (opened_sheet K sheet) sheet) e) in
    let n : opened_seen K seen ≡ seen' = sym (o.seen ∙ ap (λ (t : Bool). cond t (opened_seen K seen) seen) e) in
    let h : opened_history history ≡ history' = sym (o.history ∙ ap (λ (t : Bool). cond t (opened_history history) history) e) in
    let k = subst (λ (x : List ℕ). KeepsPast history_size history x) h f.keeps_history in
    record {
      some = some;
      few = few;
      valid = valid;
      stands = subst₂ (λ (y z : List ℕ). StandFor K (start (member_of declared)) desk' sheet' y z) n h
          (subst₂ (λ (x y : List ℕ). StandFor K (start (member_of declared)) x y (opened_seen K seen) (opened_history history)) d s
          (encodes_stand some few valid f.encodes));
      long = let l = leb-true history_size (length history) r.1 in let m = k.long in omega arith;
      keeps_desk = subst (λ (x : List ℕ). KeepsPast desk_size desk x) d f.keeps_desk;
      keeps_sheet = subst (λ (x : List ℕ). KeepsPast (sheet_size K) sheet x) s f.keeps_sheet;
      keeps_seen = subst (λ (x : List ℕ). KeepsPast (seen_size K) seen x) n f.keeps_seen;
      keeps_history = k;
    }

pub opening_holds : {K declared : ℕ} {b : Buffers} → Opening K declared b → Holds K (start (member_of declared)) b
opening_holds {K} o =
    let f = opened_as o.opened in
    record { some = f.some; few = f.few; valid = f.valid; stands = f.stands; history_room = f.long; room = o.room }

-- ---- Where a run starts.

-- A join that was not refused is carried out.
pub join_carried : {one two : Bench} (b b' : Buffers) {answer : ℕ}
    → Joined one two b.desk b.sheet b.seen b.slip answer b'.desk b'.sheet b'.seen b'.slip → answer ≤ 1
    → CarriedOut (bench_classes one) (join (bench_classes one) (bench_state one) (bench_state two)) b.desk b.sheet b.seen [] b.slip answer b'.desk b'.sheet b'.seen [] b'.slip
join_carried {one} {two} b b' j l =
    elim (ℕ_discrete (join_refusal one two (length b.desk) (length b.sheet) (length b.seen) (length b.slip)) 0) [
      | yes z ↦ j.is_joined z
      | no n ↦
          let h = refusal_high one two (length b.desk) (length b.sheet) (length b.seen) (length b.slip) n in
          let e = (j.is_refused (omega arith)).0 in
          absurd (omega arith)
    ]

-- A join reads no more of its benches than their graphs, journals and declarations.
pub join_same : (K : ℕ) {s s' t t' : State} → SameBench s s' → SameBench t t' → join K s t ≡ join K s' t'
join_same K {s} {s'} {t} {t'} a b = ap (λ (u : State). decided (cyclic K u.graph) u) joined
  where
    joined : joined_state s t ≡ joined_state s' t'
    joined =
        ap₂ (λ (d : ℕ → Bool) (g : Graph). starting_from d g (joined_journal s.journal t.journal)) a.declared (ap₂ joined_graph a.graph b.graph)
        ∙ ap (λ (j : Journal). starting_from s'.cross.declared (joined_graph s'.graph t'.graph) j) (ap₂ joined_journal a.journal b.journal)

-- Nothing is kept in a joined state.
pub joined_empty : (K : ℕ) (s t : State) → (join K s t).state.cross.history ≡ []
joined_empty K s t = ap (λ (x : Crosslocks). x.history) (joined_as K s t).cross

joining_holds : {K : ℕ} {s t : State} {b : Buffers} → Joining K s t b → Holds K (join K s t).state b
joining_holds {K} {s} {t} {b} j =
    let K₁ = bench_classes j.one in
    let c = (join_carried j.before (buffers b.desk b.sheet b.seen [] j.slip_left) j.joined j.not_refused).stands in
    let d = subst (λ (o : Result). StandFor K₁ o.state b.desk b.sheet b.seen []) (join_same K₁ j.first j.second) c in
    stand_holds
    (any_history (subst (λ (k : ℕ). StandFor k (join k s t).state b.desk b.sheet b.seen []) j.classes d) (joined_empty K s t) b.history)
    j.history_room j.room

pub start_holds : {K : ℕ} {s : State} {b : Buffers} → Start K s b → Holds K s b
start_holds (from_opening o) = opening_holds o
start_holds (from_join j) = joining_holds j

-- No record is counted there, and no lock is held.
pub start_uncounted : {K : ℕ} {s : State} {b : Buffers} → Start K s b → s.journal.accepted ≡ 0
start_uncounted (from_opening o) = refl
start_uncounted {K} (from_join {s = s} {t} j) = (joined_as K s t).uncounted

pub start_unheld : {K : ℕ} {s : State} {b : Buffers} → Start K s b → (i : ℕ) (f : Frame) → (s.cores i).held f ≡ []
start_unheld (from_opening o) = λ i f. refl
start_unheld {K} (from_join {s = s} {t} j) = λ i f. ap (λ (c : Core). c.held f) ((joined_as K s t).cores i)

-- No crosslock is in progress there.
pub start_idle : {K : ℕ} {s : State} {b : Buffers} → Start K s b → Started s.cross
start_idle (from_opening o) = record { inside = λ c h. absurd (false≢true h) }
start_idle {K} (from_join {s = s} {t} j) = rw (joined_as K s t).cross (record { inside = λ c h. absurd (false≢true h) })

-- Demand 3, of two runs of the exported calls from one state, each in buffers of its own, where no record of the second gets 19 or 9 (then none of the first does):
-- both from openings with the same K and the same declarations, or "both its desks start as the same joined one".
pub two_runs : {K : ℕ} {s : State} {b₁ b₁' b₂ b₂' : Buffers} {xs ys : List Bytes} {given₁ given₂ : List ℕ} → Start K s b₁ → Ran b₁ xs given₁ b₁' → Start K s b₂
    → Ran b₂ ys given₂ b₂' → (e : Interleaved xs xs ys) → Never 19 given₂ → Never 9 given₂ → MoreEvidence K s e given₁ given₂
two_runs {K} {s} {xs = xs} {ys} {given₁} {given₂} o₁ w₁ o₂ w₂ e m n =
    let a = run_answers (start_holds o₂) w₂ in
    subst₂ (λ (a b : List ℕ). MoreEvidence K s e a b) (sym (run_answers (start_holds o₁) w₁)) (sym a)
    (more_evidence K (start_holds o₁).few s (start_idle o₁) e (subst (λ (l : List ℕ). Never 19 l) a m) (subst (λ (l : List ℕ). Never 9 l) a n))
