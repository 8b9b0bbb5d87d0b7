-- Request k, of runs of the calls: the order of the merge does not matter, and with exclusive acquires only a fault is a broken rule of document 002. Assumes nothing.
use mathlib.Core.Path.{◌≡◌, refl, sym, ap, ◌∙◌, subst, subst₂}
use mathlib.Core.Bool.{Bool, true, false}
use mathlib.Core.List.Memᴰ
use mathlib.Core.List.{List, [], ◌∷◌, ◌++◌}
use Prim.Native.Nat.{ℕ, ◌<◌, zero-le}
use native.Mathlib.Omega.{arith}
use lib.ListN.{length, get_or}
use lib.Seq.{ext_get_or}
use Rattle.words.specs.Bits.{flag}
use Rattle.rules.specs.Record.{Bytes}
use Rattle.rules.specs.HeldLocks.{E}
use Rattle.rules.specs.Graph.{Graph}
use Rattle.rules.specs.Crosslocks.{Crosslocks, declaring}
use Rattle.rules.specs.Decision.{cyclic}
use Rattle.rules.specs.Run.{State, start, step, answers, graph_at}
use Rattle.rules.specs.TwoRuns.{Never}
use Rattle.rules.proofs.Joined.{joined_as}
use Rattle.layout.specs.Layout.{desk_size, sheet_size, accepted_at, member_of, classes_of, closed_of}
use Rattle.layout.specs.Encoding.{DeskBytes, SheetBytes, NumberBytes, CrossBytes}
use Rattle.layout.specs.Decoding.{view}
use Rattle.layout.specs.Fit.{fits_all}
use Rattle.fit.proofs.Fitting.{stand_encodes, stand_valid}
use Rattle.fit.proofs.Settled.{same_desk, same_sheet}
use Rattle.validator.specs.Calls.{Buffers, Called}
use Rattle.merges.specs.Merge.{SameForEachCore, Ordinary, unnumbered, AnsweredAlike}
use Rattle.merges.proofs.Merged.{merge_order, merge_answers, step_cross, empty_acyclic, joined_acyclic}
use Rattle.usage.specs.UsageRules.{Exclusive, ExclusiveLog}
use Rattle.usage.proofs.BrokenRules.{broken_exactly}
use Rattle.usage.proofs.ExclusiveRuns.{graph_exactly}
use Rattle.plungerowl.specs.Runs.{Ran, no_call, call, Opening, Start, from_opening, from_join}
use Rattle.plungerowl.specs.Merges.{EitherMerge, FaultByRules}
use Rattle.plungerowl.proofs.Runs.{Holds, validated_by, step_holds, run_holds, run_answers, start_holds}
use Rattle.plungerowl.proofs.Demands.{step_verdict, run_verdict}

-- ---- The order of the merge.

pub start_cross : {K : ℕ} {s : State} {b : Buffers} → Start K s b → s.cross ≡ declaring s.cross.declared
start_cross (from_opening o) = refl
start_cross {K} (from_join {s = s} {t} j) = let e = (joined_as K s t).cross in e ∙ ap declaring (ap (λ (x : Crosslocks). x.declared) (sym e))

start_acyclic : {K : ℕ} {s : State} {b : Buffers} → Start K s b → s.is_closed ≡ false → cyclic K s.graph ≡ false
start_acyclic {K} (from_opening o) h = empty_acyclic K
start_acyclic {K} (from_join {s = s} {t} j) h = joined_acyclic K s t h

-- Buffers that stand for states which differ in their first-seen numbers only.
module _ {K : ℕ} {s t : State} {b b' : Buffers} (h : Holds K s b) (h' : Holds K t b') (e : unnumbered s ≡ unnumbered t) where
  merged_desk : (j : ℕ) → j < desk_size → get_or b.desk j 0 ≡ get_or b'.desk j 0
  merged_desk =
      let u = stand_encodes h.stands in
      let v = stand_encodes h'.stands in
      same_desk K t.is_closed t.cores t.graph.marks t.journal.accepted t.cross b.desk b'.desk b.history b'.history
      (subst (λ (s : State). DeskBytes K s.is_closed s.cores s.graph.marks b.desk) e u.in_desk) v.in_desk
      (subst (λ (s : State). NumberBytes s.journal.accepted b.desk accepted_at) e u.in_count) v.in_count
      (subst (λ (s : State). CrossBytes s.cross b.desk b.history) e u.in_cross) v.in_cross

  merged_sheet : (j : ℕ) → j < sheet_size K → get_or b.sheet j 0 ≡ get_or b'.sheet j 0
  merged_sheet =
      same_sheet K h.some t.graph.locks b.sheet b'.sheet
      (subst (λ (s : State). SheetBytes K s.graph.locks b.sheet) e (stand_encodes h.stands).in_sheet) (stand_encodes h'.stands).in_sheet

-- A desk that is open stands for an open state.
open_state : {K : ℕ} {s : State} {b : Buffers} → Holds K s b → closed_of b.desk ≡ 0 → s.is_closed ≡ false
open_state {s = s} h z = by s.is_closed (sym (stand_encodes h.stands).in_desk.closed ∙ z)
  where
    by : (c : Bool) → flag c ≡ 0 → c ≡ false
    by true q = absurd (omega arith)
    by false q = refl

-- Two runs of the exported calls from one state, each in buffers of its own, as in demand 3 (`two_runs`), over lists that give each core the same ordinary records
-- in the same order, where no record gets 9.
pub two_merges : {K : ℕ} {s : State} {b₁ b₁' b₂ b₂' : Buffers} {xs ys : List Bytes} {given₁ given₂ : List ℕ} → Start K s b₁ → Ran b₁ xs given₁ b₁' → Start K s b₂
    → Ran b₂ ys given₂ b₂' → Ordinary xs → SameForEachCore xs ys → Never 9 given₁ → Never 9 given₂ → EitherMerge K xs ys given₁ given₂ b₁' b₂'
two_merges {K} {s} {b₁' = b₁'} {b₂' = b₂'} {xs} {ys} o₁ w₁ o₂ w₂ o m n₁ n₂ =
    let h₁ = run_holds (start_holds o₁) w₁ in
    let h₂ = run_holds (start_holds o₂) w₂ in
    let a₁ = run_answers (start_holds o₁) w₁ in
    let a₂ = run_answers (start_holds o₂) w₂ in
    let never₁ : Never 9 (answers K s xs) = subst (λ (l : List ℕ). Never 9 l) a₁ n₁ in
    let never₂ : Never 9 (answers K s ys) = subst (λ (l : List ℕ). Never 9 l) a₂ n₂ in
    let e = merge_order K s.cross.declared s (start_cross o₁) (start_acyclic o₁) o m never₁ never₂ in
    record {
      closed = (stand_encodes h₁.stands).in_desk.closed ∙ ap flag e.closed ∙ sym (stand_encodes h₂.stands).in_desk.closed;
      answered = λ z.
          subst₂ (λ (a b : List ℕ). AnsweredAlike xs ys a b) (sym a₁) (sym a₂)
          (merge_answers K s.cross.declared s (start_cross o₁) (start_acyclic o₁) o m never₁ never₂ (open_state {b = b₁'} h₁ z));
      desk_is = λ z. merged_desk {b = b₁'} {b' = b₂'} h₁ h₂ (e.same (open_state {b = b₁'} h₁ z));
      sheet_is = λ z. merged_sheet {b = b₁'} {b' = b₂'} h₁ h₂ (e.same (open_state {b = b₁'} h₁ z));
    }

-- Ordinary records leave the history as it was, of such a start.
pub history_stays : {K : ℕ} {s : State} {b b' : Buffers} {rs : List Bytes} {given : List ℕ} → Start K s b → Ran b rs given b' → Ordinary rs → b'.history ≡ b.history
history_stays {K} {s} o w = by (start_holds o) (start_cross o) w
  where
    by : {s : State} {d : ℕ → Bool} {b b' : Buffers} {rs : List Bytes} {given : List ℕ} → Holds K s b → s.cross ≡ declaring d → Ran b rs given b' → Ordinary rs
        → b'.history ≡ b.history
    by h z no_call o = refl
    by {s} {d} {b} h z (call {b' = c} {r = r} t w) o =
        let j = validated_by h t in
        let e : (step K s r).state.cross ≡ declaring d = step_cross K d s r z (o.each r (Memᴰ.head refl)) in
        by {s = (step K s r).state} (step_holds h j) e w (record { each = λ y m. o.each y (Memᴰ.tail m) })
        ∙ ext_get_or 0 c.history b.history j.keeps_history.long (λ i l. j.keeps_history.past i (rw e zero-le))

-- ---- Document 002's rules.

-- Of a run from opening: the drawing is that of the records alone.
pub run_by_rules : {K declared : ℕ} {b b' b'' : Buffers} {rs : List Bytes} {given : List ℕ} {r : Bytes} {answer : ℕ} → Opening K declared b → Ran b rs given b'
    → Called b' r answer b'' → ExclusiveLog (rs ++ (r ∷ [])) → FaultByRules K (graph_at K (start (member_of declared)) (rs ++ (r ∷ [])) (length rs)) answer
run_by_rules {K} {declared} {rs = rs} {r = r} o w t x =
    let v = (run_verdict (from_opening o) w t).exactly in
    let g = graph_exactly K (member_of declared) (rs ++ (r ∷ [])) (length rs) x in
    record { exactly = λ a. (λ h. g.0 ((v a).0 h), λ h. (v a).1 (g.1 h)) }

-- Of a step on fit buffers, from wherever they come, that leaves an exclusive graph: a fit desk's soft-unsafe classes are hard-unsafe.
pub step_by_rules : {b b' : Buffers} {r : Bytes} {answer : ℕ} → fits_all b.desk b.sheet b.seen b.history b.slip ≡ true → Called b r answer b'
    → Exclusive (view b'.desk b'.sheet b'.seen b'.history).graph
    → FaultByRules (classes_of b.desk) (view b'.desk b'.sheet b'.seen b'.history).graph answer
step_by_rules {b} {b'} {r} {answer} e t x =
    let j = (t.validated e).stands in
    let v = (stand_valid j).graph in
    let seen_so : (view b'.desk b'.sheet b'.seen b'.history).graph ≡ (step (classes_of b.desk) (view b.desk b.sheet b.seen b.history) r).state.graph =
    ap (λ (s : State). s.graph) j.is_view in
    let f = (step_verdict e t).exactly in
    let g = broken_exactly (classes_of b.desk) (step (classes_of b.desk) (view b.desk b.sheet b.seen b.history) r).state.graph
    (subst (λ (g : Graph). Exclusive g) seen_so x) (record { soft_unsafe = λ c. v.soft_unsafe c E }) in
    subst (λ (g : Graph). FaultByRules (classes_of b.desk) g answer) (sym seen_so) (record { exactly = λ a. (λ h. g.0 ((f a).0 h), λ h. (f a).1 (g.1 h)) })
