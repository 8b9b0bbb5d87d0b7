-- Why demand 3 has its limits with crosslocks (MoreEvidence.antt): for each of them two runs of which the first has a fault and the second none, though the second
-- has the first one's records and only records of core 2 besides, which the first does not name. Assumes nothing.
use mathlib.Core.Path.{◌≡◌, refl, sym, ◌∙◌, ap}
use mathlib.Core.Bool.{Bool, true, false, not, ◌&&◌, false≢true}
use mathlib.Core.List.{List, [], ◌∷◌, Memᴰ}
use Prim.Native.Nat.{ℕ, zero, suc, ◌<◌}
use native.Mathlib.Omega.{arith}
use lib.Dec.{eqb, ltb}
use lib.ListN.{get_or}
use borrow.Author.Tests.{eq-eqb, ltb-true}
use Rattle.rules.specs.Record.{Bytes, is_malformed, core_of, Names}
use Rattle.rules.specs.Graph.{dependency}
use Rattle.rules.specs.Crosslocks.{count_below}
use Rattle.rules.specs.Decision.{cyclic}
use Rattle.rules.specs.Verdict.{refusal}
use Rattle.rules.specs.Run.{start, answers, run}
use Rattle.rules.specs.TwoRuns.{NamedIn, Foreign, Interleaved, done, keep, insert, Never, MoreEvidence}
use Rattle.rules.specs.Examples.{plain, exclusive, says, takes, frees}
use Rattle.rules.specs.CrossExamples.{cross_takes, commits, cross_frees, crossed, completion, with_kind12, with_kind10, nearly_full, begun, rest, rest_filled, last, pairs_of, filled}
use Rattle.rules.proofs.Booleans.{and_cases}
use Rattle.rules.proofs.Quick.{quick_state, quick_state_lem}
use Rattle.rules.proofs.FullHistory.{unfilled_faults, filled_clears}

pub completion_faults : answers 4 crossed completion ≡ 0 ∷ 0 ∷ 0 ∷ 1 ∷ []
unfolding completion takes says cross_takes commits is_malformed count_below refusal dependency cyclic
completion_faults = refl

pub added_kind_12_clears : answers 4 crossed with_kind12 ≡ 0 ∷ 0 ∷ 0 ∷ 0 ∷ 17 ∷ []
unfolding with_kind12 takes says cross_takes commits cross_frees is_malformed count_below refusal dependency cyclic
added_kind_12_clears = refl

pub added_kind_10_clears : answers 4 crossed with_kind10 ≡ 0 ∷ 0 ∷ 16 ∷ 0 ∷ 0 ∷ []
unfolding with_kind10 completion takes says cross_takes commits is_malformed count_below refusal dependency cyclic
added_kind_10_clears = refl

pub other_declarations_clear : answers 4 plain completion ≡ 0 ∷ 15 ∷ 0 ∷ 15 ∷ []
unfolding completion takes says cross_takes commits is_malformed count_below refusal dependency cyclic
other_declarations_clear = refl

-- From one state, without and with a take of core 2: the history is full, so core 1's take is refused with 19 and is not there to be committed. From opening:
-- FullHistory.antt.
quick_nearly : (answers 4 (nearly_full (quick_state 4 crossed begun)) rest ≡ 0 ∷ 1 ∷ []) × (answers 4 (nearly_full (quick_state 4 crossed begun)) rest_filled ≡ 0 ∷ 19 ∷ 0 ∷ [])
unfolding nearly_full begun rest rest_filled takes says cross_takes commits is_malformed count_below refusal dependency cyclic
quick_nearly = (refl, refl)

pub full_history_clears : (answers 4 (nearly_full (run 4 crossed begun)) rest ≡ 0 ∷ 1 ∷ []) × (answers 4 (nearly_full (run 4 crossed begun)) rest_filled ≡ 0 ∷ 19 ∷ 0 ∷ [])
full_history_clears = rw (sym (quick_state_lem 4 crossed begun)) quick_nearly

-- ---- What is added is apart from the first list.

abbrev cores_below : ℕ → List Bytes → Bool
cores_below n [] = true
cores_below n (r ∷ rs) = ltb (core_of r) n && cores_below n rs

below : (n : ℕ) (rs : List Bytes) (r : Bytes) → Memᴰ r rs → cores_below n rs ≡ true → core_of r < n
below n [] r m h = elim m [ ]
below n (x ∷ rs) r (Memᴰ.head e) h = ltb-true (core_of r) n (rw e (and_cases (ltb (core_of x) n) (cores_below n rs) h).0)
below n (x ∷ rs) r (Memᴰ.tail m) h = below n rs r m (and_cases (ltb (core_of x) n) (cores_below n rs) h).1

apart_from : (rs : List Bytes) (r : Bytes) → cores_below 2 rs ≡ true → core_of r ≡ 2 → (core : ℕ) → Names r core → NamedIn rs core → ⊥
apart_from rs r h e core n m =
    let a = below 2 rs m.by m.member h in
    let b = n.is_core in
    let c = m.names.is_core in
    absurd (omega arith)

pub kind_12_apart : (core : ℕ) → Names (cross_frees 2 3) core → NamedIn completion core → ⊥
unfolding completion takes cross_takes commits cross_frees says
kind_12_apart = apart_from completion (cross_frees 2 3) refl refl

pub kind_10_apart : (core : ℕ) → Names (cross_takes 2 3) core → NamedIn completion core → ⊥
unfolding completion takes cross_takes commits says
kind_10_apart = apart_from completion (cross_takes 2 3) refl refl

take_foreign : Foreign (filled 0) (takes 2 0 exclusive)
unfolding filled pairs_of takes cross_takes commits says
take_foreign = record { apart = apart_from (filled 0) (takes 2 0 exclusive) refl refl; ordinary = λ f. refl }

release_foreign : Foreign (filled 0) (frees 2 0 exclusive)
unfolding filled pairs_of takes frees cross_takes commits says
release_foreign = record { apart = apart_from (filled 0) (frees 2 0 exclusive) refl refl; ordinary = λ f. refl }

pairs_interleaved : (n : ℕ) → Interleaved (filled 0) (pairs_of 0) (pairs_of n)
unfolding pairs_of
pairs_interleaved zero = keep (keep done)
pairs_interleaved (suc n) = insert take_foreign (insert release_foreign (pairs_interleaved n))

-- Of these two lists 19 is all that is amiss.
pub filled_interleaved : (n : ℕ) → Interleaved (filled 0) (filled 0) (filled n)
unfolding filled
filled_interleaved n = keep (keep (pairs_interleaved n))

abbrev lacks : ℕ → List ℕ → Bool
lacks a [] = true
lacks a (n ∷ ns) = not (eqb n a) && lacks a ns

absent : (a : ℕ) → eqb 0 a ≡ false → (ns : List ℕ) → lacks a ns ≡ true → Never a ns
absent a z ns h = record { never = by ns h }
  where
    by : (ns : List ℕ) → lacks a ns ≡ true → (i : ℕ) → get_or ns i 0 ≡ a → ⊥
    by [] h i e = false≢true (sym z ∙ eq-eqb 0 a e)
    by (n ∷ ns) h zero e = let p = (and_cases (not (eqb n a)) (lacks a ns) h).0 in false≢true (rw (eq-eqb n a e) at p)
    by (n ∷ ns) h (suc i) e = by ns (and_cases (not (eqb n a)) (lacks a ns) h).1 i e

pub filled_never_9 : Never 9 (answers 2 (start last) (filled 256))
filled_never_9 = rw filled_clears (absent 9 refl _ refl)

pub without_19 : MoreEvidence 2 (start last) (filled_interleaved 256) (answers 2 (start last) (filled 0)) (answers 2 (start last) (filled 256)) → ⊥
unfolding filled pairs_of
without_19 m =
    let f = m.sooner 3 (omega arith) (ap (λ (ns : List ℕ). get_or ns 3 0) unfilled_faults) in
    let n : Never 1 (answers 2 (start last) (filled 256)) = rw filled_clears (absent 1 refl _ refl) in
    n.never f.at f.is_fault
