-- A feed from a fresh one: the header, what comes of the whole log, and that it settles every byte. Assumes nothing.
use mathlib.Core.Path.{◌≡◌, refl, sym, ap, subst, subst₂, ◌∙◌}
use mathlib.Core.Bool.{Bool, true, false, cond, and-false, false≢true}
use mathlib.Core.List.{List, ◌++◌, append-nil}
use Prim.Native.Nat.{ℕ, ◌+◌, ◌^◌, ◌≤◌, ◌<◌}
use native.Mathlib.Decide.{dec_lt}
use native.Mathlib.Omega.{arith}
use lib.Dec.{leb, eqb}
use lib.ListN.{length, take, drop, length-append, length-drop}
use lib.Seq.{take_at, drop_at}
use borrow.Author.Tests.{le-leb, lt-leb}
use Rattle.rules.specs.Record.{Bytes}
use Rattle.rules.specs.Verdict.{bad_opening}
use Rattle.rules.specs.Run.{start}
use Rattle.rules.specs.Log.{header_size, unit_size, header_classes, header_word, records_of, Outcome, validate}
use Rattle.layout.specs.Layout.{slip_size, member_of}
use Rattle.layout.specs.Fit.{fits_all}
use Rattle.opening.specs.Open.{Opened, opens, opened_desk, opened_sheet, opened_seen, opened_history}
use Rattle.validator.specs.Calls.{Buffers}
use Rattle.progress.specs.Feed.{Feed, fresh, unit_begun, with_part}
use Rattle.progress.proofs.UnitSizes.{unit_least, told}
use Rattle.unit.specs.Units.{UnitValidated, header, a_record}
use Rattle.feed.specs.Fed.{Fed, stopped, kept, completed, Ended, stands, no_header, between, short}
use Rattle.plungerowl.specs.Logs.{classes_in, word_in, records_in, refuse_first, outcome_for, LeftBy, WholeLog, short_header, bad_header, by_rules}
use Rattle.plungerowl.proofs.Runs.{stand_holds, opened_true, opened_as}
use Rattle.plungerowl.proofs.Logs.{Tells, After, takes_nothing, same_buffers, left_then, refuse_state, refuse_answer, records_fed, ended_after, tight_fed, tight_ended}

-- An end call repeats an answer but 0.
pub repeats : {f f' : Feed} {b b' : Buffers} → (f.answer ≡ 0 → ⊥) → Ended f b f' b' → (f' ≡ f) × (b' ≡ b)
repeats n (stands m) = (refl, refl)
repeats n (no_header e o) = absurd (n e)
repeats n (between e o l) = absurd (n e)
repeats n (short e o l j) = absurd (n e)

-- Opening desk, sheets and history.
abbrev OpenedTo : (K word : ℕ) (b : Buffers) (answer : ℕ) (b' : Buffers) → Type 0
OpenedTo K word b answer b' = Opened K word b.desk b.sheet b.seen b.history answer b'.desk b'.sheet b'.seen b'.history

-- What the header comes to.
record HeaderOpened (b : Buffers) (unit : List ℕ) (f : Feed) (b' : Buffers) : Type 0 where
  answer : ℕ
  opened : OpenedTo (header_classes unit) (header_word unit) b answer b'
  slip_is : b'.slip ≡ b.slip
  is : f ≡ unit_begun answer (eqb answer 0) 0

header_opened : {o : Bool} {n : ℕ} {b b' : Buffers} {unit : List ℕ} {f : Feed} → o ≡ false → n ≡ 0 → UnitValidated o n b unit f b' → HeaderOpened b unit f b'
header_opened e z (header {answer} u p s) = record { answer = answer; opened = p; slip_is = s; is = ap (unit_begun answer (eqb answer 0)) z }
header_opened e z (a_record u t) = absurd (false≢true (sym e ∙ u))

-- What the bytes of a log leave of a fresh feed and of the buffers, by how far the header led.
pub data LogFed (b : Buffers) (K word : ℕ) (rest : List ℕ) : Feed → Buffers → Type 0 where
  refused : opens K word b.desk b.sheet b.seen b.history ≡ false → LogFed b K word rest (unit_begun bad_opening false 0) b
  tight : {f : Feed} {b₁ : Buffers} → OpenedTo K word b 0 b₁ → b₁.slip ≡ b.slip → length b.slip < slip_size K
      → fits_all b₁.desk b₁.sheet b₁.seen b₁.history b₁.slip ≡ false → Tells (refuse_first word (records_of rest)) rest f → LogFed b K word rest f b₁
  running : {f : Feed} {b₁ b₂ : Buffers} → OpenedTo K word b 0 b₁ → b₁.slip ≡ b.slip → slip_size K ≤ length b.slip
      → After K (validate K (start (member_of word)) 0 (records_of rest)) rest f b₁ b₂ → LogFed b K word rest f b₂

slip_short : {b b₁ : Buffers} (K word : ℕ) → OpenedTo K word b 0 b₁ → b₁.slip ≡ b.slip → length b.slip < slip_size K
    → fits_all b₁.desk b₁.sheet b₁.seen b₁.history b₁.slip ≡ false
unfolding fits_all
slip_short {b} {b₁} K word p s h = simp ((opened_as p).stands.classes, s, lt-leb (slip_size K) (length b.slip) h, and-false)

opened_fed : {b b₁ b' : Buffers} {f : Feed} (K word : ℕ) (rest : List ℕ) → length rest < 2 ^ 64 → OpenedTo K word b 0 b₁ → b₁.slip ≡ b.slip
    → Fed (unit_begun 0 true 0) b₁ rest f b' → LogFed b K word rest f b'
opened_fed {b} {b₁} K word rest small p s r =
    elim (dec_lt (length b.slip) (slip_size K)) [
      | yes h ↦
          let u = slip_short {b = b} {b₁ = b₁} K word p s h in
          let t = tight_fed word u refl refl refl refl r in
          rw t.1 (tight {b₁ = b₁} p s h u t.0)
      | no h ↦
          let room : slip_size K ≤ length b.slip = omega arith in
          let F = opened_as p in
          running {b₁ = b₁} p s room (records_fed 0 (stand_holds F.stands F.long (rw s room)) refl refl refl refl (omega arith) r)
    ]

header_fed : {b b₁ b' : Buffers} {f₁ f : Feed} (unit rest : List ℕ) → length rest < 2 ^ 64 → HeaderOpened b unit f₁ b₁ → Fed f₁ b₁ rest f b'
    → LogFed b (header_classes unit) (header_word unit) rest f b'
header_fed {b} {b₁} {b'} {f₁} {f} unit rest small j r = by (opens K word b.desk b.sheet b.seen b.history) refl
  where
    K : ℕ
    K = header_classes unit

    word : ℕ
    word = header_word unit

    by : (t : Bool) → opens K word b.desk b.sheet b.seen b.history ≡ t → LogFed b K word rest f b'
    by true e =
        let a : j.answer ≡ 0 = j.opened.answer ∙ ap (λ (t : Bool). cond t 0 bad_opening) e in
        opened_fed {b₁ = b₁} K word rest small (subst (λ (n : ℕ). OpenedTo K word b n b₁) a j.opened) j.slip_is
        (subst (λ (g : Feed). Fed g b₁ rest f b') (j.is ∙ ap (λ (n : ℕ). unit_begun n (eqb n 0) 0) a) r)
    by false e =
        let a : j.answer ≡ bad_opening = j.opened.answer ∙ ap (λ (t : Bool). cond t 0 bad_opening) e in
        let d = j.opened.desk ∙ ap (λ (t : Bool). cond t (opened_desk K word b.desk) b.desk) e in
        let s = j.opened.sheet ∙ ap (λ (t : Bool). cond t (opened_sheet K b.sheet) b.sheet) e in
        let n = j.opened.seen ∙ ap (λ (t : Bool). cond t (opened_seen K b.seen) b.seen) e in
        let h = j.opened.history ∙ ap (λ (t : Bool). cond t (opened_history b.history) b.history) e in
        let g : f₁ ≡ unit_begun bad_opening false 0 = j.is ∙ ap (λ (n : ℕ). unit_begun n (eqb n 0) 0) a in
        let x = takes_nothing (λ z. absurd (let y = ap (λ (v : Feed). v.answer) g in omega arith)) r in
        rw (x.0, x.1, g, same_buffers b b₁ d s n h j.slip_is) (refused e)

-- ---- The whole log.

module _ (b : Buffers) (log : List ℕ) (ended : Bool) (h : header_size log ≤ length log) where
  abbrev K : ℕ
  K = classes_in log

  abbrev word : ℕ
  word = word_in log

  -- The outcome o of the records, however it was come by.
  outcome_whole : {b' : Buffers} (o : Outcome) (f : Feed) → opens K word b.desk b.sheet b.seen b.history ≡ true
      → o ≡ outcome_for K word (leb (slip_size K) (length b.slip)) (records_in log ended) → f.answer ≡ o.answer → f.number ≡ o.at → LeftBy K o b b'
      → WholeLog b log ended f.answer f.number b'
  outcome_whole {b'} o f e q a n w = rw (a, n) (by_rules o h e q w)

  -- Of LogFed's two cases of an opened desk.
  tight_whole : {b₁ : Buffers} (rs : List Bytes) (f : Feed) → OpenedTo K word b 0 b₁ → b₁.slip ≡ b.slip → length b.slip < slip_size K → rs ≡ records_in log ended
      → f.answer ≡ (refuse_first word rs).answer → f.number ≡ (refuse_first word rs).at → WholeLog b log ended f.answer f.number b₁
  tight_whole {b₁} rs f p s l q a n =
      let F = opened_as p in
      outcome_whole (refuse_first word rs) f (opened_true p)
      (ap (refuse_first word) q ∙ ap (λ (t : Bool). outcome_for K word t (records_in log ended)) (sym (lt-leb (slip_size K) (length b.slip) l))) a n
      (record {
        stands = rw (refuse_state word rs) F.stands;
        keeps_desk = F.keeps_desk;
        keeps_sheet = F.keeps_sheet;
        keeps_seen = F.keeps_seen;
        keeps_history = F.keeps_history;
        unreported = λ _. s;
        reported = λ z. absurd (refuse_answer word rs z);
      })

  running_whole : {b₁ b₂ : Buffers} (rs : List Bytes) (f : Feed) → OpenedTo K word b 0 b₁ → b₁.slip ≡ b.slip → slip_size K ≤ length b.slip
      → rs ≡ records_in log ended → f.answer ≡ (validate K (start (member_of word)) 0 rs).answer → f.number ≡ (validate K (start (member_of word)) 0 rs).at
      → LeftBy K (validate K (start (member_of word)) 0 rs) b₁ b₂ → WholeLog b log ended f.answer f.number b₂
  running_whole {b₁} rs f p s l q a n w =
      let F = opened_as p in
      outcome_whole (validate K (start (member_of word)) 0 rs) f (opened_true p)
      (ap (validate K (start (member_of word)) 0) q
      ∙ ap (λ (t : Bool). outcome_for K word t (records_in log ended)) (sym (le-leb (slip_size K) (length b.slip) l))) a n
      (left_then {o = record { answer = 0; at = 0; state = start (member_of word) }} {b₁ = b₁}
      (record {
        stands = F.stands;
        keeps_desk = F.keeps_desk;
        keeps_sheet = F.keeps_sheet;
        keeps_seen = F.keeps_seen;
        keeps_history = F.keeps_history;
        unreported = λ _. s;
        reported = λ z. absurd (omega arith);
      }) (λ z. omega arith) w)

-- Without the end.
fed_whole : {f : Feed} {b' : Buffers} (b : Buffers) (log : List ℕ) → header_size log ≤ length log → LogFed b (classes_in log) (word_in log) (drop (header_size log) log) f b'
    → WholeLog b log false f.answer f.number b'
fed_whole b log h (refused e) = bad_header h e
fed_whole b log h (tight {f} {b₁} p s l u t) =
    tight_whole b log false h {b₁ = b₁} (records_of (drop (header_size log) log)) f p s l (sym (append-nil (records_of (drop (header_size log) log)))) t.answer_is t.number_is
fed_whole b log h (running {f} {b₁} p s l w) =
    running_whole b log false h {b₁ = b₁} (records_of (drop (header_size log) log)) f p s l (sym (append-nil (records_of (drop (header_size log) log)))) w.tells.answer_is
    w.tells.number_is w.left

-- With it.
ended_whole : {f f₂ : Feed} {b₁ b₂ : Buffers} (b : Buffers) (log : List ℕ) → header_size log ≤ length log → length log < 2 ^ 64
    → LogFed b (classes_in log) (word_in log) (drop (header_size log) log) f b₁ → Ended f b₁ f₂ b₂ → WholeLog b log true f₂.answer f₂.number b₂
ended_whole b log h k (refused e) w = let x = repeats (λ z. omega arith) w in rw (x.0, x.1) (bad_header h e)
ended_whole {f₂ = f₂} b log h k (tight {b₁ = b₁} p s l u t) w =
    let x = tight_ended (word_in log) u (drop (header_size log) log) t w in
    rw x.1 (tight_whole b log true h {b₁ = b₁} (records_in log true) f₂ p s l refl x.0.answer_is x.0.number_is)
ended_whole {f₂ = f₂} b log h k (running {b₁ = b₁} p s l a) w =
    let x = ended_after (classes_in log) (start (member_of (word_in log))) 0 (drop (header_size log) log) (simp length-drop (omega arith)) a w in
    running_whole b log true h {b₁ = b₁} (records_in log true) f₂ p s l refl x.0.answer_is x.0.number_is x.1

-- ---- From a fresh feed.

-- Bytes behind a unit do not change its size.
pub whole_unit : (opened : Bool) (unit rest : List ℕ) → length unit ≡ unit_size opened unit → unit_size opened (unit ++ rest) ≡ unit_size opened unit
whole_unit opened unit rest l = let m = unit_least opened unit in told opened unit rest (omega arith)

-- The header is the first unit, and the records are behind it.
behind_header : {b b₁ b' : Buffers} {f₁ f : Feed} (log unit rest : List ℕ) → length log < 2 ^ 64 → log ≡ unit ++ rest → length unit ≡ header_size unit
    → UnitValidated false 0 b unit f₁ b₁ → Fed f₁ b₁ rest f b'
    → (header_size log ≤ length log) × LogFed b (classes_in log) (word_in log) (drop (header_size log) log) f b'
behind_header {b} {b' = b'} {f = f} log unit rest small w l j r =
    let n : length log ≡ length unit + length rest = ap length w ∙ length-append unit rest in
    let k : header_size log ≡ header_size unit = ap header_size w ∙ whole_unit false unit rest l in
    let t : unit ≡ take (header_size log) log = sym (ap (take (header_size log)) w ∙ take_at unit rest (header_size log) (l ∙ sym k)) in
    let d : rest ≡ drop (header_size log) log = sym (ap (drop (header_size log)) w ∙ drop_at unit rest (header_size log) (l ∙ sym k)) in (
      omega arith,
      subst₂ (λ (u x : List ℕ). LogFed b (header_classes u) (header_word u) x f b') t d (header_fed unit rest (omega arith) (header_opened refl refl j) r),
    )

pub log_going : {b b' : Buffers} {f : Feed} {log : List ℕ} → length log < 2 ^ 64 → Fed fresh b log f b' → WholeLog b log false f.answer f.number b'
log_going small (stopped x) = absurd (x refl)
log_going small (kept y k) = short_header k
log_going {b} {log = log} small (completed unit rest y q l j r) = let x = behind_header log unit rest small q l j r in fed_whole b log x.0 x.1

short_ended : {f₂ : Feed} {b b₂ : Buffers} (log : List ℕ) → length log < header_size log → Ended (with_part fresh log) b f₂ b₂
    → WholeLog b log true f₂.answer f₂.number b₂
short_ended log h (stands x) = absurd (x refl)
short_ended log h (no_header e o) = short_header h
short_ended log h (between e o l) = absurd (false≢true o)
short_ended log h (short e o l j) = absurd (false≢true o)

pub log_ended : {b b₁ b₂ : Buffers} {f f₂ : Feed} {log : List ℕ} → length log < 2 ^ 64 → Fed fresh b log f b₁ → Ended f b₁ f₂ b₂
    → WholeLog b log true f₂.answer f₂.number b₂
log_ended small (stopped x) w = absurd (x refl)
log_ended {log = log} small (kept y k) w = short_ended log k w
log_ended {b} {log = log} small (completed unit rest y q l j r) w = let x = behind_header log unit rest small q l j r in ended_whole b log x.0 small x.1 w
