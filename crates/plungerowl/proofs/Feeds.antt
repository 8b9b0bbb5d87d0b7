-- Runs of the feed's calls: a log in pieces is the whole log. Assumes nothing.
use mathlib.Core.Path.{◌≡◌, refl, sym, ap, subst, subst₂, ◌∙◌}
use mathlib.Core.Bool.{Bool, true, false, cond, ◌||◌, false≢true}
use mathlib.Core.List.{List, [], ◌++◌, append-nil}
use mathlib.Core.Logic.{◌⊎◌, inl, inr, ⊎_elim}
use Prim.Native.Nat.{ℕ, ◌-◌, ◌^◌, ◌≤◌, ◌<◌}
use native.Mathlib.Decide.{ℕ_discrete, dec_lt}
use native.Mathlib.Omega.{arith}
use lib.Dec.{eqb, leb, ltb}
use lib.ListN.{length, drop}
use borrow.Author.Tests.{le-leb, ne_eqb, eqb-true}
use Rattle.rules.specs.Record.{Bytes, is_malformed, record_size}
use Rattle.rules.specs.Run.{State, Result, step}
use Rattle.rules.proofs.Steps.{closed_step}
use Rattle.rules.specs.Log.{unit_size, header_classes, header_word}
use Rattle.opening.specs.Open.{opens}
use Rattle.rules.specs.Verdict.{Refusal, closed, malformed, no_class, wrong_sort, no_transition, still_held, not_held, too_deep, in_progress, not_in_progress, list_full, history_full, count_full, Answer, clean, fault, refused, refusal_number, number, bad_opening, unfit, refusal}
use Rattle.rules.proofs.Booleans.{and_cases, and_both, or_right}
use Rattle.rules.specs.Limits.{max_classes}
use Rattle.layout.specs.Layout.{classes_of, count_of}
use Rattle.layout.specs.Decoding.{view as view_desk}
use Rattle.layout.specs.Fit.{fits as desk_fits, fits_all}
use Rattle.fit.proofs.Facts.{facts}
use Rattle.validator.specs.Calls.{Buffers, Called}
use Rattle.progress.specs.Feed.{Feed, fresh, feed_size, most_loose, view, any_of, is_step_answer, stands_with, well_formed, fits, unit_begun, with_part}
use Rattle.progress.proofs.Fitness.{formed_loose, going_on, at_unit}
use Rattle.progress.proofs.Kept.{view_back, fits_back}
use Rattle.progress.proofs.UnitSizes.{unit_most}
use Rattle.unit.specs.Units.{more, UnitValidated, header, a_record}
use Rattle.feed.specs.Fed.{Fed, stopped, kept, completed, Ended, stands, no_header, between, short}
use Rattle.feed.specs.Calls.{holding, Started, FeedCall, FedPiece, FedEnd}
use Rattle.feed.proofs.Cuts.{some_unit, fed_none, fed_append}
use Rattle.unit.proofs.Units.{one_counted, stays_counted}
use Rattle.plungerowl.specs.Logs.{WholeLog, joined, FeedRan, no_piece, piece, end_between, LastCall, a_piece, the_end, ShortRefused}
use Rattle.plungerowl.proofs.Logs.{same_buffers, takes_nothing, record_validated}
use Rattle.plungerowl.proofs.Wholes.{log_going, log_ended}

-- ---- What a feed's bytes hold.

-- A feed that can be, with a number that eight bytes have.
pub record Proper (f : Feed) : Type 0 where
  pub formed : well_formed f ≡ true
  pub small : f.number < 2 ^ 64

-- The buffer holds the feed f.
pub record InBuffer (feed : List ℕ) (f : Feed) : Type 0 where
  pub fit : fits feed ≡ true
  pub is_view : view feed ≡ f
  pub proper : Proper f

pub held : {f : Feed} (feed : List ℕ) → Proper f → InBuffer (holding f feed) f
held {f} feed p =
    let l = formed_loose f p.formed in
    let m : length f.loose ≤ most_loose = omega (arith, unit_most f.opened f.loose) in
    record { fit = fits_back f (drop feed_size feed) m p.small p.formed; is_view = view_back f (drop feed_size feed) m p.small; proper = p }

-- ---- A feed stays one that can be.

-- Between two units.
begun : (o : Bool) (a n : ℕ) → stands_with o a n ≡ true → well_formed (unit_begun a o n) ≡ true
begun o a n s = elim (ℕ_discrete a 0) [
  | yes e ↦ sym (going_on (unit_begun a o n) 0 refl (some_unit o []) e) ∙ s
  | no m ↦ sym (at_unit (unit_begun a o n) 0 refl (some_unit o []) m refl) ∙ s
]

formed_stands : (f : Feed) → well_formed f ≡ true → stands_with f.opened f.answer f.number ≡ true
unfolding well_formed
formed_stands f e =
    (and_cases (eqb f.answer 0 || eqb (length f.loose) 0) _ (and_cases (ltb (length f.loose) (unit_size f.opened f.loose)) _ e).1).1

-- Before the desk is opened the number is 0.
unnumbered : (o : Bool) (a n : ℕ) → stands_with o a n ≡ true → o ≡ false → n ≡ 0
unnumbered true a n s e = absurd (false≢true (sym e))
unnumbered false a n s e = eqb-true n 0 (and_cases (eqb a 0 || eqb a bad_opening) _ s).1

refusal_answer : (x : Refusal) → is_step_answer (refusal_number x) ≡ true
unfolding is_step_answer any_of
refusal_answer closed = refl
refusal_answer malformed = refl
refusal_answer no_class = refl
refusal_answer wrong_sort = refl
refusal_answer no_transition = refl
refusal_answer still_held = refl
refusal_answer not_held = refl
refusal_answer too_deep = refl
refusal_answer in_progress = refl
refusal_answer not_in_progress = refl
refusal_answer list_full = refl
refusal_answer history_full = refl
refusal_answer count_full = refl

answer_number : (a : Answer) → is_step_answer (number a) ≡ true
unfolding is_step_answer
answer_number clean = refl
answer_number fault = refl
answer_number (refused x) = refusal_answer x

eleven : is_step_answer unfit ≡ true
unfolding is_step_answer
eleven = refl

step_answer : {b b' : Buffers} {r : Bytes} {a : ℕ} → Called b r a b' → is_step_answer a ≡ true
step_answer {b} {r = r} {a} t = by (fits_all b.desk b.sheet b.seen b.history b.slip) refl
  where
    by : (u : Bool) → fits_all b.desk b.sheet b.seen b.history b.slip ≡ u → is_step_answer a ≡ true
    by true e = ap is_step_answer (t.validated e).number_is ∙ answer_number (step (classes_of b.desk) (view_desk b.desk b.sheet b.seen b.history) r).answer
    by false e = ap is_step_answer (t.is_unfit e).0 ∙ eleven

counts : (n : ℕ) → n < 2 ^ 64 → (1 ≤ more n) × (more n < 2 ^ 64)
counts n h = elim (dec_lt n (2 ^ 64 - 1)) [
  | yes l ↦ rw (← one_counted n l) (omega arith, omega arith)
  | no m ↦ rw (← stays_counted n (omega arith)) (omega arith, omega arith)
]

zero_or_two : (t : Bool) (a : ℕ) → a ≡ cond t 0 bad_opening → (n : ℕ) → n ≡ 0 → stands_with (eqb a 0) a n ≡ true
unfolding is_step_answer
zero_or_two true a e n z = rw e refl
zero_or_two false a e n z = rw (e, z) refl

proper_unit : {o : Bool} {n : ℕ} {b b' : Buffers} {u : List ℕ} {f : Feed} → n < 2 ^ 64 → (o ≡ false → n ≡ 0) → UnitValidated o n b u f b' → Proper f
proper_unit {n = n} {b = b} {u = u} h z (header {answer} o p s) = record { formed = begun (eqb answer 0) answer n (zero_or_two (opens (header_classes u) (header_word u) b.desk b.sheet b.seen b.history) answer p.answer n (z o)); small = h }
proper_unit {n = n} h z (a_record {answer} {b' = b₁} o t) =
    let c = counts n h in
    record { formed = begun true answer (more n) (and_both (step_answer {b' = b₁} t) (or_right (eqb answer 0) (le-leb 1 (more n) c.0))); small = c.1 }

proper_numbered : {f : Feed} → Proper f → f.opened ≡ false → f.number ≡ 0
proper_numbered {f} p e = unnumbered f.opened f.answer f.number (formed_stands f p.formed) e

proper_fed : {f f' : Feed} {b b' : Buffers} {bytes : List ℕ} → Proper f → Fed f b bytes f' b' → Proper f'
proper_fed p (stopped n) = p
proper_fed {f} {bytes = bytes} p (kept e h) =
    record { formed = sym (going_on (with_part f bytes) _ refl h e) ∙ formed_stands f p.formed; small = p.small }
proper_fed p (completed unit rest e q l j r) = proper_fed (proper_unit p.small (proper_numbered p) j) r

proper_ended : {f f' : Feed} {b b' : Buffers} → Proper f → Ended f b f' b' → Proper f'
proper_ended p (stands n) = p
proper_ended {f} p (no_header e o) = record { formed = begun false bad_opening f.number (rw (proper_numbered p o) refl); small = p.small }
proper_ended p (between e o l) = p
proper_ended p (short e o l j) = proper_unit p.small (λ z. absurd (false≢true (sym z))) j

-- ---- The calls.

-- What a call said, of a buffer that holds a feed.
record Told (Next : Feed → Buffers → Type 0) (answer number : ℕ) (feed' : List ℕ) (b' : Buffers) : Type 0 where
  after : Feed
  next : Next after b'
  answer_is : answer ≡ after.answer
  number_is : number ≡ after.number
  kept_as : InBuffer feed' after

told : {f : Feed} {feed feed' : List ℕ} {b b' : Buffers} {answer number : ℕ} (Next : Feed → Feed → Buffers → Type 0) → InBuffer feed f
    → ((g : Feed) → Next f g b' → Proper g) → FeedCall feed b (Next (view feed)) answer number feed' b' → Told (Next f) answer number feed' b'
told {f} {feed} {b' = b'} Next i proper t =
    let g = t.goes_on i.fit in
    let n : Next f g.after b' = subst (λ (x : Feed). Next x g.after b') i.is_view g.next in
    record {
      after = g.after;
      next = n;
      answer_is = g.answer_is;
      number_is = g.number_is;
      kept_as = rw g.bytes (held feed (proper g.after n));
    }

-- A step with a record of other than six bytes is refused with 11, 10 or else 3, and changes nothing.
malformed_number : (K : ℕ) (s : State) (r : Bytes) → is_malformed r ≡ true → (number (step K s r).answer ≡ 10) ⊎ (number (step K s r).answer ≡ 3)
unfolding refusal
malformed_number K s r h = by s.is_closed refl
  where
    by : (c : Bool) → s.is_closed ≡ c → (number (step K s r).answer ≡ 10) ⊎ (number (step K s r).answer ≡ 3)
    by true e = inl (ap (λ (o : Result). number o.answer) (closed_step K s r e))
    by false e = inr (rw (e, h) refl)

not_six : (r : Bytes) → (length r ≡ record_size → ⊥) → is_malformed r ≡ true
unfolding is_malformed
not_six r n = rw (ne_eqb (length r) 6 n) refl

pub short_refused : {b b' : Buffers} {r : Bytes} {a : ℕ} → (length r ≡ record_size → ⊥) → Called b r a b' → ShortRefused a b b'
short_refused {b} {b'} {r} {a} n t = by (fits_all b.desk b.sheet b.seen b.history b.slip) refl
  where
    by : (u : Bool) → fits_all b.desk b.sheet b.seen b.history b.slip ≡ u → ShortRefused a b b'
    by false e = let v = t.is_unfit e in record { number_is = inl v.0; same = same_buffers b b' v.1 v.2 v.3 v.4 v.5 }
    by true e =
        let v = t.validated e in
        let m = malformed_number (classes_of b.desk) (view_desk b.desk b.sheet b.seen b.history) r (not_six r n) in
        let l : 1 < a = ⊎_elim (λ z. let y = v.number_is in omega arith) (λ z. let y = v.number_is in omega arith) m in
        let w = v.refused l in
        record {
          number_is = inr (⊎_elim (λ z. inl (v.number_is ∙ z)) (λ z. inr (v.number_is ∙ z)) m);
          same = same_buffers b b' w.0 w.1 w.2 w.3 (v.unreported (λ z. absurd (omega arith)));
        }

short_not_clean : {a : ℕ} {b b' : Buffers} → ShortRefused a b b' → a ≡ 0 → ⊥
short_not_clean s z = ⊎_elim (λ e. omega arith) (λ m. ⊎_elim (λ e. omega arith) (λ e. omega arith) m) s.number_is

-- An end call that answers 0 changes nothing.
nothing_ended : {f f' : Feed} {b b' : Buffers} → Proper f → Ended f b f' b' → f'.answer ≡ 0 → (f' ≡ f) × (b' ≡ b)
nothing_ended p (stands n) z = (refl, refl)
nothing_ended p (no_header e o) z = absurd (omega arith)
nothing_ended p (between e o l) z = (refl, refl)
nothing_ended {f} {b' = b'} p (short e o l j) z =
    let g = record_validated refl j in
    let k = formed_loose f p.formed in
    absurd
    (short_not_clean (short_refused {b' = b'} (λ y. absurd (let u : unit_size f.opened f.loose ≡ record_size = ap (λ (t : Bool). unit_size t f.loose) o in omega arith)) g.called)
    (ap (λ (v : Feed). v.answer) (sym g.is) ∙ z))

-- ---- Runs.

-- A run's calls take the pieces put together.
record RanFed (f : Feed) (b : Buffers) (bytes feed' : List ℕ) (b' : Buffers) : Type 0 where
  after : Feed
  fed : Fed f b bytes after b'
  kept_as : InBuffer feed' after

run_fed : {f : Feed} {feed feed' : List ℕ} {b b' : Buffers} {ps : List (List ℕ)} → InBuffer feed f → FeedRan feed b ps feed' b'
    → RanFed f b (joined ps) feed' b'
run_fed {f} {b = b} i no_piece = record { after = f; fed = fed_none f b (formed_loose f i.proper.formed); kept_as = i }
run_fed {f} {b = b} i (piece {p = p} t w) =
    let c = told (λ x y z. Fed x b p y z) i (λ g n. proper_fed i.proper n) t in
    let r = run_fed {f = c.after} c.kept_as w in
    record { after = r.after; fed = fed_append c.next r.fed; kept_as = r.kept_as }
run_fed {f} {b = b} {b' = b'} {ps = ps} i (end_between t w) =
    let c = told (λ x y z. Ended x b y z) i (λ g n. proper_ended i.proper n) t in
    let s = nothing_ended i.proper c.next (sym c.answer_is) in
    let r = run_fed {f = c.after} c.kept_as w in
    record { after = r.after; fed = subst₂ (λ (x : Feed) (y : Buffers). Fed x y (joined ps) r.after b') s.0 s.1 r.fed; kept_as = r.kept_as }

proper_fresh : Proper fresh
unfolding well_formed
proper_fresh = record { formed = refl; small = omega arith }

started_fresh : {feed feed' : List ℕ} → Started feed 0 feed' → InBuffer feed' fresh
started_fresh {feed} {feed'} s = by (leb feed_size (length feed)) refl
  where
    by : (t : Bool) → leb feed_size (length feed) ≡ t → InBuffer feed' fresh
    by true e = rw (s.bytes, e) (held feed proper_fresh)
    by false e = absurd (let z : 0 ≡ bad_opening = s.number_is ∙ ap (λ (t : Bool). cond t 0 bad_opening) e in omega arith)

-- ---- A run with its last call.

-- A piece.
pub record FedRun (b : Buffers) (log : List ℕ) (answer number : ℕ) (b' : Buffers) : Type 0 where
  pub after : Feed
  pub fed : Fed fresh b log after b'
  pub answer_is : answer ≡ after.answer
  pub number_is : number ≡ after.number

-- The end.
pub record EndedRun (b : Buffers) (log : List ℕ) (answer number : ℕ) (b' : Buffers) : Type 0 where
  pub going : Feed
  pub after : Feed
  pub between : Buffers
  pub fed : Fed fresh b log going between
  pub ended : Ended going between after b'
  pub answer_is : answer ≡ after.answer
  pub number_is : number ≡ after.number

module _ {feed₀ feed feed₁ feed₂ : List ℕ} {b b₁ b₂ : Buffers} {pieces : List (List ℕ)} {answer number : ℕ} (s : Started feed₀ 0 feed)
    (w : FeedRan feed b pieces feed₁ b₁) where
  pub fed_run : {p : List ℕ} → FedPiece feed₁ b₁ p answer number feed₂ b₂ → FedRun b (joined pieces ++ p) answer number b₂
  fed_run {p} t =
      let r = run_fed (started_fresh s) w in
      let c = told (λ x y z. Fed x b₁ p y z) r.kept_as (λ g n. proper_fed r.kept_as.proper n) t in
      record { after = c.after; fed = fed_append r.fed c.next; answer_is = c.answer_is; number_is = c.number_is }

  pub ended_run : FedEnd feed₁ b₁ answer number feed₂ b₂ → EndedRun b (joined pieces) answer number b₂
  ended_run t =
      let r = run_fed (started_fresh s) w in
      let c = told (λ x y z. Ended x b₁ y z) r.kept_as (λ g n. proper_ended r.kept_as.proper n) t in
      record { going = r.after; after = c.after; between = b₁; fed = r.fed; ended = c.next; answer_is = c.answer_is; number_is = c.number_is }

as_said : {b b' : Buffers} {log : List ℕ} {ended : Bool} {a n a' n' : ℕ} → a ≡ a' → n ≡ n' → WholeLog b log ended a' n' b' → WholeLog b log ended a n b'
as_said e h w = rw (e, h) w

-- The promise of document 02, b: a log in pieces, cut anywhere, with or without its end, is answered as the whole log is, which is settled by its bytes.
pub log_in_pieces : {feed₀ feed feed₁ feed₂ : List ℕ} {b b₁ b₂ : Buffers} {pieces : List (List ℕ)} {last : List ℕ} {ended : Bool} {answer number : ℕ}
    → Started feed₀ 0 feed → FeedRan feed b pieces feed₁ b₁ → LastCall feed₁ b₁ last ended answer number feed₂ b₂
    → length (joined pieces ++ last) < 2 ^ 64 → WholeLog b (joined pieces ++ last) ended answer number b₂
log_in_pieces s w (a_piece t) small =
    let r = fed_run s w t in
    as_said r.answer_is r.number_is (log_going small r.fed)
log_in_pieces s w (the_end t) small =
    let r = ended_run s w t in
    as_said r.answer_is r.number_is (rw append-nil (log_ended (rw append-nil at small) r.fed r.ended))

-- With a fault the slip has a cycle of at most 64 dependencies.
fault_shown : {b b' : Buffers} {r : Bytes} {a : ℕ} → Called b r a b' → a ≡ 1 → count_of b'.slip ≤ max_classes
unfolding fits_all
fault_shown {b} {b'} t z = by (fits_all b.desk b.sheet b.seen b.history b.slip) refl
  where
    by : (u : Bool) → fits_all b.desk b.sheet b.seen b.history b.slip ≡ u → count_of b'.slip ≤ max_classes
    by false e = absurd (let y = (t.is_unfit e).0 in omega arith)
    by true e =
        let r = (t.validated e).reported z in
        omega (arith, r.bytes.count, r.least.cycle.at_most, (facts b.desk b.sheet b.seen (and_cases (desk_fits b.desk b.sheet b.seen) _ e).0).few)

header_clean : (t : Bool) (a : ℕ) → a ≡ cond t 0 bad_opening → a ≡ 1 → ⊥
header_clean true a e z = omega arith
header_clean false a e z = omega arith

unit_shown : {o : Bool} {n : ℕ} {b b' : Buffers} {u : List ℕ} {f : Feed} → UnitValidated o n b u f b' → f.answer ≡ 1 → count_of b'.slip ≤ max_classes
unit_shown {b = b} {u = u} (header {answer} o p s) z = absurd (header_clean (opens (header_classes u) (header_word u) b.desk b.sheet b.seen b.history) answer p.answer z)
unit_shown (a_record {b' = b'} o t) z = fault_shown {b' = b'} t z

fed_shown : {f f' : Feed} {b b' : Buffers} {bytes : List ℕ} → (f.answer ≡ 1 → ⊥) → Fed f b bytes f' b' → f'.answer ≡ 1 → count_of b'.slip ≤ max_classes
fed_shown n (stopped m) z = absurd (n z)
fed_shown n (kept e h) z = absurd (n z)
fed_shown n (completed {f₁ = f₁} unit rest e q l j r) z = elim (ℕ_discrete f₁.answer 1) [
  | yes y ↦ let x = takes_nothing (λ w. absurd (omega arith)) r in rw x.1 (unit_shown j y)
  | no y ↦ fed_shown y r z
]

ended_shown : {f f' : Feed} {b b' : Buffers} → (f.answer ≡ 1 → count_of b.slip ≤ max_classes) → Ended f b f' b' → f'.answer ≡ 1
    → count_of b'.slip ≤ max_classes
ended_shown g (stands n) z = g z
ended_shown g (no_header e o) z = absurd (omega arith)
ended_shown g (between e o l) z = g z
ended_shown g (short e o l j) z = unit_shown j z

pub run_shown : {b b' : Buffers} {log : List ℕ} {answer number : ℕ} → EndedRun b log answer number b' → answer ≡ 1 → count_of b'.slip ≤ max_classes
run_shown r z = ended_shown (fed_shown (λ e. omega arith) r.fed) r.ended (sym r.answer_is ∙ z)
