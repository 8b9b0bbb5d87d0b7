-- A feed that takes a log leaves what the rules say of its bytes. Assumes nothing.
use mathlib.Core.Path.{◌≡◌, refl, sym, ap, ap₂, subst, ◌∙◌}
use mathlib.Core.Bool.{Bool, true, false, false≢true}
use mathlib.Core.List.{List, [], ◌∷◌, ◌++◌, append-nil}
use Prim.Native.Nat.{ℕ, suc, ◌+◌, ◌-◌, ◌^◌, ◌≤◌, ◌<◌}
use native.Mathlib.Numerals.{add-one}
use native.Mathlib.Decide.{ℕ_discrete}
use native.Mathlib.Omega.{arith}
use lib.ListN.{length, length-append}
use Rattle.rules.specs.Record.{Bytes, record_size}
use Rattle.rules.specs.Verdict.{number, unfit}
use Rattle.rules.specs.Run.{State, Result, start, step}
use Rattle.rules.specs.Log.{unit_size, records_of, loose_of, short_record, Outcome, validate}
use Rattle.layout.specs.Layout.{desk_size, sheet_size, seen_size, history_size, member_of}
use Rattle.layout.specs.Decoding.{CarriedOut}
use Rattle.layout.proofs.Buffers.{keeps_self, keeps_both, keeps_more}
use Rattle.layout.specs.Fit.{fits_all}
use Rattle.fit.proofs.Fitting.{stand_valid}
use Rattle.validator.specs.Calls.{Buffers, buffers, Called}
use Rattle.progress.specs.Feed.{Feed, unit_begun, with_part}
use Rattle.unit.specs.Units.{more, UnitValidated, header, a_record}
use Rattle.feed.specs.Fed.{Fed, stopped, kept, completed, Ended, stands, no_header, between, short}
use Rattle.unit.proofs.Units.{one_counted}
use Rattle.plungerowl.specs.Logs.{refuse_first, LeftBy}
use Rattle.plungerowl.proofs.Runs.{Holds, validated_by, step_holds}
use Rattle.rules.proofs.Cutting.{no_records, all_loose, cut_length, first_record, same_loose}
use Rattle.plungerowl.proofs.Records.{validate_on, validate_stops, validate_stopped, validate_more, validate_last}

-- ---- The buffers over several records.

-- A step.
left_by_step : {K : ℕ} {o : Result} {b b' : Buffers} {answer : ℕ} (n : ℕ)
    → CarriedOut K o b.desk b.sheet b.seen b.history b.slip answer b'.desk b'.sheet b'.seen b'.history b'.slip
    → LeftBy K (record { answer = number o.answer; at = n; state = o.state }) b b'
left_by_step n v =
    record {
      stands = v.stands;
      keeps_desk = v.keeps_desk;
      keeps_sheet = v.keeps_sheet;
      keeps_seen = v.keeps_seen;
      keeps_history = keeps_more (let k = (stand_valid v.stands).cross.kept in omega arith) v.keeps_history;
      unreported = λ h. v.unreported (λ z. h (sym v.number_is ∙ z));
      reported = λ h. v.reported (v.number_is ∙ h);
    }

-- Nothing was reported, and more follows.
pub left_then : {K : ℕ} {o o' : Outcome} {b b₁ b₂ : Buffers} → LeftBy K o b b₁ → (o.answer ≡ 1 → ⊥) → LeftBy K o' b₁ b₂ → LeftBy K o' b b₂
left_then v n w =
    let e = v.unreported n in
    record {
      stands = w.stands;
      keeps_desk = keeps_both v.keeps_desk w.keeps_desk;
      keeps_sheet = keeps_both v.keeps_sheet w.keeps_sheet;
      keeps_seen = keeps_both v.keeps_seen w.keeps_seen;
      keeps_history = keeps_both v.keeps_history w.keeps_history;
      unreported = λ h. w.unreported h ∙ e;
      reported = λ h. rw (← e) (w.reported h);
    }

-- ---- Records.

-- A feed after the records of some bytes, whose outcome is o.
pub record Tells (o : Outcome) (bytes : List ℕ) (f : Feed) : Type 0 where
  pub answer_is : f.answer ≡ o.answer
  pub number_is : f.number ≡ o.at
  pub opened_is : f.opened ≡ true
  pub loose_is : o.answer ≡ 0 → f.loose ≡ loose_of bytes

pub record After (K : ℕ) (o : Outcome) (bytes : List ℕ) (f : Feed) (b b' : Buffers) : Type 0 where
  pub tells : Tells o bytes f
  pub left : LeftBy K o b b'
  pub holds : Holds K o.state b'

-- A stopped feed takes nothing.
pub takes_nothing : {f f' : Feed} {b b' : Buffers} {bytes : List ℕ} → (f.answer ≡ 0 → ⊥) → Fed f b bytes f' b' → (f' ≡ f) × (b' ≡ b)
takes_nothing n (stopped m) = (refl, refl)
takes_nothing n (kept e h) = absurd (n e)
takes_nothing n (completed unit rest e q l j r) = absurd (n e)

counted_one : {m : ℕ} (n : ℕ) → m ≡ n → n < 2 ^ 64 - 1 → more m ≡ suc n
counted_one n e h = rw e (sym (one_counted n h) ∙ add-one n)

module _ {K : ℕ} {s : State} {f : Feed} {b : Buffers} (n : ℕ) (H : Holds K s b) (e : f.answer ≡ 0) (o : f.opened ≡ true) (i : f.loose ≡ [])
    (m : f.number ≡ n) where
  after_none : (bytes : List ℕ) → length (f.loose ++ bytes) < unit_size f.opened (f.loose ++ bytes) → After K (validate K s n (records_of bytes)) bytes (with_part f bytes) b b
  after_none bytes h =
      let l : length bytes < record_size = rw (i, o) at h in
      rw (no_records bytes l)
      (record {
        tells = record { answer_is = e; number_is = m; opened_is = o; loose_is = λ _. ap (λ (t : List ℕ). t ++ bytes) i ∙ sym (all_loose bytes l) };
        left =
            record {
              stands = H.stands;
              keeps_desk = keeps_self desk_size b.desk;
              keeps_sheet = keeps_self (sheet_size K) b.sheet;
              keeps_seen = keeps_self (seen_size K) b.seen;
              keeps_history = keeps_self history_size b.history;
              unreported = λ _. refl;
              reported = λ z. absurd (omega arith);
            };
        holds = H;
      })

-- The first record, and what comes of the others.
module _ {K : ℕ} {s : State} {b b₁ : Buffers} {answer : ℕ} (n : ℕ) (unit rest : List ℕ) (H : Holds K s b) (l : length unit ≡ record_size)
    (t : Called b unit answer b₁) where
  after_clean : {f₂ : Feed} {b₂ : Buffers} → answer ≡ 0 → After K (validate K (step K s unit).state (suc n) (records_of rest)) rest f₂ b₁ b₂
      → After K (validate K s n (records_of (unit ++ rest))) (unit ++ rest) f₂ b b₂
  after_clean {f₂} {b₂} z w =
      let v = validated_by H {b' = b₁} t in
      let q : validate K (step K s unit).state (suc n) (records_of rest) ≡ validate K s n (records_of (unit ++ rest)) =
      sym (ap (validate K s n) (first_record unit rest l) ∙ validate_on K s n unit (records_of rest) (sym v.number_is ∙ z)) in
      subst (λ (x : Outcome). After K x (unit ++ rest) f₂ b b₂) q
      (record {
        tells =
            record {
              answer_is = w.tells.answer_is;
              number_is = w.tells.number_is;
              opened_is = w.tells.opened_is;
              loose_is = λ y. w.tells.loose_is y ∙ sym (same_loose unit rest l);
            };
        left = left_then {b₁ = b₁} (left_by_step (suc n) v) (λ y. absurd (let x = v.number_is in omega arith)) w.left;
        holds = w.holds;
      })

  after_stop : (answer ≡ 0 → ⊥) → (k : ℕ) → k ≡ suc n → After K (validate K s n (records_of (unit ++ rest))) (unit ++ rest) (unit_begun answer true k) b b₁
  after_stop z k c =
      let v = validated_by H {b' = b₁} t in
      let q : record { answer = number (step K s unit).answer; at = suc n; state = (step K s unit).state } ≡ validate K s n (records_of (unit ++ rest)) =
      sym (ap (validate K s n) (first_record unit rest l) ∙ validate_stops K s n unit (records_of rest) (λ y. z (v.number_is ∙ y))) in
      subst (λ (x : Outcome). After K x (unit ++ rest) (unit_begun answer true k) b b₁) q
      (record {
        tells = record { answer_is = v.number_is; number_is = c; opened_is = refl; loose_is = λ y. absurd (z (v.number_is ∙ y)) };
        left = left_by_step (suc n) v;
        holds = step_holds H v;
      })

-- What validating a record says.
pub record RecordValidated (number : ℕ) (b : Buffers) (unit : List ℕ) (f : Feed) (b' : Buffers) : Type 0 where
  pub answer : ℕ
  pub called : Called b unit answer b'
  pub is : f ≡ unit_begun answer true (more number)

pub record_validated : {o : Bool} {n : ℕ} {b b' : Buffers} {unit : List ℕ} {f : Feed} → o ≡ true → UnitValidated o n b unit f b' → RecordValidated n b unit f b'
record_validated e (header u p z) = absurd (false≢true (sym u ∙ e))
record_validated e (a_record {answer} u t) = record { answer = answer; called = t; is = refl }

-- The record at the front, where `go` says what comes of the others.
after_record : {K : ℕ} {s : State} {b b₁ b₂ : Buffers} {f₁ f₂ : Feed} (n k : ℕ) (unit rest bytes : List ℕ) → Holds K s b → bytes ≡ unit ++ rest
    → length unit ≡ record_size → more k ≡ suc n → (j : RecordValidated k b unit f₁ b₁)
    → (j.answer ≡ 0 → After K (validate K (step K s unit).state (suc n) (records_of rest)) rest f₂ b₁ b₂) → Fed f₁ b₁ rest f₂ b₂
    → After K (validate K s n (records_of bytes)) bytes f₂ b b₂
after_record {b₁ = b₁} n k unit rest bytes H w d c j go r =
    rw w
    (elim (ℕ_discrete j.answer 0) [
      | yes z ↦ after_clean {b₁ = b₁} n unit rest H d j.called z (go z)
      | no z ↦
          let x = takes_nothing (λ y. z (ap (λ (g : Feed). g.answer) (sym j.is) ∙ y)) r in
          rw (x.0, x.1, j.is) (after_stop {b₁ = b₁} n unit rest H d j.called z (more k) c)
    ])

room_for : (n : ℕ) (unit rest bytes : List ℕ) → bytes ≡ unit ++ rest → length unit ≡ record_size → n + length bytes < 2 ^ 64
    → (n < 2 ^ 64 - 1) × (suc n + length rest < 2 ^ 64)
room_for n unit rest bytes w d h =
    let a : length bytes ≡ length unit + length rest = ap length w ∙ length-append unit rest in
    (omega arith, omega arith)

pub records_fed : {K : ℕ} {s : State} {f f' : Feed} {b b' : Buffers} {bytes : List ℕ} (n : ℕ) → Holds K s b → f.answer ≡ 0 → f.opened ≡ true
    → f.loose ≡ [] → f.number ≡ n → n + length bytes < 2 ^ 64 → Fed f b bytes f' b' → After K (validate K s n (records_of bytes)) bytes f' b b'
records_fed n H e o i m h (stopped x) = absurd (x e)
records_fed {bytes = bytes} n H e o i m h (kept y k) = after_none n H e o i m bytes k
records_fed {K} {s} {f = f} {bytes = bytes} n H e o i m h (completed {f₁ = f₁} {b₁ = b₁} unit rest y q l j r) =
    let w : bytes ≡ unit ++ rest = ap (λ (x : List ℕ). x ++ bytes) (sym i) ∙ q in
    let d : length unit ≡ record_size = l ∙ ap (λ (t : Bool). unit_size t unit) o in
    let z = room_for n unit rest bytes w d h in
    let c : more f.number ≡ suc n = counted_one n m z.0 in
    let g = record_validated o j in
    after_record n f.number unit rest bytes H w d c g
    (λ x. records_fed {s = (step K s unit).state} (suc n) (step_holds H (validated_by H {b' = b₁} g.called))
    (ap (λ (v : Feed). v.answer) g.is ∙ x) (ap (λ (v : Feed). v.opened) g.is) (ap (λ (v : Feed). v.loose) g.is)
    (ap (λ (v : Feed). v.number) g.is ∙ c) z.1 r)
    r

-- ---- The end behind records.

few_validated : (K : ℕ) (s : State) (n : ℕ) (rs : List Bytes) → (validate K s n rs).at ≤ n + length rs
few_validated K s n [] = omega arith
few_validated K s n (r ∷ rs) = elim (ℕ_discrete (number (step K s r).answer) 0) [
  | yes e ↦ let h = few_validated K (step K s r).state (suc n) rs in rw (validate_on K s n r rs e) (omega arith)
  | no m ↦ rw (validate_stops K s n r rs m) (omega arith)
]

short_one : (loose : List ℕ) → 0 < length loose → short_record true loose ≡ loose ∷ []
short_one [] h = absurd (omega arith)
short_one (x ∷ l) h = refl

-- What the end makes of it.
pub record AtEnd (o : Outcome) (f : Feed) : Type 0 where
  pub answer_is : f.answer ≡ o.answer
  pub number_is : f.number ≡ o.at

-- The outcome with the end, where o is that without it.
abbrev with_end : ℕ → State → ℕ → List ℕ → Outcome
with_end K s n bytes = validate K s n (records_of bytes ++ short_record true (loose_of bytes))

module _ (K : ℕ) (s : State) (n : ℕ) (bytes : List ℕ) {f : Feed} {b b₁ : Buffers} (h : n + length bytes < 2 ^ 64)
    (A : After K (validate K s n (records_of bytes)) bytes f b b₁) where
  same_end : with_end K s n bytes ≡ validate K s n (records_of bytes) → AtEnd (with_end K s n bytes) f × LeftBy K (with_end K s n bytes) b b₁
  same_end e = rw e (record { answer_is = A.tells.answer_is; number_is = A.tells.number_is }, A.left)

  short_end : {f₂ : Feed} {b₂ : Buffers} → f.answer ≡ 0 → 0 < length f.loose → RecordValidated f.number b₁ f.loose f₂ b₂
      → AtEnd (with_end K s n bytes) f₂ × LeftBy K (with_end K s n bytes) b b₂
  short_end {f₂} {b₂} e l j =
      let o = validate K s n (records_of bytes) in
      let z : o.answer ≡ 0 = sym A.tells.answer_is ∙ e in
      let v = validated_by A.holds {b' = b₂} j.called in
      let x : f.loose ≡ loose_of bytes = A.tells.loose_is z in
      let q : with_end K s n bytes ≡ record { answer = number (step K o.state f.loose).answer; at = suc o.at; state = (step K o.state f.loose).state } =
      validate_more K s n (records_of bytes) (short_record true (loose_of bytes)) z
      ∙ ap (λ (t : List ℕ). validate K o.state o.at (short_record true t)) (sym x)
      ∙ ap (validate K o.state o.at) (short_one f.loose l)
      ∙ validate_last K o.state o.at f.loose in
      let r = few_validated K s n (records_of bytes) in
      let y : length f.loose ≡ length (loose_of bytes) = ap length x in
      let c : more f.number ≡ suc o.at = counted_one o.at A.tells.number_is (omega (arith, cut_length bytes)) in
      rw q (
        record {
          answer_is = ap (λ (g : Feed). g.answer) j.is ∙ v.number_is;
          number_is = ap (λ (g : Feed). g.number) j.is ∙ c;
        },
        left_then {b₁ = b₁} A.left (λ w. absurd (omega arith)) (left_by_step (suc o.at) v),
      )

  pub ended_after : {f₂ : Feed} {b₂ : Buffers} → Ended f b₁ f₂ b₂ → AtEnd (with_end K s n bytes) f₂ × LeftBy K (with_end K s n bytes) b b₂
  ended_after (stands x) = same_end (validate_stopped K s n (records_of bytes) (short_record true (loose_of bytes)) (λ z. x (A.tells.answer_is ∙ z)))
  ended_after (no_header e u) = absurd (false≢true (sym u ∙ A.tells.opened_is))
  ended_after (between e u l) =
      let x : loose_of bytes ≡ [] = sym (A.tells.loose_is (sym A.tells.answer_is ∙ e)) ∙ l in
      same_end (ap (λ (t : List ℕ). validate K s n (records_of bytes ++ short_record true t)) x ∙ ap (validate K s n) (append-nil (records_of bytes)))
  ended_after (short e u l j) = short_end e l (record_validated refl j)

-- ---- A slip that is too short.

pub same_buffers : (b b' : Buffers) → b'.desk ≡ b.desk → b'.sheet ≡ b.sheet → b'.seen ≡ b.seen → b'.history ≡ b.history → b'.slip ≡ b.slip → b' ≡ b
same_buffers b b' d s n h p =
    ap₂ (λ (x y : List ℕ). buffers x y b'.seen b'.history b'.slip) d s
    ∙ ap₂ (λ (x y : List ℕ). buffers b.desk b.sheet x y b'.slip) n h
    ∙ ap (λ (x : List ℕ). buffers b.desk b.sheet b.seen b.history x) p

pub refuse_state : (word : ℕ) (rs : List Bytes) → (refuse_first word rs).state ≡ start (member_of word)
refuse_state word [] = refl
refuse_state word (r ∷ rs) = refl

pub refuse_answer : (word : ℕ) (rs : List Bytes) → (refuse_first word rs).answer ≡ 1 → ⊥
refuse_answer word [] e = omega arith
refuse_answer word (r ∷ rs) e = omega arith

module _ {b : Buffers} (word : ℕ) (u : fits_all b.desk b.sheet b.seen b.history b.slip ≡ false) where
  refused_record : {n : ℕ} {unit : List ℕ} {f : Feed} {b' : Buffers} → n ≡ 0 → RecordValidated n b unit f b' → (f ≡ unit_begun unfit true 1) × (b' ≡ b)
  refused_record {b' = b'} z j =
      let v = j.called.is_unfit u in
      (j.is ∙ ap₂ (λ (a m : ℕ). unit_begun a true m) v.0 (counted_one 0 z (omega arith)), same_buffers b b' v.1 v.2 v.3 v.4 v.5)

  -- The first record is refused, and what stands behind it is not looked at.
  pub tight_fed : {f f' : Feed} {b' : Buffers} {bytes : List ℕ} → f.answer ≡ 0 → f.opened ≡ true → f.loose ≡ [] → f.number ≡ 0 → Fed f b bytes f' b'
      → Tells (refuse_first word (records_of bytes)) bytes f' × (b' ≡ b)
  tight_fed e o i m (stopped x) = absurd (x e)
  tight_fed {bytes = bytes} e o i m (kept y k) =
      let l : length bytes < record_size = rw (i, o) at k in (
        rw (no_records bytes l)
            (record { answer_is = e; number_is = m; opened_is = o; loose_is = λ _. ap (λ (t : List ℕ). t ++ bytes) i ∙ sym (all_loose bytes l) }),
        refl,
      )
  tight_fed {bytes = bytes} e o i m (completed unit rest y q l j r) =
      let w : bytes ≡ unit ++ rest = ap (λ (x : List ℕ). x ++ bytes) (sym i) ∙ q in
      let d : length unit ≡ record_size = l ∙ ap (λ (t : Bool). unit_size t unit) o in
      let g = refused_record m (record_validated o j) in
      let x = takes_nothing (λ z. absurd (let a = ap (λ (v : Feed). v.answer) g.0 in omega arith)) r in (
        rw (x.0, g.0, w, first_record unit rest d)
            (record { answer_is = refl; number_is = refl; opened_is = refl; loose_is = λ z. absurd (omega arith) }),
        x.1 ∙ g.1,
      )

  pub tight_ended : {f f' : Feed} {b' : Buffers} (bytes : List ℕ) → Tells (refuse_first word (records_of bytes)) bytes f → Ended f b f' b'
      → AtEnd (refuse_first word (records_of bytes ++ short_record true (loose_of bytes))) f' × (b' ≡ b)
  tight_ended bytes t w = by (records_of bytes) t w
    where
      by : {f f' : Feed} {b' : Buffers} (rs : List Bytes) → Tells (refuse_first word rs) bytes f → Ended f b f' b'
          → AtEnd (refuse_first word (rs ++ short_record true (loose_of bytes))) f' × (b' ≡ b)
      by (r ∷ rs) t (stands x) = (record { answer_is = t.answer_is; number_is = t.number_is }, refl)
      by (r ∷ rs) t (no_header e o) = absurd (let a = t.answer_is in omega arith)
      by (r ∷ rs) t (between e o l) = absurd (let a = t.answer_is in omega arith)
      by (r ∷ rs) t (short e o l j) = absurd (let a = t.answer_is in omega arith)
      by [] t (stands x) = absurd (x t.answer_is)
      by [] t (no_header e o) = absurd (false≢true (sym o ∙ t.opened_is))
      by [] t (between e o l) = (rw (← t.loose_is refl, l) (record { answer_is = t.answer_is; number_is = t.number_is }), refl)
      by {f} [] t (short e o l j) =
          let g = refused_record t.number_is (record_validated refl j) in
          (rw (← t.loose_is refl, short_one f.loose l, g.0) (record { answer_is = refl; number_is = refl }), g.1)
