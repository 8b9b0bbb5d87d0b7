-- What a step comes to at each of its returns. Assumes nothing.
use mathlib.Core.Path.{◌≡◌, refl, sym, ap, ◌∙◌, subst}
use mathlib.Core.Bool.{Bool, true, false, true≢false}
use mathlib.Core.List.{List}
use mathlib.Core.Logic.{inr}
use mathlib.Core.Option.{none, some}
use Prim.Native.Nat.{ℕ, suc, ◌+◌, ◌*◌, ◌<◌, ◌≤◌}
use native.Mathlib.Omega.{arith}
use lib.ListN.{length}
use borrow.Author.Tests.{eq-eqb, le-leb, lt-leb, leb-false}
use Rattle.words.specs.Bits.{flag}
use Rattle.rules.specs.Limits.{max_accepted}
use Rattle.rules.specs.Record.{is_malformed, core_of, event_of}
use Rattle.rules.specs.HeldLocks.{Core, after_event}
use Rattle.rules.specs.Graph.{Graph}
use Rattle.rules.specs.Verdict.{Refusal, closed, malformed, count_full, refused, refusal_number, number, refusal}
use Rattle.rules.specs.Run.{State, situation, accept, Result, settled, step}
use Rattle.rules.proofs.Steps.{closed_step, refused_number, accepted_passes}
use Rattle.validity.specs.Valid.{ValidCore, Valid}
use Rattle.validity.proofs.Kept.{valid_accept}
use Rattle.layout.specs.Layout.{accepted_at, number_size, desk_size, sheet_size, seen_size, history_size, kept_size, slip_size, classes_of, closed_of, accepted_of, AreBytes, KeepsPast}
use Rattle.layout.specs.Encoding.{DeskBytes, SheetBytes, NumberBytes, SeenBytes, CrossBytes, Encodes}
use Rattle.layout.specs.Decoding.{view, StandFor, CarriedOut}
use Rattle.layout.specs.Fit.{fits, entries_fit, fits_all}
use Rattle.layout.proofs.Buffers.{keeps_self}
use Rattle.layout.proofs.Numbers.{number_is, same_value}
use Rattle.layout.proofs.Cross.{cross_kept}
use Rattle.numbers.specs.Numbers.{NumberPut}
use Rattle.update.proofs.Cores.{count_changed}
use Rattle.fit.proofs.Facts.{facts}
use Rattle.fit.proofs.Fitting.{fit_encodes, fit_valid, encodes_stand}
use Rattle.cores.specs.Cores.{Cored}
use Rattle.acting.specs.Action.{KeepsCount, ActedOn, refuses, accepts, Acted}
use Rattle.validator.specs.Step.{Validated, Stepped}
use Rattle.conclusion.specs.Conclude.{with_marks, Sheeted, Concluded}
use Rattle.validator.proofs.Carried.{carried_out}

-- ---- Unfit.

module _ (desk sheet seen history slip bytes : List ℕ) where
  unfit_law : fits_all desk sheet seen history slip ≡ false → Stepped desk sheet seen history slip bytes 11 desk sheet seen history slip
  unfit_law f = record { is_unfit = λ h. (refl, refl, refl, refl, refl, refl); validated = λ h. absurd (true≢false (sym h ∙ f)) }

  pub unfit_buffers : fits desk sheet seen ≡ false → Stepped desk sheet seen history slip bytes 11 desk sheet seen history slip
  unfolding fits_all
  unfit_buffers f = unfit_law (rw f refl)

  pub unfit_history : fits desk sheet seen ≡ true → length history < history_size → Stepped desk sheet seen history slip bytes 11 desk sheet seen history slip
  unfolding fits_all
  unfit_history f l = unfit_law (rw (f, lt-leb history_size (length history) l) refl)

  module _ (f : fits desk sheet seen ≡ true) (l : history_size ≤ length history) where
    pub unfit_entries : entries_fit desk history ≡ false → Stepped desk sheet seen history slip bytes 11 desk sheet seen history slip
    unfolding fits_all
    unfit_entries h = unfit_law (rw (f, le-leb history_size (length history) l, h) refl)

    pub unfit_slip : entries_fit desk history ≡ true → length slip < slip_size (classes_of desk) → Stepped desk sheet seen history slip bytes 11 desk sheet seen history slip
    unfolding fits_all
    unfit_slip h m = unfit_law (rw (f, le-leb history_size (length history) l, h, lt-leb (slip_size (classes_of desk)) (length slip) m) refl)

  -- ---- Fit.

  abbrev K : ℕ
  K = classes_of desk

  module _ (small : AreBytes desk_size desk) (numbers : AreBytes (seen_size K) seen) (f : fits desk sheet seen ≡ true) (long : history_size ≤ length history)
      (entries : entries_fit desk history ≡ true) (room : slip_size K ≤ length slip) where
    fit_law : {answer : ℕ} {desk' sheet' seen' history' slip' : List ℕ}
        → ((s : State) → Valid K s → Encodes K s desk sheet seen history → Validated K s bytes desk sheet seen history slip answer desk' sheet' seen' history' slip')
        → Stepped desk sheet seen history slip bytes answer desk' sheet' seen' history' slip'
    unfolding fits_all
    fit_law j =
        let all : fits_all desk sheet seen history slip ≡ true =
        rw (f, le-leb history_size (length history) long, entries, le-leb (slip_size (classes_of desk)) (length slip) room) refl in
        record {
          is_unfit = λ h. absurd (true≢false (sym all ∙ h));
          validated = λ h. j (view desk sheet seen history) (fit_valid desk sheet seen history f entries small numbers) (fit_encodes desk sheet seen history f entries small numbers);
        }

    -- What encodes a valid state stands for it.
    stands : {t : State} {desk' sheet' seen' history' : List ℕ} → Valid K t → Encodes K t desk' sheet' seen' history' → StandFor K t desk' sheet' seen' history'
    stands = encodes_stand (facts desk sheet seen f).some (facts desk sheet seen f).few

    refused_validated : (s : State) (x : Refusal) → step K s bytes ≡ record { answer = refused x; state = s } → Valid K s → Encodes K s desk sheet seen history
        → Validated K s bytes desk sheet seen history slip (refusal_number x) desk sheet seen history slip
    refused_validated s x e v enc =
        let n = refused_number x in
        record {
          number_is = sym (ap (λ (o : Result). number o.answer) e);
          stands = subst (λ (o : Result). StandFor K o.state desk sheet seen history) (sym e) (stands v enc);
          keeps_desk = keeps_self desk_size desk;
          keeps_sheet = keeps_self (sheet_size K) sheet;
          keeps_seen = keeps_self (seen_size K) seen;
          keeps_history = keeps_self (kept_size * length (step K s bytes).state.cross.history) history;
          refused = λ h. (refl, refl, refl, refl);
          unreported = λ h. refl;
          reported = λ h. absurd (omega arith);
        }

    refusal_step : (s : State) (x : Refusal) → refusal (situation K s bytes) ≡ some x → step K s bytes ≡ record { answer = refused x; state = s }
    refusal_step s x e = rw e refl

    closed_flag : (b : Bool) → flag b ≡ 1 → b ≡ true
    closed_flag true e = refl
    closed_flag false e = absurd (omega arith)

    open_flag : (b : Bool) → (flag b ≡ 1 → ⊥) → b ≡ false
    open_flag true n = absurd (n refl)
    open_flag false n = refl

    pub is_closed : closed_of desk ≡ 1 → Stepped desk sheet seen history slip bytes 10 desk sheet seen history slip
    is_closed e =
        fit_law (λ s v enc. refused_validated s closed (closed_step K s bytes (closed_flag s.is_closed (sym enc.in_desk.closed ∙ e))) v enc)

    module _ (open_desk : closed_of desk ≡ 1 → ⊥) where
      opened : (s : State) → Encodes K s desk sheet seen history → s.is_closed ≡ false
      opened s enc = open_flag s.is_closed (λ e. open_desk (enc.in_desk.closed ∙ e))

      malformed_first : (s : State) → s.is_closed ≡ false → is_malformed bytes ≡ true → refusal (situation K s bytes) ≡ some malformed
      unfolding refusal
      malformed_first s o h = rw (o, h) refl

      pub is_malformed_lem : is_malformed bytes ≡ true → Stepped desk sheet seen history slip bytes 3 desk sheet seen history slip
      is_malformed_lem h =
          fit_law (λ s v enc. refused_validated s malformed (refusal_step s malformed (malformed_first s (opened s enc) h)) v enc)

      -- ---- The record's event.

      record Refused (s : State) (answer : ℕ) (desk' sheet' seen' history' : List ℕ) : Type 0 where
        by : Refusal
        is : refusal (situation K s bytes) ≡ some by
        number_is : answer ≡ refusal_number by
        same_desk : desk' ≡ desk
        same_sheet : sheet' ≡ sheet
        same_seen : seen' ≡ seen
        same_history : history' ≡ history

      record Accepted (s : State) (desk' sheet' seen' history' : List ℕ) : Type 0 where
        is : refusal (situation K s bytes) ≡ none
        in_desk : DeskBytes K s.is_closed (accept s bytes).cores s.graph.marks desk'
        in_sheet : SheetBytes K (accept s bytes).graph.locks sheet'
        in_seen : SeenBytes K (accept s bytes).journal.seen seen'
        in_cross : CrossBytes (accept s bytes).cross desk' history'
        keeps_count : KeepsCount desk desk'
        keeps_desk : KeepsPast desk_size desk desk'
        keeps_sheet : KeepsPast (sheet_size K) sheet sheet'
        keeps_seen : KeepsPast (seen_size K) seen seen'
        keeps_history : KeepsPast (kept_size * length (accept s bytes).cross.history) history history'

      refused_as : {s : State} {answer : ℕ} {desk' sheet' seen' history' : List ℕ} → ActedOn K s bytes desk sheet seen history answer desk' sheet' seen' history'
          → (answer ≡ 0 → ⊥) → Refused s answer desk' sheet' seen' history'
      refused_as (refuses x e) n =
          record { by = x; is = e; number_is = refl; same_desk = refl; same_sheet = refl; same_seen = refl; same_history = refl }
      refused_as (accepts e sb mb nb xb kc ks km kn kh) n = absurd (n refl)

      accepted_as : {s : State} {answer : ℕ} {desk' sheet' seen' history' : List ℕ} → ActedOn K s bytes desk sheet seen history answer desk' sheet' seen' history'
          → answer ≡ 0 → Accepted s desk' sheet' seen' history'
      accepted_as (refuses x e) z = absurd (let n = refused_number x in omega arith)
      accepted_as (accepts e sb mb nb xb kc ks km kn kh) z =
          record {
            is = e;
            in_desk = sb;
            in_sheet = mb;
            in_seen = nb;
            in_cross = xb;
            keeps_count = kc;
            keeps_desk = ks;
            keeps_sheet = km;
            keeps_seen = kn;
            keeps_history = kh;
          }

      pub is_refused : {answer : ℕ} {desk' sheet' seen' history' : List ℕ} → Acted desk sheet seen history bytes answer desk' sheet' seen' history' → (answer ≡ 0 → ⊥)
          → Stepped desk sheet seen history slip bytes answer desk' sheet' seen' history' slip
      is_refused {answer} {desk'} {sheet'} {seen'} {history'} a n =
          fit_law
          (λ s v enc.
          let r = refused_as (a.acted s (opened s enc) v enc) n in
          subst (λ (k : ℕ). Validated K s bytes desk sheet seen history slip k desk' sheet' seen' history' slip) (sym r.number_is)
          (subst (λ (l : List ℕ). Validated K s bytes desk sheet seen history slip (refusal_number r.by) l sheet' seen' history' slip) (sym r.same_desk)
          (subst (λ (l : List ℕ). Validated K s bytes desk sheet seen history slip (refusal_number r.by) desk l seen' history' slip) (sym r.same_sheet)
          (subst (λ (l : List ℕ). Validated K s bytes desk sheet seen history slip (refusal_number r.by) desk sheet l history' slip) (sym r.same_seen)
          (subst (λ (l : List ℕ). Validated K s bytes desk sheet seen history slip (refusal_number r.by) desk sheet seen l slip) (sym r.same_history)
          (refused_validated s r.by (refusal_step s r.by r.is) v enc))))))

      -- ---- The count.

      module _ (s : State) {desk' sheet' seen' history' counted : List ℕ} (v : Valid K s) (enc : Encodes K s desk sheet seen history) (p : Accepted s desk' sheet' seen' history')
          (P : NumberPut desk' accepted_at (suc (accepted_of desk')) counted) where
        same_count : accepted_of desk' ≡ s.journal.accepted
        same_count =
            same_value number_size desk' desk accepted_at p.keeps_count.count
            ∙ number_is desk s.journal.accepted accepted_at v.journal.limit enc.in_count

        counted_bytes : DeskBytes K s.is_closed (accept s bytes).cores s.graph.marks counted
        counted_bytes = count_changed p.in_desk P

        in_count : NumberBytes (accept s bytes).journal.accepted counted accepted_at
        in_count = subst (λ (n : ℕ). NumberBytes (suc n) counted accepted_at) same_count P.there

        keeps_counted : KeepsPast desk_size desk counted
        keeps_counted =
            record { long = P.long ∙ p.keeps_desk.long; past = λ j l. P.else j (inr (omega arith)) ∙ p.keeps_desk.past j l }

        counted_cross : CrossBytes (accept s bytes).cross counted history'
        counted_cross = cross_kept (accept s bytes).cross desk' counted history' (λ j l h. P.else j (inr (omega arith))) p.in_cross

        -- An accepted record leaves valid cores.
        accepted_cores : K ≤ 64 → Cored counted
        accepted_cores few =
            let valid = valid_accept K s bytes few v p.is in
            let e : K ≡ classes_of counted = sym counted_bytes.classes in
            record {
              few = rw (← e) few;
              is_closed = s.is_closed;
              cores = (accept s bytes).cores;
              marks = s.graph.marks;
              encodes = subst (λ (k : ℕ). DeskBytes k s.is_closed (accept s bytes).cores s.graph.marks counted) e counted_bytes;
              valid = λ i. subst (λ (k : ℕ). ValidCore k ((accept s bytes).cores i)) e (valid.cores i);
            }

      -- ---- What follows an accepted record.

      -- The core that the record names, after it.
      named_core : (s : State) → (accept s bytes).cores (core_of bytes) ≡ after_event (event_of bytes) (s.cores (core_of bytes))
      named_core s = rw (eq-eqb (core_of bytes) (core_of bytes) refl) refl

      same_graph : (s : State)
          → ◌≡◌ {A = Graph} (record { locks = (accept s bytes).graph.locks; marks = with_marks s.graph.marks ((accept s bytes).cores (core_of bytes)) })
          (accept s bytes).graph
      same_graph s =
          ap (λ (c : Core). record { locks = (accept s bytes).graph.locks; marks = with_marks s.graph.marks c }) (named_core s)

      pub is_validated : {desk' sheet' seen' history' counted desk'' slip'' : List ℕ} {before answer : ℕ}
          → Acted desk sheet seen history bytes before desk' sheet' seen' history' → before ≡ 0 → NumberPut desk' accepted_at (suc (accepted_of desk')) counted
          → Concluded counted sheet' seen' slip (core_of bytes) answer desk'' slip''
          → Stepped desk sheet seen history slip bytes answer desk'' sheet' seen' history' slip''
      is_validated {sheet' = sheet'} {seen'} {history'} {counted} {desk''} {slip''} {answer = answer} a z P c =
          fit_law
          (λ s v enc.
          let o = opened s enc in
          let p = accepted_as (a.acted s o v enc) z in
          subst (λ (o : Result). CarriedOut K o desk sheet seen history slip answer desk'' sheet' seen' history' slip'') (sym (ap (settled K s bytes) p.is))
          (carried_out K (core_of bytes) (accept s bytes) s.graph.marks desk sheet seen history slip counted sheet' seen' history' (facts desk sheet seen f).some
          (facts desk sheet seen f).few (valid_accept K s bytes (facts desk sheet seen f).few v p.is) o (same_graph s)
          (subst (λ (b : Bool). DeskBytes K b (accept s bytes).cores s.graph.marks counted) o (counted_bytes s v enc p P)) (in_count s v enc p P) p.in_sheet
          p.in_seen (counted_cross s v enc p P) (keeps_counted s v enc p P) p.keeps_sheet p.keeps_seen p.keeps_history c))

      -- The count is given what it asks for: it was not full.
      pub count_ready : {desk' sheet' seen' history' : List ℕ} {answer : ℕ} → Acted desk sheet seen history bytes answer desk' sheet' seen' history' → answer ≡ 0
          → (desk_size ≤ length desk') × (accepted_of desk' < max_accepted)
      count_ready {desk'} a z =
          let s = view desk sheet seen history in
          let v = fit_valid desk sheet seen history f entries small numbers in
          let enc = fit_encodes desk sheet seen history f entries small numbers in
          let p = accepted_as (a.acted s (opened s enc) v enc) z in
          let e : accepted_of desk' ≡ accepted_of desk = same_value number_size desk' desk accepted_at p.keeps_count.count in
          let l = leb-false max_accepted (accepted_of desk) (accepted_passes (situation K s bytes) count_full p.is) in
          (p.in_desk.long, omega arith)

      -- What follows is given what it asks for.
      pub conclude_ready : {desk' sheet' seen' history' counted : List ℕ} {answer : ℕ} → Acted desk sheet seen history bytes answer desk' sheet' seen' history' → answer ≡ 0
          → NumberPut desk' accepted_at (suc (accepted_of desk')) counted
          → Cored counted × Sheeted (classes_of counted) sheet' × (seen_size (classes_of counted) ≤ length seen') × (slip_size (classes_of counted) ≤ length slip)
      conclude_ready {sheet' = sheet'} a z P =
          let s = view desk sheet seen history in
          let v = fit_valid desk sheet seen history f entries small numbers in
          let enc = fit_encodes desk sheet seen history f entries small numbers in
          let p = accepted_as (a.acted s (opened s enc) v enc) z in
          let e = (counted_bytes s v enc p P).classes in (
            accepted_cores s v enc p P (facts desk sheet seen f).few,
            subst (λ (k : ℕ). Sheeted k sheet') (sym e) (record { locks = (accept s bytes).graph.locks; bytes = p.in_sheet }),
            rw e p.in_seen.long,
            rw e room,
          )
