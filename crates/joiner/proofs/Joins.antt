-- What the joiner leaves: that the tests were passed, what is then drawn, and what is concluded from it. Assumes nothing.
use mathlib.Core.Path.{◌≡◌, refl, sym, ap, ap₂, ◌∙◌, subst, fun_ext}
use mathlib.Core.Bool.{Bool, true, false, cond, not, ◌||◌, or-false, and-false, true≢false}
use mathlib.Core.List.{List, []}
use mathlib.Core.Logic.{inr}
use Prim.Native.Nat.{ℕ, ◌+◌, ◌*◌, ◌<◌, ◌≤◌}
use native.Mathlib.Decide.{ℕ_discrete}
use native.Mathlib.Omega.{arith}
use lib.Dec.{leb, ltb}
use lib.Bits.{bit_or}
use lib.ListN.{length}
use borrow.Author.Tests.{leb-true, lt-ltb}
use Rattle.rules.specs.Limits.{core_count, max_classes}
use Rattle.rules.specs.HeldLocks.{fresh_core}
use Rattle.rules.specs.Marks.{Marks}
use Rattle.rules.specs.Log.{word_size}
use Rattle.rules.specs.Run.{State}
use Rattle.rules.specs.Join.{joined_state, first_or}
use Rattle.rules.proofs.Booleans.{and_cases}
use Rattle.validity.specs.Valid.{Valid}
use Rattle.validity.proofs.Kept.{valid_joined}
use Rattle.layout.specs.Layout.{marks_at, accepted_at, declared_at, number_size, desk_size, sheet_size, seen_size, slip_size, classes_of, declared_of, pair_number, count_of, AreBytes}
use Rattle.layout.specs.Encoding.{DeskBytes, SheetBytes, NumberBytes, SeenBytes, CrossBytes, Encodes}
use Rattle.layout.proofs.Buffers.{cell_inside, keeps_self, keeps_both}
use Rattle.layout.proofs.Cross.{cross_kept}
use Rattle.layout.proofs.Numbers.{value_small}
use Rattle.layout.proofs.Flags.{mark_or, kind_or}
use Rattle.update.proofs.Cores.{marks_changed}
use Rattle.fit.proofs.Facts.{facts, number_facts}
use Rattle.fit.proofs.Fitting.{fit_encodes, fit_valid}
use Rattle.fit.proofs.Crossed.{no_entries}
use Rattle.opening.specs.Open.{opened_desk}
use Rattle.opening.proofs.Opens.{opened_desk_lem, opened_count, opened_cross, desk_keeps}
use Rattle.cores.specs.Cores.{Cored}
use Rattle.conclusion.specs.Conclude.{with_marks, Sheeted, Concluded}
use Rattle.validator.proofs.Carried.{carried_out}
use Rattle.benches.specs.Benches.{Bench, bench_fits, bench_state, bench_classes, is_closed, larger, same_classes, has_room, join_unfit, join_refusal}
use Rattle.benches.proofs.Refusals.{refusal_high, same_both}
use Rattle.joiner.specs.Joining.{Joined}
use Rattle.joiner.specs.Parts.{Ready, DrawnOfBoth}

-- A fresh core marks nothing.
fresh_marks : (marks : Marks) → with_marks marks fresh_core ≡ marks
fresh_marks marks = fun_ext (λ c. fun_ext (λ l. fun_ext (λ u. simp (and-false, or-false))))

-- ---- What is known where nothing is refused.

none_refused : (a b c : Bool) → ◌≡◌ {A = ℕ} (cond a 11 (cond b 12 (cond c 13 0))) 0 → (a ≡ false) × (b ≡ false) × (c ≡ false)
none_refused false false false h = (refl, refl, refl)
none_refused true b c h = absurd (omega arith)
none_refused false true c h = absurd (omega arith)
none_refused false false true h = absurd (omega arith)

none_unfit : (a b c : Bool) → (not a || (not b || not c)) ≡ false → (a ≡ true) × (b ≡ true) × (c ≡ true)
none_unfit true true true h = (refl, refl, refl)
none_unfit false b c h = absurd (true≢false h)
none_unfit true false c h = absurd (true≢false h)
none_unfit true true false h = absurd (true≢false h)

not_not : (a : Bool) → not a ≡ false → a ≡ true
not_not true h = refl
not_not false h = absurd (true≢false h)

module _ (one two : Bench) (desk sheet seen slip : List ℕ) where
  abbrev K : ℕ
  K = bench_classes one

  abbrev refusal : ℕ
  refusal = join_refusal one two (length desk) (length sheet) (length seen) (length slip)

  pub refused : (n : ℕ) → n ≡ refusal → (n ≡ 0 → ⊥) → Joined one two desk sheet seen slip n desk sheet seen slip
  refused n e h = record { is_refused = λ l. (e, refl, refl, refl, refl); is_joined = λ z. absurd (h (e ∙ z)) }

  pub record Passed : Type 0 where
    pub fit₁ : bench_fits one ≡ true
    pub fit₂ : bench_fits two ≡ true
    pub same : bench_classes two ≡ K
    pub declared : declared_of one.desk ≡ declared_of two.desk
    pub desk_room : desk_size ≤ length desk
    pub sheet_room : sheet_size K ≤ length sheet
    pub seen_room : seen_size K ≤ length seen
    pub slip_room : slip_size K ≤ length slip

  pub passed : refusal ≡ 0 → Passed
  unfolding join_refusal join_unfit has_room
  passed z =
      let a = none_refused (join_unfit one two (length desk) (length sheet) (length seen) (length slip)) (not (same_classes one.desk two.desk)) (is_closed one || is_closed two) z in
      let b = none_unfit (bench_fits one) (bench_fits two) (has_room (larger K (bench_classes two)) (length desk) (length sheet) (length seen) (length slip)) a.0 in
      let both = same_both one.desk two.desk (not_not _ a.1) in
      let e : bench_classes two ≡ K = sym both.0 in
      let k : larger K (bench_classes two) ≡ K = rw e (larger_self K) in
      let r : has_room K (length desk) (length sheet) (length seen) (length slip) ≡ true = rw k at b.2 in
      let p = and_cases (leb desk_size (length desk)) _ r in
      let q = and_cases (leb (sheet_size K) (length sheet)) _ p.1 in
      let s = and_cases (leb (seen_size K) (length seen)) _ q.1 in
      record {
        fit₁ = b.0;
        fit₂ = b.1;
        same = e;
        declared = both.1;
        desk_room = leb-true _ _ p.0;
        sheet_room = leb-true _ _ q.0;
        seen_room = leb-true _ _ s.0;
        slip_room = leb-true _ _ s.1;
      }
    where
      larger_self : (k : ℕ) → larger k k ≡ k
      larger_self k = by (ltb k k)
        where
          by : (b : Bool) → cond b k k ≡ k
          by true = refl
          by false = refl

  module _ (p : Passed) where
    few : K ≤ max_classes
    few = (facts one.desk one.sheet one.seen p.fit₁).few

    pub ready : Ready one two desk sheet seen
    ready =
        let f = facts one.desk one.sheet one.seen p.fit₁ in
        let g = facts two.desk two.sheet two.seen p.fit₂ in
        record {
          few = few;
          desk_one = f.long;
          desk_two = g.long;
          desk_room = p.desk_room;
          sheet_one = f.square;
          sheet_two = rw p.same at g.square;
          sheet_room = p.sheet_room;
          seen_one = (number_facts one.desk one.sheet one.seen p.fit₁).long;
          seen_two = rw p.same at (number_facts two.desk two.sheet two.seen p.fit₂).long;
          seen_room = p.seen_room;
        }

    -- ---- What is drawn. The four facts are that the bytes of the benches are bytes.

    module _ (small₁ : AreBytes desk_size one.desk) (numbers₁ : AreBytes (seen_size K) one.seen) (small₂ : AreBytes desk_size two.desk)
        (numbers₂ : AreBytes (seen_size (bench_classes two)) two.seen) {desk' sheet' seen' : List ℕ} (D : DrawnOfBoth one two desk sheet seen desk' sheet' seen') where
      abbrev t : State
      t = joined_state (bench_state one) (bench_state two)

      encodes₁ : Encodes K (bench_state one) one.desk one.sheet one.seen []
      encodes₁ = fit_encodes one.desk one.sheet one.seen [] p.fit₁ (no_entries one.desk) small₁ numbers₁

      encodes₂ : Encodes K (bench_state two) two.desk two.sheet two.seen []
      encodes₂ =
          subst (λ (k : ℕ). Encodes k (bench_state two) two.desk two.sheet two.seen []) p.same
          (fit_encodes two.desk two.sheet two.seen [] p.fit₂ (no_entries two.desk) small₂ numbers₂)

      valid : Valid K t
      valid =
          valid_joined (fit_valid one.desk one.sheet one.seen [] p.fit₁ (no_entries one.desk) small₁ numbers₁)
          (subst (λ (k : ℕ). Valid k (bench_state two)) p.same (fit_valid two.desk two.sheet two.seen [] p.fit₂ (no_entries two.desk) small₂ numbers₂))

      in_desk : DeskBytes K false t.cores t.graph.marks desk'
      in_desk =
          marks_changed (opened_desk_lem K (declared_of one.desk) desk p.desk_room) (record { long = D.marks.long; else = D.marks.else })
          (record {
            usage = λ c l.
                D.marks.both (marks_at + c) (omega arith) (omega arith)
                ∙ ap₂ bit_or (encodes₁.in_desk.usage c l) (encodes₂.in_desk.usage c l)
                ∙ mark_or (bench_state one).graph.marks (bench_state two).graph.marks c;
          })

      in_count : NumberBytes t.journal.accepted desk' accepted_at
      in_count j l = D.marks.else (accepted_at + j) (inr (omega arith)) ∙ opened_count K (declared_of one.desk) desk p.desk_room j l

      in_cross : CrossBytes t.cross desk' []
      in_cross =
          cross_kept t.cross (opened_desk K (declared_of one.desk) desk) desk' [] (λ j l h. D.marks.else j (inr (omega arith)))
          (opened_cross K (declared_of one.desk) desk p.desk_room
          (value_small one.desk word_size declared_at (λ j l. small₁ (declared_at + j) (omega arith))) [])

      in_sheet : SheetBytes K t.graph.locks sheet'
      in_sheet =
          record {
            long = rw D.kinds.long p.sheet_room;
            kinds = λ f g l m.
                D.kinds.both (f * K + g) (omega arith) (cell_inside K f g l m)
                ∙ ap₂ bit_or (encodes₁.in_sheet.kinds f g l m) (encodes₂.in_sheet.kinds f g l m)
                ∙ kind_or (bench_state one).graph.locks (bench_state two).graph.locks f g;
          }

      -- A pair of classes below K has the number that stands in its bytes.
      seen_number : (b : Bench) → bench_classes b ≡ K → (f g : ℕ) → f < K → g < K → (bench_state b).journal.seen f g ≡ pair_number b.seen (f * K + g)
      seen_number b e f g l m = rw (e, lt-ltb f K l, lt-ltb g K m) refl

      in_seen : SeenBytes K t.journal.seen seen'
      in_seen =
          record {
            long = rw D.numbers.keeps.long p.seen_room;
            numbers = λ f g l m.
                subst (λ (n : ℕ). NumberBytes n seen' (number_size * (f * K + g)))
                (sym (ap₂ first_or (seen_number one refl f g l m) (seen_number two p.same f g l m))) (D.numbers.numbers (f * K + g) (cell_inside K f g l m));
          }

      pub conclude_ready : Cored desk' × (0 < core_count) × Sheeted (classes_of desk') sheet' × (seen_size (classes_of desk') ≤ length seen')
          × (slip_size (classes_of desk') ≤ length slip)
      conclude_ready =
          let k = in_desk.classes in (
            record {
              few = rw k few;
              is_closed = false;
              cores = t.cores;
              marks = t.graph.marks;
              encodes = rw k in_desk;
              valid = rw k valid.cores;
            },
            omega arith,
            record { locks = t.graph.locks; bytes = rw k in_sheet },
            rw k in_seen.long,
            rw k p.slip_room,
          )

      pub joined : {answer : ℕ} {desk'' slip'' : List ℕ} → refusal ≡ 0 → Concluded desk' sheet' seen' slip 0 answer desk'' slip''
          → Joined one two desk sheet seen slip answer desk'' sheet' seen' slip''
      joined z c =
          record {
            is_refused = λ l. absurd (omega arith);
            is_joined = λ _.
                carried_out K 0 t t.graph.marks desk sheet seen [] slip desk' sheet' seen' [] (facts one.desk one.sheet one.seen p.fit₁).some few valid refl
                (ap (λ (m : Marks). record { locks = t.graph.locks; marks = m }) (fresh_marks t.graph.marks)) in_desk in_count in_sheet in_seen in_cross
                (keeps_both (desk_keeps K (declared_of one.desk) desk p.desk_room) (record { long = D.marks.long; past = λ j l. D.marks.else j (inr (omega arith)) }))
                (record { long = D.kinds.long; past = λ j l. D.kinds.else j (inr l) }) D.numbers.keeps (keeps_self 0 []) c;
          }

-- The slip of a fault has a cycle of at most 64 dependencies.
pub joined_count : {one two : Bench} {desk sheet seen slip desk' sheet' seen' slip' : List ℕ} {answer : ℕ}
    → Joined one two desk sheet seen slip answer desk' sheet' seen' slip' → answer ≡ 1 → count_of slip' ≤ max_classes
joined_count {one} {two} {desk} {sheet} {seen} {slip} j e =
    elim (ℕ_discrete (refusal one two desk sheet seen slip) 0) [
      | yes z ↦
          let r = (j.is_joined z).reported e in
          let few = (facts one.desk one.sheet one.seen (passed one two desk sheet seen slip z).fit₁).few in
          omega (arith, r.bytes.count, r.least.cycle.at_most)
      | no n ↦
          let h = refusal_high one two (length desk) (length sheet) (length seen) (length slip) n in
          let q = (j.is_refused (omega arith)).0 in
          absurd (omega arith)
    ]
