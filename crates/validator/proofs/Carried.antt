-- What the conclusion leaves is what the rules decide, after an accepted record or of a joined state. Assumes nothing.
use mathlib.Core.Path.{◌≡◌, refl, sym, ap, ◌∙◌, subst}
use mathlib.Core.Bool.{Bool, true, false, true≢false}
use mathlib.Core.List.{List}
use Prim.Native.Nat.{ℕ, ◌+◌, ◌*◌, ◌≤◌}
use native.Mathlib.Omega.{arith}
use lib.ListN.{length}
use Rattle.rules.specs.Limits.{max_classes}
use Rattle.rules.specs.Marks.{Marks}
use Rattle.rules.specs.Graph.{Graph}
use Rattle.rules.specs.Decision.{cyclic}
use Rattle.rules.specs.Run.{State, decided}
use Rattle.validity.specs.Valid.{ValidCore, Valid}
use Rattle.validity.proofs.Kept.{valid_close}
use Rattle.layout.specs.Layout.{accepted_at, desk_size, sheet_size, seen_size, kept_size, KeepsPast}
use Rattle.layout.specs.Encoding.{DeskBytes, SheetBytes, NumberBytes, SeenBytes, CrossBytes, Encodes}
use Rattle.layout.specs.Decoding.{Reported, CarriedOut}
use Rattle.layout.proofs.Buffers.{keeps_both, keeps_more}
use Rattle.layout.proofs.Cross.{cross_kept}
use Rattle.fit.proofs.Fitting.{encodes_stand}
use Rattle.conclusion.specs.Conclude.{with_marks, ConcludedOn, is_clean, is_fault, Concluded}

abbrev closed_as : State → Bool → State
closed_as t b = record { is_closed = b; cores = t.cores; graph = t.graph; cross = t.cross; journal = t.journal }

-- The open state t, whose graph has the marks that core's locks add to `marks`. Before the conclusion desk, sheets, history and slip stand for it but for
-- these marks; `desk`, `sheet`, `seen`, `history` are the buffers as they were handed over.
module _ (K core : ℕ) (t : State) (marks : Marks) (desk sheet seen history slip desk' sheet' seen' history' : List ℕ) (some : 1 ≤ K) (few : K ≤ max_classes) (v : Valid K t)
    (opened : t.is_closed ≡ false)
    (marked : ◌≡◌ {A = Graph} (record { locks = t.graph.locks; marks = with_marks marks (t.cores core) }) t.graph)
    (in_desk : DeskBytes K false t.cores marks desk') (in_count : NumberBytes t.journal.accepted desk' accepted_at)
    (in_sheet : SheetBytes K t.graph.locks sheet') (in_seen : SeenBytes K t.journal.seen seen') (in_cross : CrossBytes t.cross desk' history')
    (keeps_desk : KeepsPast desk_size desk desk') (keeps_sheet : KeepsPast (sheet_size K) sheet sheet') (keeps_seen : KeepsPast (seen_size K) seen seen')
    (keeps_history : KeepsPast (kept_size * length t.cross.history) history history') where
  encoded : (b : Bool) {desk'' : List ℕ} → DeskBytes K b t.cores (with_marks marks (t.cores core)) desk'' → KeepsPast accepted_at desk' desk''
      → Encodes K (closed_as t b) desk'' sheet' seen' history'
  encoded b {desk''} sb ks =
      record {
        in_desk = subst (λ (g : Graph). DeskBytes K b t.cores g.marks desk'') marked sb;
        in_count = λ j l. ks.past (accepted_at + j) (omega arith) ∙ in_count j l;
        in_sheet = in_sheet;
        in_cross = cross_kept t.cross desk' desk'' history' (λ j l h. ks.past j (omega arith)) in_cross;
        in_seen = in_seen;
      }

  decided_on : {answer : ℕ} {desk'' slip'' : List ℕ}
      → ConcludedOn K t.cores marks t.graph.locks t.journal.seen core desk' slip answer desk'' slip'' → (b : Bool) → cyclic K t.graph ≡ b
      → CarriedOut K (decided b t) desk sheet seen history slip answer desk'' sheet' seen' history' slip''
  decided_on {desk'' = desk''} (is_clean c sb ks) false e =
      record {
        number_is = refl;
        stands = encodes_stand some few v (subst (λ (b : Bool). Encodes K (closed_as t b) desk'' sheet' seen' history') (sym opened) (encoded false sb ks));
        keeps_desk = keeps_both keeps_desk (keeps_more (omega arith) ks);
        keeps_sheet = keeps_sheet;
        keeps_seen = keeps_seen;
        keeps_history = keeps_history;
        refused = λ h. absurd (omega arith);
        unreported = λ h. refl;
        reported = λ h. absurd (omega arith);
      }
  decided_on {slip'' = slip''} (is_fault c sb ks r) true e =
      record {
        number_is = refl;
        stands = encodes_stand some few (valid_close v) (encoded true sb ks);
        keeps_desk = keeps_both keeps_desk (keeps_more (omega arith) ks);
        keeps_sheet = keeps_sheet;
        keeps_seen = keeps_seen;
        keeps_history = keeps_history;
        refused = λ h. absurd (omega arith);
        unreported = λ h. absurd (h refl);
        reported = λ h. subst (λ (g : Graph). Reported K g t.journal.seen slip slip'') marked r;
      }
  decided_on (is_clean c sb ks) true e = absurd (true≢false (sym e ∙ sym (ap (cyclic K) marked) ∙ c))
  decided_on (is_fault c sb ks r) false e = absurd (true≢false (sym (sym e ∙ sym (ap (cyclic K) marked) ∙ c)))

  -- The conclusion's own number of classes is the desk's.
  concluded_at : {answer : ℕ} {desk'' slip'' : List ℕ} → Concluded desk' sheet' seen' slip core answer desk'' slip''
      → ConcludedOn K t.cores marks t.graph.locks t.journal.seen core desk' slip answer desk'' slip''
  concluded_at {answer} {desk''} {slip''} c =
      subst
      (λ (k : ℕ).
      DeskBytes k false t.cores marks desk' → ((i : ℕ) → ValidCore k (t.cores i)) → SheetBytes k t.graph.locks sheet'
      → SeenBytes k t.journal.seen seen' → ConcludedOn k t.cores marks t.graph.locks t.journal.seen core desk' slip answer desk'' slip'')
      in_desk.classes (λ sb vs mb nb. c.concluded t.cores marks t.graph.locks t.journal.seen sb vs mb v.journal.at_most nb) in_desk
      v.cores in_sheet in_seen

  pub carried_out : {answer : ℕ} {desk'' slip'' : List ℕ} → Concluded desk' sheet' seen' slip core answer desk'' slip''
      → CarriedOut K (decided (cyclic K t.graph) t) desk sheet seen history slip answer desk'' sheet' seen' history' slip''
  carried_out c = decided_on (concluded_at c) (cyclic K t.graph) refl
