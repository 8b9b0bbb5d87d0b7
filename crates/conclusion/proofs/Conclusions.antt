-- What follows an accepted record, from what the called functions leave. Assumes nothing.
use mathlib.Core.Path.{◌≡◌, refl, sym, ap, ◌∙◌, subst}
use mathlib.Core.Bool.{Bool, false, ◌||◌, ◌&&◌}
use mathlib.Core.List.{List, ◌++◌}
use mathlib.Core.Logic.{inr}
use Prim.Native.Nat.{ℕ, ◌+◌, ◌*◌, ◌<◌, ◌≤◌}
use native.Mathlib.Omega.{arith}
use lib.ListN.{length, get_or, set, length-set}
use lib.Seq.{get_or-set_other}
use Rattle.rules.specs.Limits.{core_count, max_classes, max_accepted}
use Rattle.rules.specs.Context.{frame_of}
use Rattle.rules.specs.HeldLocks.{Core, current, some_held}
use Rattle.rules.specs.Marks.{Marks, set_in, letter_fits}
use Rattle.rules.specs.Graph.{Dependencies, Graph, source_number}
use Rattle.rules.specs.Cycle.{Entry, entry_bytes, entry_at, following, Cycle}
use Rattle.rules.specs.LeastCycle.{LeastCycle}
use Rattle.rules.proofs.Closure.{length_tabulate, get_d_tabulate}
use Rattle.rules.proofs.Decided.{cyclic_complete}
use Rattle.rules.proofs.CycleExists.{cycle_exactly}
use Rattle.validity.specs.Valid.{ValidCore}
use Rattle.layout.specs.Layout.{accepted_at, number_size, closed_at, frame_number, classes_of, state_of, number_of, KeepsPast}
use Rattle.rules.specs.Number.{bytes_of}
use Rattle.layout.specs.Decoding.{number_by, entry_seen, SlipBytes}
use Rattle.layout.specs.Slip.{next_place}
use Rattle.layout.proofs.Numbers.{number_is}
use Rattle.layout.proofs.Slips.{next_below}
use Rattle.layout.specs.Encoding.{DeskBytes, SheetBytes, SeenBytes}
use Rattle.context.proofs.Frames.{frame_less}
use Rattle.held.specs.Frames.{FrameBytes}
use Rattle.update.specs.Update.{MarkBytes, Marked}
use Rattle.update.proofs.Cores.{frame_bytes, marks_changed, closed_changed}
use Rattle.cores.specs.Cores.{Cored}
use Rattle.cores.proofs.Bytes.{small_locks}
use Rattle.search.specs.Rows.{Rows}
use Rattle.clash.specs.Clash.{Bounded}
use Rattle.successors.specs.Successors.{Successors}
use Rattle.shortest.specs.Shortest.{found_entry, found_entries, Shortest}
use Rattle.shortest.specs.declared.Found.{Found}
use Rattle.shortest.proofs.Chains.{positive}
use Rattle.report.specs.Shown.{Ranged, Shown}
use Rattle.conclusion.specs.Conclude.{with_marks, Sheeted, is_clean, is_fault, Concluded}

-- ---- The numbers of a cycle.

slip_numbers : {numbers numbers' : ℕ → ℕ → ℕ} {slip : List ℕ} (es : List Entry)
    → ((i : ℕ) → i < length es → entry_seen numbers es i ≡ entry_seen numbers' es i) → SlipBytes numbers es slip → SlipBytes numbers' es slip
slip_numbers es e b =
    record {
      count = b.count;
      entries = λ i j l m. b.entries i j l m ∙ ap (λ (n : ℕ). get_or (entry_bytes (entry_at es i) ++ bytes_of number_size n) j 0) (e i l);
    }

-- The second sheet's number of an entry's pair is the pair's.
entry_number_lem : (K : ℕ) (seen : List ℕ) (numbers : ℕ → ℕ → ℕ) (es : List Entry) {g : Graph} → Cycle K g es → SeenBytes K numbers seen
    → ((f t : ℕ) → numbers f t ≤ max_accepted) → (i : ℕ) → i < length es → entry_seen (number_of seen K) es i ≡ entry_seen numbers es i
entry_number_lem K seen numbers es c b most i l =
    let from = (entry_at es i).class in
    let to = (following es i).class in
    ap (number_by (source_number (entry_at es i).source))
    (number_is seen (numbers from to) (number_size * (from * K + to)) (most from to)
    (b.numbers from to (c.in_range i l) (c.in_range (next_place (length es) i) (next_below (length es) i l))))

module _ (desk sheet seen slip : List ℕ) (core : ℕ) (few : classes_of desk ≤ max_classes) (lc : core < core_count)
    (marked rows : List ℕ)
    (M : Marked desk (frame_number core (frame_of (state_of desk core))) (state_of desk core) marked)
    (Su : Successors marked sheet (classes_of desk) rows) where
  abbrev K : ℕ
  K = classes_of desk

  keeps_marked : KeepsPast accepted_at desk marked
  keeps_marked = record { long = M.keeps.long; past = λ j l. M.keeps.else j (inr (omega arith)) }

  module _ (closed : Bool) (cores : ℕ → Core) (marks : Marks) (locks : Dependencies) (SB : DeskBytes K closed cores marks desk)
      (valid : (i : ℕ) → ValidCore K (cores i)) (MB : SheetBytes K locks sheet) where
    abbrev after : Marks
    after = with_marks marks (cores core)

    abbrev graph : Graph
    graph = record { locks = locks; marks = with_marks marks (cores core) }

    now_is : state_of desk core ≡ (cores core).state
    now_is = SB.states core lc

    current_frame : FrameBytes desk (frame_number core (frame_of (state_of desk core))) (current (cores core))
    current_frame =
        subst (λ (x : ℕ). FrameBytes desk (frame_number core (frame_of x)) (current (cores core))) (sym now_is)
        (frame_bytes SB core (frame_of (cores core).state) lc (frame_less (cores core).state (let v = (valid core).states in omega arith)))

    marked_bytes : DeskBytes K closed cores after marked
    marked_bytes =
        marks_changed SB M.keeps
        (subst (λ (x : ℕ). MarkBytes marked (λ c l u. marks c l u || (set_in l u x && some_held c (letter_fits u) (current (cores core))))) now_is
        (M.marked (current (cores core)) current_frame (small_locks few (cores core) (valid core) (frame_of (cores core).state)) marks
        (record { usage = SB.usage })))

    graph_rows : Rows K graph rows
    graph_rows = Su.graph K closed cores after locks refl marked_bytes MB

    -- The cycle that was found is the least.
    found_least : {n : ℕ} {found : Found} → Bounded marked rows K n → 0 < n → Shortest marked sheet rows K n found → LeastCycle K graph (found_entries found)
    found_least d z f =
        let c = d.some z closed cores graph marked_bytes graph_rows in
        f.least (f.some graph graph_rows c.0 c.1 c.2) graph (record { is_closed = closed; cores = cores; in_desk = marked_bytes; in_sheet = MB }) graph_rows

  -- There is one.
  pub found_some : Cored desk → Sheeted K sheet → {n : ℕ} {found : Found} → Bounded marked rows K n → 0 < n → Shortest marked sheet rows K n found → 0 < found.n
  found_some s h d z f =
      let rows_of = graph_rows s.is_closed s.cores s.marks h.locks s.encodes s.valid h.bytes in
      let c = d.some z s.is_closed s.cores (graph s.is_closed s.cores s.marks h.locks s.encodes s.valid h.bytes)
      (marked_bytes s.is_closed s.cores s.marks h.locks s.encodes s.valid h.bytes) rows_of in
      f.some (graph s.is_closed s.cores s.marks h.locks s.encodes s.valid h.bytes) rows_of c.0 c.1 c.2

  -- Its classes are below K.
  pub found_ranged : Cored desk → Sheeted K sheet → {n : ℕ} {found : Found} → Bounded marked rows K n → (n ≡ 0 → ⊥) → Shortest marked sheet rows K n found
      → Ranged K found
  found_ranged c h {found = found} d z f =
      let least = found_least c.is_closed c.cores c.marks h.locks c.encodes c.valid h.bytes d (positive z) f in
      record {
        below = λ i l.
            subst (λ (e : Entry). e.class < K) (get_d_tabulate found.n (found_entry found) _ i l)
            (least.cycle.in_range i (rw (length_tabulate found.n (found_entry found)) l));
      }

  pub conclude_clean : Bounded marked rows K 0 → Concluded desk sheet seen slip core 0 marked slip
  conclude_clean d =
      record {
        concluded = λ cores marks locks numbers SB valid MB most NB.
            is_clean (d.none refl (graph false cores marks locks SB valid MB) (graph_rows false cores marks locks SB valid MB))
            (marked_bytes false cores marks locks SB valid MB) keeps_marked;
      }

  pub conclude_fault : (slip' : List ℕ) {n : ℕ} {found : Found} → Bounded marked rows K n → 0 < n → Shortest marked sheet rows K n found
      → Shown found K seen slip slip' → Concluded desk sheet seen slip core 1 (set marked closed_at 1) slip'
  conclude_fault slip' {found = found} d z f S =
      record {
        concluded = λ cores marks locks numbers SB valid MB most NB.
            let g = graph false cores marks locks SB valid MB in
            let b = marked_bytes false cores marks locks SB valid MB in
            let least = found_least false cores marks locks SB valid MB d z f in
            is_fault (cyclic_complete K g (cycle_exactly.1 (found_entries found, least.cycle))) (closed_changed b)
            (record { long = length-set marked closed_at 1 ∙ keeps_marked.long; past = λ j l. get_or-set_other marked closed_at j 1 0 (λ e. omega arith) ∙ keeps_marked.past j l })
            (record {
              entries = found_entries found;
              least = least;
              bytes = slip_numbers (found_entries found) (λ i l. entry_number_lem K seen numbers (found_entries found) least.cycle NB most i l) S.bytes;
              keeps = rw (length_tabulate found.n (found_entry found)) S.keeps;
            });
      }
