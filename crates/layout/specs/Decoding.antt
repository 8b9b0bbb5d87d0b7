-- Document 01, "What lies on the bench": what the bytes stand for, a fit desk, its sheets and the history for a state of the rules, a slip for a cycle. Past the cores,
-- frames and classes the state is as at opening.
use Rattle.std.specs.Prelude.{◌≡◌, true, cond, ◌&&◌, List, [], ◌++◌, ℕ, zero, suc, ◌+◌, ◌*◌, ◌/◌, ◌%◌, ◌<◌, ltb, eqb, length, get_or}
use Rattle.std.proofs.Math.Option.{Option, none, some}
use Rattle.rules.specs.Limits.{core_count, max_classes, held_modes}
use Rattle.rules.specs.HeldLocks.{HeldLock, Core, fresh_core}
use Rattle.rules.specs.Marks.{Marks, mark_bit}
use Rattle.rules.specs.Graph.{Dependencies, kind_bit, Graph, source_number}
use Rattle.rules.specs.Decision.{tabulate}
use Rattle.rules.specs.Cycle.{Entry, entry_bytes, entry_at, following}
use Rattle.rules.specs.LeastCycle.{LeastCycle}
use Rattle.rules.specs.Verdict.{number}
use Rattle.rules.specs.Crosslocks.{Kept, Crosslocks}
use Rattle.rules.specs.Run.{Journal, State, Result}
use Rattle.layout.specs.Fit.{fits, entries_fit}
use Rattle.layout.specs.Layout.{frames_per_core, frame_number, number_size, desk_size, sheet_size, seen_size, kept_size, slip_size, entries_at, entry_size, classes_of, closed_of, state_of, depth_of, mark_of, held_of, origin_of, kinds_of, accepted_of, member_of, declared_of, progress_of, kept_of, since_of, place_of, lock_of, number_of, count_of, AreBytes, KeepsPast}
use Rattle.rules.specs.Number.{bytes_of}

-- "each class + 64 x mode", and the origin, "1 for a try"
abbrev pub held_lock_of : ℕ → ℕ → HeldLock
held_lock_of byte origin = record { class = byte % 64; mode = byte / 64 + held_modes * origin }

-- The locks held in frame n, oldest first.
abbrev pub held_locks : List ℕ → ℕ → List HeldLock
held_locks desk n = tabulate (depth_of desk n) (λ p. held_lock_of (held_of desk n p) (origin_of desk n p))

-- "each core's state; hold depths, core 0 task, soft, hard, then core 1 and so on"
abbrev pub view_core : List ℕ → ℕ → Core
view_core desk i =
    record { state = state_of desk i; held = λ f. cond (ltb f frames_per_core) (held_locks desk (frame_number i f)) [] }

-- "marks by class", a bit each
abbrev pub view_marks : List ℕ → Marks
view_marks desk c l u = ltb c max_classes && eqb (mark_of desk c / mark_bit l u % 2) 1

-- "byte from x K + to holds the sum of the arrow kinds seen"
abbrev pub view_locks : ℕ → List ℕ → Dependencies
view_locks K sheet from to k = (ltb from K && ltb to K) && eqb (kinds_of sheet K from to / kind_bit k % 2) 1

abbrev pub view_graph : (desk sheet : List ℕ) → Graph
view_graph desk sheet = record { locks = view_locks (classes_of desk) sheet; marks = view_marks desk }

abbrev pub view_cores : List ℕ → ℕ → Core
view_cores desk i = cond (ltb i core_count) (view_core desk i) fresh_core

-- "a four-byte count of accepted records"; "for each pair, the number of the accepted record that first drew a hold arrow there, 0 for none"
abbrev pub view_journal : (desk seen : List ℕ) → Journal
view_journal desk seen =
    record {
      accepted = accepted_of desk;
      seen = λ f t. cond (ltb f (classes_of desk) && ltb t (classes_of desk)) (number_of seen (classes_of desk) f t) 0;
    }

-- An entry of the history: struck out, or the acquire that it keeps, of a core's frame.
abbrev pub kept_by : (place held : ℕ) → Option Kept
kept_by zero held = none
kept_by (suc n) held = some (record { core = n / frames_per_core; frame = n % frames_per_core; class = held % 64; mode = held / 64 })

-- The crosslocks: sets of classes as words, and as many entries of the history as are kept.
abbrev pub view_cross : (desk history : List ℕ) → Crosslocks
view_cross desk history =
    record {
      declared = member_of (declared_of desk);
      progress = member_of (progress_of desk);
      since = λ c. cond (ltb c max_classes) (since_of desk c) 0;
      history = tabulate (kept_of desk) (λ i. kept_by (place_of history i) (lock_of history i));
    }

-- The state that desk, sheets and history stand for: "byte 1 is 0 open, 1 closed".
abbrev pub view : (desk sheet seen history : List ℕ) → State
view desk sheet seen history =
    record {
      is_closed = eqb (closed_of desk) 1;
      cores = view_cores desk;
      graph = view_graph desk sheet;
      cross = view_cross desk history;
      journal = view_journal desk seen;
    }

-- Desk, sheets and history stand for the state s of K classes. That settles all bytes of desk and sheets, and those of the history that it keeps
-- (crates/fit/proofs/Settled.antt). A desk with nothing kept stands for s with any history, a joined one too.
pub record StandFor (K : ℕ) (s : State) (desk sheet seen history : List ℕ) : Type 0 where
  pub fit : fits desk sheet seen ≡ true
  pub entries : entries_fit desk history ≡ true
  pub classes : classes_of desk ≡ K
  pub bytes : AreBytes desk_size desk
  pub numbers : AreBytes (seen_size K) seen
  pub is_view : view desk sheet seen history ≡ s

-- The number of an entry of a cycle: that of its pair, "or 0 for an interrupt arrow".
abbrev pub number_by : (source : ℕ) → ℕ → ℕ
number_by zero n = n
number_by (suc source) n = 0

abbrev pub entry_seen : (seen : ℕ → ℕ → ℕ) → List Entry → ℕ → ℕ
entry_seen seen es i = number_by (source_number (entry_at es i).source) (seen (entry_at es i).class (following es i).class)

-- "Byte 0 is n; then n times" seven bytes: "class, kind, source", and "the last four that number, low byte first".
pub record SlipBytes (seen : ℕ → ℕ → ℕ) (es : List Entry) (slip : List ℕ) : Type 0 where
  pub count : count_of slip ≡ length es
  pub entries : (i j : ℕ) → i < length es → j < entry_size
      → get_or slip (entries_at + entry_size * i + j) 0 ≡ get_or (entry_bytes (entry_at es i) ++ bytes_of number_size (entry_seen seen es i)) j 0

-- With a fault: the least cycle of the graph stands in the slip's first bytes, with the number of each pair, and the bytes past them stay. There is one
-- such cycle only (crates/rules/proofs/LeastCycles.antt), so every byte of the slip is settled.
pub record Reported (K : ℕ) (g : Graph) (numbers : ℕ → ℕ → ℕ) (slip slip' : List ℕ) : Type 0 where
  pub entries : List Entry
  pub least : LeastCycle K g entries
  pub bytes : SlipBytes numbers entries slip'
  pub keeps : KeepsPast (slip_size (length entries)) slip slip'

-- A result of the rules, carried out in the lent buffers: the number is the rules', desk, sheets and history stand for the state that they give, and no byte
-- past the sizes is touched; of the history none past what it then keeps. A refusal changes nothing; the slip is written with a fault only.
pub record CarriedOut (K : ℕ) (o : Result) (desk sheet seen history slip : List ℕ) (answer : ℕ) (desk' sheet' seen' history' slip' : List ℕ) : Type 0 where
  pub number_is : answer ≡ number o.answer
  pub stands : StandFor K o.state desk' sheet' seen' history'
  pub keeps_desk : KeepsPast desk_size desk desk'
  pub keeps_sheet : KeepsPast (sheet_size K) sheet sheet'
  pub keeps_seen : KeepsPast (seen_size K) seen seen'
  pub keeps_history : KeepsPast (kept_size * length o.state.cross.history) history history'
  pub refused : 1 < answer → (desk' ≡ desk) × (sheet' ≡ sheet) × (seen' ≡ seen) × (history' ≡ history)
  pub unreported : (answer ≡ 1 → ⊥) → slip' ≡ slip
  pub reported : answer ≡ 1 → Reported K o.state.graph o.state.journal.seen slip slip'
