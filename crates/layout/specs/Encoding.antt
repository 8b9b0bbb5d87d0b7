-- How the bytes encode a state of the rules: Decoding.antt the other way round, for the proofs. Nothing here has to be believed
-- (crates/fit/proofs/Fitting.antt).
use Rattle.std.specs.Prelude.{◌≡◌, Bool, List, map, ℕ, suc, ◌+◌, ◌*◌, ◌<◌, ◌≤◌, length, get_or}
use Rattle.std.proofs.Math.Option.{Option, none, some}
use Rattle.words.specs.Bits.{flag}
use Rattle.words.specs.Pack.{pack}
use Rattle.rules.specs.Limits.{core_count, max_classes, max_depth}
use Rattle.rules.specs.Context.{Frame}
use Rattle.rules.specs.HeldLocks.{E, S, R, N, HeldLock, is_try, held_as, Core}
use Rattle.rules.specs.Marks.{Marks, Level, hard_irq, soft_irq, Usage, safe, unsafe, mark_bit}
use Rattle.rules.specs.Graph.{Dependencies, Kind, kind_bit}
use Rattle.rules.specs.KindNames.{ER, EN, SR, SN}
use Rattle.rules.specs.Crosslocks.{Kept, History, Crosslocks}
use Rattle.rules.specs.Log.{word_size}
use Rattle.rules.specs.Run.{State}
use Rattle.rules.specs.Number.{bytes_of}
use Rattle.layout.specs.Layout.{frames_per_core, origins_at, origin_bytes, accepted_at, declared_at, progress_at, kept_at, since_at, number_size, desk_size, sheet_size, seen_size, frame_number, classes_of, closed_of, state_of, depth_of, mark_of, held_of, origin_of, kinds_of, place_of, lock_of}

-- "marks by class": the sum of the bits of the marks that are set.
unfoldable pub mark_byte : Marks → ℕ → ℕ
mark_byte m c =
    part hard_irq (safe N) + part hard_irq (safe R) + part hard_irq (unsafe E) + part hard_irq (unsafe S)
    + part soft_irq (safe N) + part soft_irq (safe R) + part soft_irq (unsafe E) + part soft_irq (unsafe S)
  where
    part : Level → Usage → ℕ
    part l u = flag (m c l u) * mark_bit l u

-- "the sum of the arrow kinds seen"
unfoldable pub kind_byte : Dependencies → ℕ → ℕ → ℕ
kind_byte d from to = part ER + part EN + part SR + part SN
  where
    part : Kind → ℕ
    part k = flag (d from to k) * kind_bit k

-- "each class + 64 x mode", the mode in which it is held; "Unused hold bytes are zero."
abbrev pub held_byte : HeldLock → ℕ
held_byte h = h.class + 64 * held_as h.mode

abbrev pub held_byte_at : List HeldLock → ℕ → ℕ
held_byte_at hs p = get_or (map held_byte hs) p 0

-- "1 for a try", "zero where no hold stands"
abbrev pub held_origin : HeldLock → ℕ
held_origin h = flag (is_try h.mode)

abbrev pub origin_at : List HeldLock → ℕ → ℕ
origin_at hs p = get_or (map held_origin hs) p 0

-- The bytes of the origins have eight bits and no more.
abbrev pub EightBits : List ℕ → Type 0
EightBits desk = (b : ℕ) → b < origin_bytes → get_or desk (origins_at + b) 0 < 256

-- "byte 0 K; byte 1 is 0 open, 1 closed; bytes 2-9 each core's state; bytes 10-33 hold depths; bytes 34-97 marks by class; bytes 98-577 the
-- holds, 20 per frame in the order of the depths, oldest first" (02, g: 98-1249, 48 per frame); the origins after them, eight to a byte. The count and the crosslocks behind them stand in Encodes.
pub record DeskBytes (K : ℕ) (is_closed : Bool) (cores : ℕ → Core) (marks : Marks) (desk : List ℕ) : Type 0 where
  pub long : desk_size ≤ length desk
  pub classes : classes_of desk ≡ K
  pub closed : closed_of desk ≡ flag is_closed
  pub states : (i : ℕ) → i < core_count → state_of desk i ≡ (cores i).state
  pub depths : (i : ℕ) (f : Frame) → i < core_count → f < frames_per_core → depth_of desk (frame_number i f) ≡ length ((cores i).held f)
  pub usage : (c : ℕ) → c < max_classes → mark_of desk c ≡ mark_byte marks c
  pub held : (i : ℕ) (f : Frame) (p : ℕ) → i < core_count → f < frames_per_core → p < max_depth
      → held_of desk (frame_number i f) p ≡ held_byte_at ((cores i).held f) p
  pub origins : (i : ℕ) (f : Frame) (p : ℕ) → i < core_count → f < frames_per_core → p < max_depth
      → origin_of desk (frame_number i f) p ≡ origin_at ((cores i).held f) p
  pub eight : EightBits desk

-- "byte from x K + to holds the sum of the arrow kinds seen"
pub record SheetBytes (K : ℕ) (locks : Dependencies) (sheet : List ℕ) : Type 0 where
  pub long : sheet_size K ≤ length sheet
  pub kinds : (from to : ℕ) → from < K → to < K → kinds_of sheet K from to ≡ kind_byte locks from to

-- The bytes of a number of so many, from place `at` on; those of a number of four, and of a word of eight.
abbrev pub WideBytes : (size : ℕ) → ℕ → List ℕ → (at : ℕ) → Type 0
WideBytes size n buffer at = (j : ℕ) → j < size → get_or buffer (at + j) 0 ≡ get_or (bytes_of size n) j 0

abbrev pub NumberBytes : ℕ → List ℕ → (at : ℕ) → Type 0
NumberBytes n buffer at = WideBytes number_size n buffer at

abbrev pub WordBytes : ℕ → List ℕ → (at : ℕ) → Type 0
WordBytes n buffer at = WideBytes word_size n buffer at

-- "for each pair, the number"
pub record SeenBytes (K : ℕ) (seen : ℕ → ℕ → ℕ) (buffer : List ℕ) : Type 0 where
  pub long : seen_size K ≤ length buffer
  pub numbers : (from to : ℕ) → from < K → to < K → NumberBytes (seen from to) buffer (number_size * (from * K + to))

-- A set of classes as a word.
abbrev pub word_of : (ℕ → Bool) → ℕ
word_of p = pack max_classes p

-- The two bytes of an entry of the history.
abbrev pub place_byte : Option Kept → ℕ
place_byte none = 0
place_byte (some e) = suc (frame_number e.core e.frame)

abbrev pub lock_byte : Option Kept → ℕ
lock_byte none = 0
lock_byte (some e) = e.class + 64 * e.mode

-- The entries of the history, from its first byte on.
pub record HistoryBytes (entries : History) (history : List ℕ) : Type 0 where
  pub places : (i : ℕ) → i < length entries → place_of history i ≡ place_byte (get_or entries i none)
  pub locks : (i : ℕ) → i < length entries → lock_of history i ≡ lock_byte (get_or entries i none)

-- The crosslocks, behind the count.
pub record CrossBytes (x : Crosslocks) (desk history : List ℕ) : Type 0 where
  pub declared : WordBytes (word_of x.declared) desk declared_at
  pub progress : WordBytes (word_of x.progress) desk progress_at
  pub kept : NumberBytes (length x.history) desk kept_at
  pub since : (c : ℕ) → c < max_classes → NumberBytes (x.since c) desk (since_at + number_size * c)
  pub entries : HistoryBytes x.history history

pub record Encodes (K : ℕ) (s : State) (desk sheet seen history : List ℕ) : Type 0 where
  pub in_desk : DeskBytes K s.is_closed s.cores s.graph.marks desk
  pub in_count : NumberBytes s.journal.accepted desk accepted_at
  pub in_sheet : SheetBytes K s.graph.locks sheet
  pub in_cross : CrossBytes s.cross desk history
  pub in_seen : SeenBytes K s.journal.seen seen
