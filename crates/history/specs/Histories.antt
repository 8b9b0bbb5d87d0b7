-- What is kept, struck out and drawn in the bytes of the history, the desk and the sheets.
use Rattle.std.specs.Prelude.{◌≡◌, true, cond, not, ◌||◌, List, [], ◌∷◌, ◌++◌, map, ◌⊎◌, ℕ, suc, ◌+◌, ◌*◌, ◌/◌, ◌%◌, ◌<◌, ◌≤◌, eqb, length, get_or, set}
use Rattle.std.proofs.Math.Option.{none, some}
use Rattle.std.specs.Int.Bits.{bit_or}
use Rattle.rules.specs.Limits.{held_modes, max_accepted, max_kept}
use Rattle.rules.specs.Context.{Frame}
use Rattle.rules.specs.HeldLocks.{is_try}
use Rattle.rules.specs.Graph.{Dependencies}
use Rattle.rules.specs.Crosslocks.{History, Crosslocks, is_idle, is_kept, with_history, strike, drawn_by_commit}
use Rattle.rules.specs.Run.{Journal, with_record}
use Rattle.validity.specs.Valid.{ValidCross, ValidEntry}
use Rattle.layout.specs.Layout.{frames_per_core, frame_number, number_size, history_size, seen_size, kept_size, progress_of, kept_of, member_of, place_of, lock_of, accepted_of, KeepsPast}
use Rattle.layout.specs.Encoding.{SheetBytes, SeenBytes, HistoryBytes, CrossBytes}
use Rattle.rules.specs.Number.{low_first}
use Rattle.context.specs.Bits.{kind_bits}
use Rattle.numbers.specs.Numbers.{NumberPut}
use Rattle.crosslocks.specs.Progress.{KeepsUncrossed}

-- There is room for an acquire that is to be kept.
pub record HistoryRoom (desk history : List ℕ) (mode : ℕ) : Type 0 where
  pub long : history_size ≤ length history
  pub room : not (is_idle (member_of (progress_of desk)) || is_try mode) ≡ true → kept_of desk < max_kept

-- The crosslocks after an acquire in a core's frame, as `after_cross` of the rules has them.
abbrev pub after_acquire : (core : ℕ) → Frame → (class mode : ℕ) → Crosslocks → Crosslocks
after_acquire i f c m x =
    with_history x (cond (is_kept x m) (x.history ++ (some (record { core = i; frame = f; class = c; mode = m }) ∷ [])) x.history)

pub record KeptAs (x : Crosslocks) (history desk' history' : List ℕ) : Type 0 where
  pub bytes : CrossBytes x desk' history'
  pub past : KeepsPast (kept_size * length x.history) history history'

-- Of frame n, whichever core and frame have that number.
pub record KeptIn (desk history : List ℕ) (n class mode : ℕ) (desk' history' : List ℕ) : Type 0 where
  pub keeps : KeepsUncrossed desk desk'
  pub kept : (x : Crosslocks) (core : ℕ) (frame : Frame) → n ≡ frame_number core frame → length x.history ≤ max_kept → CrossBytes x desk history
      → KeptAs (after_acquire core frame class mode x) history desk' history'

-- The entries of valid crosslocks have a frame below three, so that the number of a frame tells core and frame.
abbrev pub ValidEntries : ℕ → History → Type 0
ValidEntries K es = (i : ℕ) → i < length es → ValidEntry K (get_or es i none)

-- An entry, struck out if it is of frame n.
pub record EntryStruck (before : List ℕ) (i n : ℕ) (after : List ℕ) : Type 0 where
  pub long : length after ≡ length before
  pub place : place_of after i ≡ cond (eqb (place_of before i) (suc n)) 0 (place_of before i)
  pub lock : lock_of after i ≡ cond (eqb (place_of before i) (suc n)) 0 (lock_of before i)
  pub else : (j : ℕ) → (j < kept_size * i) ⊎ (kept_size * i + kept_size ≤ j) → get_or after j 0 ≡ get_or before j 0

pub record Struck (kept : ℕ) (history : List ℕ) (n : ℕ) (history' : List ℕ) : Type 0 where
  pub keeps : KeepsPast (kept_size * kept) history history'
  pub struck : (es : History) (K core : ℕ) (frame : Frame) → n ≡ frame_number core frame → frame < frames_per_core → length es ≡ kept → ValidEntries K es
      → HistoryBytes es history → HistoryBytes (map (strike core frame) es) history'

-- The first entries name classes below K.
pub record EntriesIn (kept : ℕ) (history : List ℕ) (K : ℕ) : Type 0 where
  pub long : history_size ≤ length history
  pub class : (i : ℕ) → i < kept → lock_of history i % 64 < K
  pub mode : (i : ℕ) → i < kept → lock_of history i / 64 < held_modes

-- Where a crosslock's pair with the class of an entry stands in the sheet.
abbrev pub cell_of : (history : List ℕ) (i K class : ℕ) → ℕ
cell_of history i K class = class * K + lock_of history i % 64

-- What an entry draws and numbers, if it is of frame n.
pub record EntryDrawn (history : List ℕ) (i K n class : ℕ) (before after : List ℕ) : Type 0 where
  pub missed : (place_of history i ≡ suc n → ⊥) → after ≡ before
  pub drawn : place_of history i ≡ suc n
      → after ≡ set before (cell_of history i K class) (bit_or (get_or before (cell_of history i K class) 0) (kind_bits 0 (lock_of history i / 64)))

pub record EntryNumbered (history : List ℕ) (i K n class number : ℕ) (before after : List ℕ) : Type 0 where
  pub missed : (place_of history i ≡ suc n → ⊥) → after ≡ before
  pub had : (low_first number_size before (number_size * cell_of history i K class) ≡ 0 → ⊥) → after ≡ before
  pub numbered : place_of history i ≡ suc n → low_first number_size before (number_size * cell_of history i K class) ≡ 0
      → NumberPut before (number_size * cell_of history i K class) number after

-- What a commit of frame n draws, and the numbers that it gives, as the rules have them.
pub record CommitDrawn (desk history : List ℕ) (K n class : ℕ) (before after : List ℕ) : Type 0 where
  pub keeps : KeepsPast (K * K) before after
  pub drawn : (x : Crosslocks) (core : ℕ) (frame : Frame) → n ≡ frame_number core frame → frame < frames_per_core → ValidCross K x → CrossBytes x desk history
      → (locks : Dependencies) → SheetBytes K locks before → SheetBytes K (λ f t k. locks f t k || drawn_by_commit class core frame x f t k) after

pub record CommitNumbered (desk history : List ℕ) (K n class : ℕ) (before after : List ℕ) : Type 0 where
  pub keeps : KeepsPast (seen_size K) before after
  pub numbered : (x : Crosslocks) (core : ℕ) (frame : Frame) → n ≡ frame_number core frame → frame < frames_per_core → ValidCross K x → CrossBytes x desk history
      → (j : Journal) → j.accepted ≡ accepted_of desk → ((f t : ℕ) → j.seen f t ≤ max_accepted) → SeenBytes K j.seen before
      → SeenBytes K (with_record (drawn_by_commit class core frame x) j).seen after
