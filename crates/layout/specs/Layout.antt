-- Document 01, "What lies on the bench": where each byte of the desk, the two sheets, the history and the slip stands. Every other definition goes by these names;
-- src/lib.rt has them once more for the code.
use Rattle.std.specs.Prelude.{◌≡◌, Bool, List, ℕ, ◌+◌, ◌*◌, ◌/◌, ◌%◌, ◌^◌, ◌≤◌, ◌<◌, eqb, length, get_or}
use Rattle.words.specs.Bits.{bit}
use Rattle.rules.specs.Limits.{core_count, max_classes, max_depth, max_kept}
use Rattle.rules.specs.Context.{Frame}
use Rattle.rules.specs.Number.{low_first}
use Rattle.rules.specs.Log.{word_size}

-- Frames of one core: task, soft, hard.
abbrev pub frames_per_core : ℕ
frames_per_core = 3

abbrev pub frame_count : ℕ
frame_count = frames_per_core * core_count

abbrev pub classes_at : ℕ
classes_at = 0

abbrev pub closed_at : ℕ
closed_at = 1

abbrev pub states_at : ℕ
states_at = 2

abbrev pub depths_at : ℕ
depths_at = states_at + core_count

abbrev pub marks_at : ℕ
marks_at = depths_at + frame_count

abbrev pub held_at : ℕ
held_at = marks_at + max_classes

-- The places for held locks: each has a byte and, since "the holds need an origin", a bit.
abbrev pub place_count : ℕ
place_count = max_depth * frame_count

abbrev pub origins_at : ℕ
origins_at = held_at + place_count

abbrev pub origin_bytes : ℕ
origin_bytes = place_count / 8

-- "The desk gains a four-byte count of accepted records after its other bytes, low byte first."
abbrev pub accepted_at : ℕ
accepted_at = origins_at + origin_bytes

abbrev pub number_size : ℕ
number_size = 4

-- Behind the count the crosslocks (02, j, which gives no layout): two sets of classes as words, those that are declared and those in progress; how many
-- acquires the history keeps; and of each class how many it kept when the crosslock was acquired last.
abbrev pub declared_at : ℕ
declared_at = accepted_at + number_size

abbrev pub progress_at : ℕ
progress_at = declared_at + word_size

abbrev pub kept_at : ℕ
kept_at = progress_at + word_size

abbrev pub since_at : ℕ
since_at = kept_at + number_size

abbrev pub desk_size : ℕ
desk_size = since_at + number_size * max_classes

-- "a lent history of 256": an entry is the number of a frame and one, and a held byte; both are 0 when it is struck out.
abbrev pub kept_size : ℕ
kept_size = 2

abbrev pub history_size : ℕ
history_size = kept_size * max_kept

abbrev pub sheet_size : ℕ → ℕ
sheet_size K = K * K

-- "A second sheet of 4 x K x K bytes"
abbrev pub seen_size : ℕ → ℕ
seen_size K = number_size * sheet_size K

-- The slip has a count, and an entry for each dependency of the cycle.
abbrev pub count_at : ℕ
count_at = 0

abbrev pub entries_at : ℕ
entries_at = 1

-- "Each slip arrow grows to seven bytes": class, kind, source, and its number.
abbrev pub entry_number_at : ℕ
entry_number_at = 3

abbrev pub entry_size : ℕ
entry_size = entry_number_at + number_size

abbrev pub slip_size : ℕ → ℕ
slip_size K = entries_at + entry_size * K

-- The number of a core's frame: "core 0 task, soft, hard, then core 1 and so on".
abbrev pub frame_number : ℕ → Frame → ℕ
frame_number core f = frames_per_core * core + f

-- ---- The bytes by name.

abbrev pub classes_of : List ℕ → ℕ
classes_of desk = get_or desk classes_at 0

abbrev pub closed_of : List ℕ → ℕ
closed_of desk = get_or desk closed_at 0

abbrev pub state_of : List ℕ → ℕ → ℕ
state_of desk core = get_or desk (states_at + core) 0

abbrev pub depth_of : List ℕ → ℕ → ℕ
depth_of desk frame = get_or desk (depths_at + frame) 0

abbrev pub mark_of : List ℕ → ℕ → ℕ
mark_of desk class = get_or desk (marks_at + class) 0

-- Place p of a frame, the oldest first.
abbrev pub held_of : List ℕ → ℕ → ℕ → ℕ
held_of desk frame p = get_or desk (held_at + max_depth * frame + p) 0

-- "one bit per hold place in order, lowest bit first": bit i of the origins, and that of place p of a frame.
abbrev pub origin_bit : List ℕ → ℕ → ℕ
origin_bit desk i = get_or desk (origins_at + i / 8) 0 / 2 ^ (i % 8) % 2

abbrev pub origin_of : List ℕ → ℕ → ℕ → ℕ
origin_of desk frame p = origin_bit desk (max_depth * frame + p)

abbrev pub kinds_of : List ℕ → ℕ → ℕ → ℕ → ℕ
kinds_of sheet K from to = get_or sheet (from * K + to) 0

abbrev pub accepted_of : List ℕ → ℕ
accepted_of desk = low_first number_size desk accepted_at

-- The classes of a set: bit c of the word is class c.
abbrev pub member_of : ℕ → ℕ → Bool
member_of word c = eqb (bit word c) 1

abbrev pub declared_of : List ℕ → ℕ
declared_of desk = low_first word_size desk declared_at

abbrev pub progress_of : List ℕ → ℕ
progress_of desk = low_first word_size desk progress_at

abbrev pub kept_of : List ℕ → ℕ
kept_of desk = low_first number_size desk kept_at

abbrev pub since_of : List ℕ → ℕ → ℕ
since_of desk class = low_first number_size desk (since_at + number_size * class)

-- Entry i of the history.
abbrev pub place_of : List ℕ → ℕ → ℕ
place_of history i = get_or history (kept_size * i) 0

abbrev pub lock_of : List ℕ → ℕ → ℕ
lock_of history i = get_or history (kept_size * i + 1) 0

-- The number of a pair in the second sheet, and that of pair j = from x K + to.
abbrev pub pair_number : List ℕ → ℕ → ℕ
pair_number seen j = low_first number_size seen (number_size * j)

abbrev pub number_of : List ℕ → ℕ → ℕ → ℕ → ℕ
number_of seen K from to = pair_number seen (from * K + to)

abbrev pub count_of : List ℕ → ℕ
count_of slip = get_or slip count_at 0

-- The first n numbers of a buffer are bytes: of a slice they are, of a list it has to be said.
abbrev pub AreBytes : ℕ → List ℕ → Type 0
AreBytes n buffer = (j : ℕ) → j < n → get_or buffer j 0 < 256

-- A buffer of which only the first n bytes may differ: it is as long, and the others are as they were.
pub record KeepsPast (n : ℕ) (before after : List ℕ) : Type 0 where
  pub long : length after ≡ length before
  pub past : (j : ℕ) → n ≤ j → get_or after j 0 ≡ get_or before j 0
