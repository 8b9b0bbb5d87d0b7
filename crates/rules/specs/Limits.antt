-- The numbers of document 01 that are limits, each once.
use Rattle.std.specs.Prelude.{ℕ, ◌+◌}

-- "There are 8 cores."
abbrev pub core_count : ℕ
core_count = 8

-- "K is the number of classes, 1 to 64"
abbrev pub max_classes : ℕ
max_classes = 64

-- Locks held at a time in one frame (02, g: "Raise the limit to 48 per frame"; 002 had 20).
abbrev pub max_depth : ℕ
max_depth = 48

-- The most records that are accepted (02, e: "the count stands at 4,294,967,295").
abbrev pub max_accepted : ℕ
max_accepted = 4294967295

-- Crosslocks (02, j): "a list of up to 16 in progress", "a lent history of 256".
abbrev pub max_in_progress : ℕ
max_in_progress = 16

abbrev pub max_kept : ℕ
max_kept = 256

-- Record kinds are 0 to 12: 0 and 1 name a lock class, then come the interrupt events, and behind them the three that name a crosslock.
abbrev pub interrupt_kinds : ℕ
interrupt_kinds = 8

abbrev pub kind_count : ℕ
kind_count = 2 + interrupt_kinds + 3

-- Modes in which a lock is held: 0 exclusive, 1 non-recursive read, 2 recursive read.
abbrev pub held_modes : ℕ
held_modes = 3

-- Modes of an acquire and of its release: those, and 3, 4, 5 the same by a successful try.
abbrev pub mode_count : ℕ
mode_count = held_modes + held_modes
