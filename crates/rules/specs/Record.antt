-- Document 01, "A record": six bytes, the mark 4C 4B, core, kind, class, mode.
use Rattle.std.specs.Prelude.{◌≡◌, Bool, true, false, cond, not, ◌&&◌, ◌||◌, List, ℕ, zero, suc, ◌-◌, leb, ltb, eqb, length, get_or}
use Rattle.rules.specs.Limits.{core_count, interrupt_kinds, kind_count, mode_count}

-- A record as it is handed over: any bytes, of any length.
abbrev pub Bytes : Type 0
Bytes = List ℕ

-- "Six bytes"
abbrev pub record_size : ℕ
record_size = 6

abbrev pub core_of : Bytes → ℕ
core_of r = get_or r 2 0

abbrev pub kind_of : Bytes → ℕ
kind_of r = get_or r 3 0

abbrev pub class_of : Bytes → ℕ
class_of r = get_or r 4 0

abbrev pub mode_of : Bytes → ℕ
mode_of r = get_or r 5 0

-- What a record says of its core: an acquire ("take"), a release, or an interrupt event, numbered by its column in the next-state table
-- (kind 2 is event 0); or "take, commit, release of a crosslock".
pub data Event : Type 0 where
  acquire release : (class mode : ℕ) → Event
  interrupt : (event : ℕ) → Event
  cross_acquire commit cross_release : (class : ℕ) → Event

-- "Three new kinds", counted from 0.
abbrev pub cross_event_by : (kind class : ℕ) → Event
cross_event_by zero c = cross_acquire c
cross_event_by (suc zero) c = commit c
cross_event_by (suc (suc k)) c = cross_release c

-- Of the kinds 10 to 12.
abbrev pub is_cross : Event → Bool
is_cross (acquire c m) = false
is_cross (release c m) = false
is_cross (interrupt e) = false
is_cross (cross_acquire c) = true
is_cross (commit c) = true
is_cross (cross_release c) = true

abbrev pub event_by : (kind class mode : ℕ) → Event
event_by zero c m = acquire c m
event_by (suc zero) c m = release c m
event_by (suc (suc k)) c m = cond (ltb k interrupt_kinds) (interrupt k) (cross_event_by (k - interrupt_kinds) c)

abbrev pub event_of : Bytes → Event
event_of r = event_by (kind_of r) (class_of r) (mode_of r)

-- "class and mode are 0 for kinds 2 to 9" (02, h: "A release now carries the mode taken, 0 to 5"); "Three new kinds with mode 0".
abbrev pub stray_byte : (kind class mode : ℕ) → Bool
stray_byte zero c m = false
stray_byte (suc zero) c m = false
stray_byte (suc (suc k)) c m = not (cond (ltb k interrupt_kinds) (eqb c 0) true && eqb m 0)

-- Refusal 3: "not six bytes, wrong mark, core over 7, kind over 9, mode over 2, or a byte that should be 0"; request a:
-- "refusal 3 begins at mode 6"; request j: "begins at kind 13".
unfoldable pub is_malformed : Bytes → Bool
is_malformed r =
    not (eqb (length r) record_size)
    || not (eqb (get_or r 0 0) 0x4C && eqb (get_or r 1 0) 0x4B)
    || leb core_count (core_of r)
    || leb kind_count (kind_of r)
    || leb mode_count (mode_of r)
    || stray_byte (kind_of r) (class_of r) (mode_of r)

-- "A record names its core if it meets none of the conditions of refusal 3; one that meets any names no core."
pub record Names (r : Bytes) (core : ℕ) : Type 0 where
  pub formed : is_malformed r ≡ false
  pub is_core : core_of r ≡ core
