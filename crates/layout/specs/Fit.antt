-- Document 01, "Unfit": the fit test, one Boolean with a clause for each of the document's.
use Rattle.std.specs.Prelude.{Bool, true, false, not, ◌&&◌, ◌||◌, List, ℕ, zero, suc, ◌/◌, ◌%◌, ◌^◌, leb, ltb, eqb, length, get_or}
use Rattle.std.specs.Bool.{beq}
use Rattle.rules.specs.Limits.{core_count, max_classes, max_depth, held_modes, max_in_progress, max_kept}
use Rattle.rules.specs.Context.{hard_over_soft, soft, hard, may_hold_soft, may_hold_hard}
use Rattle.rules.specs.HeldLocks.{First, E, S}
use Rattle.rules.specs.Marks.{Level, hard_irq, soft_irq, unsafe, mark_bit}
use Rattle.rules.specs.Crosslocks.{size_of}
use Rattle.layout.specs.Layout.{frame_count, place_count, desk_size, sheet_size, seen_size, history_size, slip_size, frame_number, classes_of, closed_of, state_of, depth_of, mark_of, held_of, origin_bit, pair_number, member_of, declared_of, progress_of, kept_of, place_of, lock_of}

-- The test holds of every number below n.
unfoldable pub all_below : ℕ → (ℕ → Bool) → Bool
all_below zero p = true
all_below (suc n) p = all_below n p && p n

-- "K not 1-64"
abbrev pub classes_fit : ℕ → Bool
classes_fit K = leb 1 K && leb K max_classes

-- "a state over 8; soft holds outside states 4, 5, 8; hard holds outside 6-8"
unfoldable pub core_fits : List ℕ → ℕ → Bool
core_fits desk i =
    leb (state_of desk i) hard_over_soft
    && ((eqb (depth_of desk (frame_number i soft)) 0 || may_hold_soft (state_of desk i))
    && (eqb (depth_of desk (frame_number i hard)) 0 || may_hold_hard (state_of desk i)))

-- "a standing hold with class K or more or mode 3; an unused hold byte not 0"
abbrev pub held_fits : ℕ → (standing : Bool) → ℕ → Bool
held_fits K true byte = ltb (byte % 64) K && ltb (byte / 64) held_modes
held_fits K false byte = eqb byte 0

-- "a depth over 20" (02, g: 48), and the frame's bytes
unfoldable pub frame_fits : ℕ → List ℕ → ℕ → Bool
frame_fits K desk n =
    leb (depth_of desk n) max_depth && all_below max_depth (λ p. held_fits K (ltb p (depth_of desk n)) (held_of desk n p))

-- An origin bit is "zero where no hold stands, else the desk is unfit": bit i is that of place i % max_depth of frame i / max_depth.
unfoldable pub origin_fits : List ℕ → ℕ → Bool
origin_fits desk i = eqb (origin_bit desk i) 0 || ltb (i % max_depth) (depth_of desk (i / max_depth))

-- "a mark on a class K or more; a soft-unsafe mark without its hard-unsafe one": 64 needs 4 and 128 needs 8
unfoldable pub mark_fits : ℕ → List ℕ → ℕ → Bool
mark_fits K desk c =
    (ltb c K || eqb (mark_of desk c) 0)
    && (leb (part soft_irq E) (part hard_irq E) && leb (part soft_irq S) (part hard_irq S))
  where
    part : Level → First → ℕ
    part l a = mark_of desk c / mark_bit l (unsafe a) % 2

-- "a sheet byte over 15"
abbrev pub kinds_fit : List ℕ → ℕ → Bool
kinds_fit sheet j = leb (get_or sheet j 0) 15

-- "any buffer too short; K not 1-64; byte 1 over 1", and the clauses above: desk and sheet
unfoldable pub graph_fits : (desk sheet : List ℕ) → Bool
graph_fits desk sheet =
    leb desk_size (length desk)
    && (classes_fit (classes_of desk)
    && (leb (sheet_size (classes_of desk)) (length sheet)
    && (leb (closed_of desk) 1
    && (all_below core_count (core_fits desk)
    && (all_below frame_count (frame_fits (classes_of desk) desk)
    && (all_below place_count (origin_fits desk)
    && (all_below max_classes (mark_fits (classes_of desk) desk)
    && all_below (sheet_size (classes_of desk)) (kinds_fit sheet))))))))

-- "a pair with kinds but number 0, or the reverse" (02, i: "The fit test no longer ties first-seen numbers to the record count.")
unfoldable pub number_fits : (sheet seen : List ℕ) → ℕ → Bool
number_fits sheet seen j = beq (eqb (pair_number seen j) 0) (eqb (get_or sheet j 0) 0)

-- The second sheet: long enough, and each of its pairs
unfoldable pub numbers_fit : (desk sheet seen : List ℕ) → Bool
numbers_fit desk sheet seen =
    leb (seen_size (classes_of desk)) (length seen)
    && all_below (sheet_size (classes_of desk)) (number_fits sheet seen)

-- A word that declares crosslocks: no class of K or more.
unfoldable pub word_fits : ℕ → ℕ → Bool
word_fits K word = ltb word (2 ^ K)

-- The crosslocks of the desk: those declared are classes, those in progress are declared and not over 16, and not over 256 acquires are kept.
unfoldable pub cross_fits : List ℕ → Bool
cross_fits desk =
    word_fits (classes_of desk) (declared_of desk)
    && (all_below max_classes (λ c. not (member_of (progress_of desk) c) || member_of (declared_of desk) c)
    && (leb (size_of (member_of (progress_of desk))) max_in_progress
    && leb (kept_of desk) max_kept))

-- An entry of the history: struck out, or of a frame, with a held byte as a standing hold has it.
unfoldable pub entry_fits : (K place held : ℕ) → Bool
entry_fits K zero held = eqb held 0
entry_fits K (suc n) held = ltb n frame_count && held_fits K true held

-- Those that are kept. What stands behind them is not looked at.
unfoldable pub entries_fit : (desk history : List ℕ) → Bool
entries_fit desk history = all_below (kept_of desk) (λ i. entry_fits (classes_of desk) (place_of history i) (lock_of history i))

-- Desk and both sheets, as the question takes them.
unfoldable pub fits : (desk sheet seen : List ℕ) → Bool
fits desk sheet seen = graph_fits desk sheet && (cross_fits desk && numbers_fit desk sheet seen)

-- The step has a history and a slip too.
unfoldable pub fits_all : (desk sheet seen history slip : List ℕ) → Bool
fits_all desk sheet seen history slip =
    fits desk sheet seen
    && (leb history_size (length history)
    && (entries_fit desk history
    && leb (slip_size (classes_of desk)) (length slip)))
