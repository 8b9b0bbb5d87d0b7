-- The bits that the rules set, as the bytes have them.
use Rattle.std.specs.Prelude.{◌&&◌, ℕ}
use Rattle.rules.specs.Context.{task_both_on}
use Rattle.rules.specs.HeldLocks.{first_by, second_by, same_first, same_second}
use Rattle.rules.specs.Marks.{Marks, set_in, letter_fits}
use Rattle.rules.specs.Graph.{Dependencies}
use Rattle.layout.specs.Encoding.{mark_byte, kind_byte}
use Rattle.context.specs.declared.CoreState.{CoreState}

abbrev pub fresh : CoreState
fresh = task_both_on

-- The marks that a state sets on a held lock of a mode, whatever its class.
abbrev pub marks_by : ℕ → ℕ → Marks
marks_by state mode c l u = set_in l u state && letter_fits u (record { class = c; mode = mode })

unfoldable pub mark_bits : ℕ → ℕ → ℕ
mark_bits state mode = mark_byte (marks_by state mode) 0

-- The dependency from a held lock of one mode to an acquired lock of another, whatever their classes.
abbrev pub kinds_by : ℕ → ℕ → Dependencies
kinds_by held acquired from to k = same_second k.second (second_by acquired) && same_first k.first (first_by held)

unfoldable pub kind_bits : ℕ → ℕ → ℕ
kind_bits held acquired = kind_byte (kinds_by held acquired) 0 0
