-- The invariant: the lines of the classes passed stand in the buffer. Assumes nothing.
use mathlib.Core.Path.{◌≡◌}
use Prim.Native.Nat.{◌+◌, ◌*◌, ◌≤◌}
use lib.IntN.{pos}
use lib.ListN.{get_or}
use Rattle.log_text.specs.Text.{Appended}
use Rattle.balance_text.specs.Text.{lines_below, line_room}
use Rattle.balance_text.proofs.put_balances.Given as goal

abbrev pub invariant-loop-class : goal.invariant-loop-class
invariant-loop-class l =
    (l.text.end ≤ l.initial.text.end + line_room * l.class) × Appended l.initial.text.out.now l.initial.text.end (lines_below l.class (λ c. get_or l.balances c (pos 0))) l.text.out.now l.text.end × (l.text.out.ghost_name ≡ l.initial.text.out.ghost_name)
