-- `log::put_cycle` meets its contract. Assumes nothing.
use mathlib.Core.Path.{◌≡◌}
use Prim.Native.Nat.{◌+◌, ◌*◌, ◌≤◌}
use Rattle.log_text.specs.Text.{lines_of, Appended}
use Rattle.layout.specs.Slip.{entries_of}
use Rattle.log_text.proofs.Text.put_cycle.Given as goal

abbrev pub invariant-loop-i : goal.invariant-loop-i
invariant-loop-i l =
    (l.self.end ≤ l.initial.self.end + 16 * l.i) × Appended l.initial.self.out.now l.initial.self.end (lines_of (entries_of l.slip) l.i) l.self.out.now l.self.end × (l.self.out.ghost_name ≡ l.initial.self.out.ghost_name)
