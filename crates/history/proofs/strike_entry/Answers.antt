use mathlib.Core.Path.{sym, ◌∙◌}
use native.Mathlib.Numerals.{add-one}
use native.Mathlib.Omega.{arith}
use lib.ListN.{length-set}
use Rattle.history.proofs.Striking.{entry_left, entry_struck}
use Rattle.history.proofs.strike_entry.Goals as goal

pub bounds-history-at-then-history-at-2 : goal.bounds-history-at-then-history-at-2
bounds-history-at-then-history-at-2 c = simp length-set (omega arith)

pub returns-then-history-at : goal.returns-then-history-at
returns-then-history-at c = entry_struck _ _ _ (c.if-history-at.true ∙ add-one _) (omega arith)

pub returns-else-history-at : goal.returns-else-history-at
returns-else-history-at c = entry_left _ _ _ (λ e. c.if-history-at.false (e ∙ sym (add-one _)))
