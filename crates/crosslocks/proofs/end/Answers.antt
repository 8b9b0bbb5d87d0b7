use mathlib.Core.Path.{sym, ◌∙◌}
use Rattle.crosslocks.proofs.Putting.{ends_some, ends_last}
use Rattle.crosslocks.proofs.end.Goals as goal

pub returns-then-is_idle : goal.returns-then-is_idle
returns-then-is_idle c = ends_last _ _ _ _ _ _ c.word_at-word.ensures c.without.type_inv c.with.ensures c.without.ensures c.put_word.ensures _ (sym c.if-is_idle.true ∙ c.is_idle.ensures) c.put_number.ensures

pub returns-else-is_idle : goal.returns-else-is_idle
returns-else-is_idle c = ends_some _ _ _ _ _ _ c.word_at-word.ensures c.without.type_inv c.with.ensures c.without.ensures c.put_word.ensures (sym c.if-is_idle.false ∙ c.is_idle.ensures)
