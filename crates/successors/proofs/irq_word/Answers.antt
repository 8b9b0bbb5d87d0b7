use mathlib.Core.Path.{ap₂, ◌∙◌}
use Prim.Native.Nat.{max}
use Rattle.words.proofs.Words.{bit_or_lem}
use Rattle.successors.proofs.irq_word.Goals as goal

pub returns : goal.returns
returns c t = bit_or_lem c.picked.result c.picked-2.result t ∙ ap₂ max (c.picked.ensures t) (c.picked-2.ensures t)
