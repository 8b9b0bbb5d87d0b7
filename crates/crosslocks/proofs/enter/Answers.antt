use Rattle.crosslocks.proofs.Putting.{enters}
use Rattle.crosslocks.proofs.enter.Goals as goal

pub returns : goal.returns
returns c = enters _ _ _ _ _ _ _ c.requires.1 c.word_at-word.ensures c.with.type_inv c.with.ensures c.put_word.ensures c.number_at-kept.ensures c.put_number.ensures
