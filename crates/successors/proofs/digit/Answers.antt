use mathlib.Core.Path.{◌∙◌}
use Rattle.words.proofs.Words.{bit_shift}
use Rattle.successors.proofs.digit.Goals as goal

pub returns : goal.returns
returns c = c.from.ensures ∙ bit_shift c.args.byte c.args.d
