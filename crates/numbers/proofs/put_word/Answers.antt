use mathlib.Core.Path.{ap, ◌∙◌}
use native.Mathlib.Omega.{arith}
use Rattle.rules.specs.Number.{bytes_of}
use Rattle.numbers.proofs.Writing.{eight_bytes, written}
use Rattle.numbers.proofs.put_word.Goals as goal

-- The last step as in put_number.
pub returns : goal.returns
returns c = written 8 _ _ _ _ c.requires (c.copy_from_slice.ensures.after ∙ c.to_le_bytes.ensures ∙ eight_bytes _ ∙ ap (bytes_of 8) (omega arith))
