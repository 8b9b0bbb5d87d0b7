use mathlib.Core.Path.{ap, ◌∙◌}
use native.Mathlib.Omega.{arith}
use Rattle.rules.specs.Number.{bytes_of}
use Rattle.numbers.proofs.Writing.{four_bytes, written}
use Rattle.numbers.proofs.put_number.Goals as goal

-- The last step reckons the number: a sum that gives it proves, another does not.
pub returns : goal.returns
returns c = written 4 _ _ _ _ c.requires (c.copy_from_slice.ensures.after ∙ c.to_le_bytes.ensures ∙ four_bytes _ ∙ ap (bytes_of 4) (omega arith))
