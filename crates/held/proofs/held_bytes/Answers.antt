use mathlib.Core.Path.{refl}
use Rattle.held.proofs.Frames.{bytes_sliced}
use Rattle.held.proofs.held_bytes.Goals as goal

pub returns : goal.returns
returns c = let p = c.requires in bytes_sliced _ p.0 p.1 p.2 _ refl
