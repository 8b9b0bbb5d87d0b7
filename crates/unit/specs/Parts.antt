-- What the code does with a part of a piece.
use Rattle.std.specs.Prelude.{◌≡◌, List, ◌++◌, ℕ, ◌<◌, length}
use Rattle.rules.specs.Log.{unit_size}
use Rattle.validator.specs.Calls.{Buffers}
use Rattle.progress.specs.Feed.{Feed, with_part}
use Rattle.unit.specs.Units.{UnitValidated}

-- It goes at most to the end of the unit: the part is kept, or it completes the unit, which is validated.
pub data PartTaken (f : Feed) (b : Buffers) (part : List ℕ) : Feed → Buffers → Type 0 where
  not_yet : length (f.loose ++ part) < unit_size f.opened (f.loose ++ part) → PartTaken f b part (with_part f part) b
  complete : {f' : Feed} {b' : Buffers} → length (f.loose ++ part) ≡ unit_size f.opened (f.loose ++ part)
      → UnitValidated f.opened f.number b (f.loose ++ part) f' b'
      → PartTaken f b part f' b'
