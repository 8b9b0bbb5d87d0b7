use mathlib.Core.Path.{◌≡◌}
use lib.ListN.{length}
use Rattle.search.specs.Letters.{second_letter}
use Rattle.starts.specs.Levels.{level_words}
use Rattle.starts.proofs.Levels.{Filling}
use Rattle.starts.proofs.fill_after.Given as goal

abbrev pub invariant-loop-m : goal.invariant-loop-m
invariant-loop-m l = (length (level_words l.levels) ≡ 128) × Filling l.rows l.k l.class (second_letter l.letter) l.m l.back (level_words l.levels)
