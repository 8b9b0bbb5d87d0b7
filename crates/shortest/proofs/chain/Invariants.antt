use mathlib.Core.Path.{◌≡◌}
use lib.ListN.{length}
use Rattle.starts.specs.Levels.{level_words}
use Rattle.shortest.specs.Shortest.{letter_number}
use Rattle.shortest.proofs.Chains.{Going}
use Rattle.shortest.proofs.chain.Given as goal

abbrev pub invariant-loop-i : goal.invariant-loop-i
invariant-loop-i l =
    (length l.found.dependencies ≡ 64)
    × Going l.desk l.sheet l.k l.b.n l.b.class (letter_number l.b.letter) (level_words l.levels) l.i l.found l.class (letter_number l.letter)
