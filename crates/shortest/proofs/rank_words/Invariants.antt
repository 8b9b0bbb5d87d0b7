use Rattle.shortest.proofs.Words.{Worded}
use Rattle.shortest.proofs.rank_words.Given as goal

abbrev pub invariant-loop-rank : goal.invariant-loop-rank
invariant-loop-rank l = Worded l.mark l.locks l.hard l.soft l.rank l.words
