use Rattle.words.proofs.Words.{both_law}
use Rattle.words.proofs.both.Goals as goal

pub returns : goal.returns
returns c = both_law c.args.word c.args.other
