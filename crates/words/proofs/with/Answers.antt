use Rattle.words.proofs.Words.{with_law}
use Rattle.words.proofs.with.Goals as goal

pub returns : goal.returns
returns c = with_law c.args.word c.args.i c.requires
