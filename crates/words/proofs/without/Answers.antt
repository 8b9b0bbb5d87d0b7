use Rattle.words.proofs.Words.{without_law}
use Rattle.words.proofs.without.Goals as goal

pub returns : goal.returns
returns c = without_law c.args.word c.args.other c.ranges.other.fits c.ranges.word.fits
