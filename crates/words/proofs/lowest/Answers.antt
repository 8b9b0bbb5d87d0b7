use Rattle.words.proofs.Words.{lowest_law}
use Rattle.words.proofs.lowest.Goals as goal

pub returns : goal.returns
returns c = lowest_law c.args.word c.requires c.ranges.word.fits
