use Rattle.origins.proofs.Digits.{digit_put}
use Rattle.origins.proofs.with_digit.Goals as goal

pub returns : goal.returns
returns c = digit_put c.args.j c.requires.0 c.args.byte c.args.digit c.ranges.byte.fits c.requires.1
