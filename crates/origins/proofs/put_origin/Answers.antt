use Rattle.origins.proofs.Digits.{origin_put}
use Rattle.origins.proofs.put_origin.Goals as goal

pub returns : goal.returns
returns c = origin_put _ _ _ _ c.requires.0 c.requires.1 c.with_digit.ensures
