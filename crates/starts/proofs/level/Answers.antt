use Rattle.starts.proofs.Levels.{words_at}
use Rattle.starts.proofs.level.Goals as goal

pub returns : goal.returns
returns c = words_at c.args.levels.now c.args.m
