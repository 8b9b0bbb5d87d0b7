use Rattle.report.proofs.Writing.{kind_law}
use Rattle.report.proofs.kind_byte.Goals as goal

pub returns : goal.returns
returns c = kind_law c.args.rank c.min.result c.min.ensures
