-- `clashes`: the one computation over the entire table.
use native.Mathlib.Omega.{arith}
use Rattle.clash.specs.Clash.{clash, answer_of}
use Rattle.clash.proofs.Answers.{table_answers, clashing}
use Rattle.clash.proofs.clashes.Goals as goal

pub some_clash-requires : goal.some_clash-requires
unfolding answer_of clash
some_clash-requires c = table_answers _ tt

pub returns : goal.returns
returns c = clashing c.args.desk.now c.args.k (omega (arith, c.requires.0, c.requires.1)) (omega arith) c.some_clash.ensures
