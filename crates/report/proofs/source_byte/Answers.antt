use mathlib.Core.Path.{sym}
use Prim.Native.Nat.{◌%◌}
use native.Mathlib.Omega.{arith}
use Rattle.rules.proofs.Ranks.{source_byte}
use Rattle.report.proofs.source_byte.Goals as goal

pub returns : goal.returns
returns c = sym (source_byte (c.args.rank % 3) (omega arith))
