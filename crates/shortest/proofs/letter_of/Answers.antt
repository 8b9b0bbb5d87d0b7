use Prim.Native.Nat.{◌/◌}
use mathlib.Core.Path.{sym}
use native.Mathlib.Omega.{arith}
use Rattle.shortest.proofs.Words.{place_of_R, place_of_N}
use Rattle.shortest.proofs.letter_of.Goals as goal

pub returns-then-rank-eq0 : goal.returns-then-rank-eq0
returns-then-rank-eq0 c = sym (place_of_R (c.args.rank / 3) (omega arith) c.if-rank-eq0.true)

pub returns-else-rank-eq0 : goal.returns-else-rank-eq0
returns-else-rank-eq0 c = sym (place_of_N (c.args.rank / 3) (omega arith) c.if-rank-eq0.false)
