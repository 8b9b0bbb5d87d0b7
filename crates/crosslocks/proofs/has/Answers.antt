use mathlib.Core.Path.{ap}
use Prim.Native.Nat.{ℕ}
use lib.Dec.{eqb}
use Rattle.words.proofs.Words.{bit_shift}
use Rattle.crosslocks.proofs.has.Goals as goal

pub returns : goal.returns
returns c = ap (λ (n : ℕ). eqb n 1) (bit_shift c.args.word c.args.class)
