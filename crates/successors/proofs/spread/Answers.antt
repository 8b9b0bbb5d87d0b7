use mathlib.Core.Path.{◌≡◌}
use native.Mathlib.Omega.{arith}
use Rattle.successors.proofs.Digits.{spread_law}
use Rattle.successors.proofs.spread.Goals as goal

pub returns : goal.returns
returns c =
    let e : c.from.result ≡ c.args.byte = omega arith in
    rw e (spread_law c.args.byte (omega arith))
