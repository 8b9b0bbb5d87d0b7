-- `numbering::count_record` meets its contract. Assumes nothing.
use mathlib.Core.Path.{◌≡◌}
use Prim.Native.Nat.{suc, ◌+◌}
use native.Mathlib.Omega.{arith}
use Rattle.numbering.proofs.Numbering.{put_as}
use Rattle.layout.specs.Layout.{accepted_of}
use Rattle.numbering.proofs.count_record.Goals as goal

pub returns : goal.returns
returns c =
    let d = c.args.desk.now in
    let n : c.number_at-accepted.result + 1 ≡ suc (accepted_of d) = omega (arith, c.number_at-accepted.ensures) in
    put_as n c.put_number.ensures
