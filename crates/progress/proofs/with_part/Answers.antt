use Rattle.progress.specs.Code.{feed_of}
use Rattle.progress.proofs.Bytes.{part_behind, with_loose}
use mathlib.Core.Path.{refl}
use native.Mathlib.Omega.{arith}
use Rattle.progress.proofs.with_part.Goals as goal

pub returns : goal.returns
returns c =
    let a = c.args in
    (with_loose (feed_of a.p) _ _ (rw c.copy_from_slice.ensures.after (part_behind a.p.loose a.part.now _ a.p.count (omega (arith, c.well_formed.0.1.1.1.1.0.1.0.1)))), refl)
