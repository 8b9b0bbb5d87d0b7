use Prim.Native.Nat.{◌+◌, ◌-◌}
use mathlib.Core.Path.{◌≡◌, ◌∙◌}
use native.Mathlib.Omega.{arith}
use Rattle.layout.specs.Layout.{marks_at}
use Rattle.successors.proofs.Digits.{column_part}
use Rattle.successors.proofs.marked.Goals as goal

pub returns : goal.returns
returns c =
    let a = c.args in
    let n : marks_at + a.k - marks_at ≡ a.k = omega arith in
    rw (c.digit_of.ensures, n) at (c.column_of.ensures ∙ column_part a.desk.now marks_at c.digit_of.result (marks_at + a.k - marks_at) (omega arith))
