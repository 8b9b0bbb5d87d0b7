use Prim.Native.Nat.{◌+◌, ◌-◌, ◌*◌}
use mathlib.Core.Path.{◌≡◌}
use native.Mathlib.Omega.{arith}
use Rattle.successors.proofs.Digits.{columns_part}
use Rattle.successors.proofs.Classes.{row_inside, class_law}
use Rattle.successors.proofs.class_words.Goals as goal

pub returns : goal.returns
returns c =
    let a = c.args in
    let p = c.requires in
    let n : (a.class + 1) * a.k - a.class * a.k ≡ a.k = omega arith in
    let h = row_inside p.1 p.0.room in
    class_law a.desk.now a.sheet.now a.k a.class a.hard a.soft _ _ p.2 p.3
    (rw n at (columns_part a.sheet.now (a.class * a.k) ((a.class + 1) * a.k - a.class * a.k) _ (omega arith) c.lock_words.ensures)) c.with_irq.ensures
