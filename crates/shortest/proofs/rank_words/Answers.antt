use Prim.Native.Nat.{◌+◌, ◌-◌, ◌*◌}
use mathlib.Core.Path.{◌≡◌}
use native.Mathlib.Omega.{arith}
use Rattle.successors.proofs.Classes.{row_inside}
use Rattle.successors.proofs.Digits.{columns_part}
use Rattle.shortest.proofs.Words.{rank_words_law}
use Rattle.shortest.proofs.rank_words.Goals as goal

pub returns : goal.returns
returns c =
    let a = c.args in
    let p = c.requires in
    let e : c.loop-rank.rank ≡ 12 = omega arith in
    let n : (a.class + 1) * a.k - a.class * a.k ≡ a.k = omega arith in
    let h = row_inside p.1 p.0.room in
    rank_words_law (rw n at (columns_part a.sheet.now (a.class * a.k) ((a.class + 1) * a.k - a.class * a.k) _ (omega arith) c.row_words-locks.ensures)) p.2 p.3 p.0.few p.1
    (rw e at c.loop-rank.invariant)
