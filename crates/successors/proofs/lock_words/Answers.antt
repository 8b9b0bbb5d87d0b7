use Prim.Native.Nat.{◌+◌, ◌-◌, ◌*◌}
use mathlib.Core.Path.{◌≡◌}
use native.Mathlib.Omega.{arith}
use lib.ListN.{length}
use Rattle.successors.specs.Column.{Columns}
use Rattle.successors.proofs.Digits.{columns_narrow, columns_join, columns_part}
use Rattle.successors.proofs.lock_words.Goals as goal

pub loop-i-init : goal.loop-i-init
loop-i-init c = (omega arith, columns_part _ _ _ _ (omega arith) c.block-words.ensures)

pub joined-words-requires : goal.joined-words-requires
joined-words-requires c =
    columns_narrow c.args.row.now _ _ _ _ _ _ (omega arith) (omega arith) c.loop-i.invariant.1 (columns_part _ _ _ _ (omega arith) c.block.ensures)

pub loop-i-preserved : goal.loop-i-preserved
loop-i-preserved c =
    let row = c.args.row.now in
    let i = c.loop-i.i in
    let n : 16 * (i - 1 + 1) - 16 * (i - 1) ≡ 16 = omega arith in
    let z : 0 + 16 * i ≡ 16 * i = omega arith in
    let y : 0 + 16 * (i - 1) ≡ 16 * (i - 1) = omega arith in
    let b : Columns row (16 * (i - 1)) 16 c.block.result = rw n at (columns_part row (16 * (i - 1)) (16 * (i - 1 + 1) - 16 * (i - 1)) _ (omega arith) c.block.ensures) in (
      omega arith,
      rw y at (columns_join row 0 (length row) i _ _ _ c.loop-i-test.true c.loop-i.invariant.0 (rw z c.loop-i.invariant.1) (rw y b) c.joined-words.ensures),
    )

pub returns : goal.returns
returns c =
    let z : 16 * c.loop-i.i ≡ 0 = omega arith in
    let n : length c.args.row.now - 0 ≡ length c.args.row.now = omega arith in
    rw (z, n) at c.loop-i.invariant.1
