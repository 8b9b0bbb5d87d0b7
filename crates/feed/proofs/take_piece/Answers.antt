use mathlib.Core.Path.{◌≡◌, refl, subst}
use mathlib.Core.List.{List}
use Prim.Native.Nat.{ℕ, ◌-◌, ◌<◌}
use native.Mathlib.Omega.{arith}
use lib.ListN.{take, take-append-drop}
use lib.Seq.{take_all}
use Rattle.rules.specs.Log.{unit_size}
use Rattle.validator.specs.Calls.{buffers}
use Rattle.progress.specs.Code.{feed_of}
use Rattle.feed.specs.Fed.{Fed, stopped}
use Rattle.feed.proofs.Cuts.{fed_none, fed_append, part_length, part_some, fed_part, part_loose}
use Rattle.progress.proofs.UnitSizes.{unit_most}
use Rattle.feed.proofs.Turns.{counted_few}
use Rattle.feed.proofs.take_piece.Goals as goal

pub loop-at-init : goal.loop-at-init
loop-at-init c =
    (omega arith, refl, refl, refl, refl, refl, c.requires.0, c.requires.1, fed_none (feed_of c.args.first) _ (rw (← c.requires.0) c.requires.1))

pub unit_size-requires : goal.unit_size-requires
unit_size-requires c =
    let l = c.loop-at in
    omega (arith, unit_most l.now.opened (feed_of l.now).loose, l.invariant.7)

pub overflow_sub-unit_size : goal.overflow_sub-unit_size
overflow_sub-unit_size c =
    omega (arith, c.loop-at.invariant.7, c.unit_size.ensures)

pub overflow_add-at : goal.overflow_add-at
overflow_add-at c =
    omega (arith, (part_length c.args.piece.now c.next_part-part.result.now c.loop-at.at (c.unit_size.result - c.loop-at.now.count) c.next_part-part.ensures).1)

pub take_part-now-requires : goal.take_part-now-requires
take_part-now-requires c =
    let l = c.loop-at in
    (l.invariant.6, omega (arith, (part_length c.args.piece.now c.next_part-part.result.now c.loop-at.at (c.unit_size.result - c.loop-at.now.count) c.next_part-part.ensures).0, c.unit_size.ensures, l.invariant.7))

pub loop-at-smaller : goal.loop-at-smaller
loop-at-smaller c =
    let l = c.loop-at in
    let w : 0 < c.unit_size.result - l.now.count = omega (arith, c.unit_size.ensures, l.invariant.7) in
    omega (arith, part_some c.args.piece.now c.next_part-part.result.now c.loop-at.at (c.unit_size.result - c.loop-at.now.count) c.next_part-part.ensures c.loop-at-test.true w)

pub loop-at-preserved : goal.loop-at-preserved
loop-at-preserved c =
    let l = c.loop-at in
    let t = c.take_part-now in (
      omega (arith, (part_length c.args.piece.now c.next_part-part.result.now c.loop-at.at (c.unit_size.result - c.loop-at.now.count) c.next_part-part.ensures).1, c.loop-at-test.true),
      omega arith,
      omega arith,
      omega arith,
      omega arith,
      omega arith,
      t.ensures.1,
      counted_few t.result t.ensures.1 (part_loose t.ensures.0),
      fed_part c.args.piece.now c.next_part-part.result.now c.loop-at.at (c.unit_size.result - c.loop-at.now.count) c.next_part-part.ensures l.invariant.8 c.if-now-eq-CLEAN.true t.ensures.0,
    )

pub returns-else-now-eq-CLEAN : goal.returns-else-now-eq-CLEAN
returns-else-now-eq-CLEAN c =
    let l = c.loop-at in
    let a = c.args in
    (subst (λ (xs : List ℕ). Fed (feed_of a.first) (buffers a.desk.now a.sheet.now a.seen.now a.history.now a.slip.now) xs (feed_of l.now) (buffers l.desk l.sheet l.seen l.history l.slip)) (take-append-drop l.at a.piece.now) (fed_append l.invariant.8 (stopped c.if-now-eq-CLEAN.false)), omega (arith, unit_most l.now.opened (feed_of l.now).loose, l.invariant.7))
