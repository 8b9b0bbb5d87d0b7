-- `unit::take_part` meets its contract. Assumes nothing.
use native.Mathlib.Omega.{arith}
use Rattle.progress.specs.Code.{feed_of}
use Rattle.progress.proofs.UnitSizes.{unit_most}
use Rattle.unit.proofs.Units.{counted_none, counted_within, whole_part, at_most, counted_part, part_kept, part_completes}
use Rattle.unit.proofs.take_part.Goals as goal

pub returns-then-p-part : goal.returns-then-p-part
returns-then-p-part c =
    let j = c.validate_unit in
    (whole_part c.args.p c.args.part.now c.requires.0 c.requires.1 c.if-p-part.true j.ensures.0, counted_none j.result j.ensures.1)

pub with_part-next-requires : goal.with_part-next-requires
with_part-next-requires c =
    omega (arith, unit_most c.args.p.opened (feed_of c.args.p).loose, c.requires.1)

pub unit_size-requires : goal.unit_size-requires
unit_size-requires c =
    at_most c.args.p c.args.part.now c.requires.0 c.requires.1 c.with_part-next.result c.with_part-next.ensures.0 c.with_part-next.ensures.1

pub returns-then-count-unit_size : goal.returns-then-count-unit_size
returns-then-count-unit_size c =
    (part_kept c.args.p c.args.part.now c.requires.0 c.requires.1 c.with_part-next.result c.with_part-next.ensures.0 c.with_part-next.ensures.1 _ (rw (← c.unit_size.ensures) c.if-count-unit_size.true), counted_part c.args.p c.args.part.now c.requires.0 c.requires.1 c.with_part-next.result c.with_part-next.ensures.0 c.with_part-next.ensures.1)

pub slice_bounds-unit-end : goal.slice_bounds-unit-end
slice_bounds-unit-end c =
    counted_within c.with_part-next.result (counted_part c.args.p c.args.part.now c.requires.0 c.requires.1 c.with_part-next.result c.with_part-next.ensures.0 c.with_part-next.ensures.1)

pub slice_bounds-validate_unit-end : goal.slice_bounds-validate_unit-end
slice_bounds-validate_unit-end c =
    counted_part c.args.p c.args.part.now c.requires.0 c.requires.1 c.with_part-next.result c.with_part-next.ensures.0 c.with_part-next.ensures.1

pub returns : goal.returns
returns c =
    let j = c.validate_unit-2 in
    (part_completes c.args.p c.args.part.now c.requires.0 c.requires.1 c.with_part-next.result c.with_part-next.ensures.0 c.with_part-next.ensures.1 (rw (← c.unit_size.ensures) c.if-count-unit_size.false) j.ensures.0, counted_none j.result j.ensures.1)
