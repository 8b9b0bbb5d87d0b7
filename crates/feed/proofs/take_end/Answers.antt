-- `feed::take_end` meets its contract. Assumes nothing.
use native.Mathlib.Omega.{arith}
use borrow.Author.Tests.{not-true, not-false}
use Rattle.feed.specs.Fed.{stands}
use Rattle.unit.proofs.Units.{counted_within}
use Rattle.feed.proofs.Turns.{end_in_header, end_between, end_in_record}
use Rattle.feed.proofs.take_end.Goals as goal

pub returns-then-p-ne-CLEAN : goal.returns-then-p-ne-CLEAN
returns-then-p-ne-CLEAN c = (stands c.if-p-ne-CLEAN.true, c.requires.1)

pub returns-then-not-p : goal.returns-then-not-p
returns-then-not-p c =
    (end_in_header c.args.p _ c.if-p-ne-CLEAN.false c.if-not-p.true (rw c.number.ensures at c.between_units.ensures.0), omega (arith, c.between_units.ensures.1))

pub returns-then-p-eq0 : goal.returns-then-p-eq0
returns-then-p-eq0 c =
    (end_between c.args.p _ c.if-p-ne-CLEAN.false c.if-not-p.false c.if-p-eq0.true, c.requires.1)

pub shared_ref_as_front-validate_unit : goal.shared_ref_as_front-validate_unit
shared_ref_as_front-validate_unit c = omega (arith, c.requires.1)

pub slice_bounds-validate_unit-end : goal.slice_bounds-validate_unit-end
slice_bounds-validate_unit-end c = c.requires.0

pub returns : goal.returns
returns c =
    let j = c.validate_unit.ensures in
    (end_in_record c.args.p _ c.if-p-ne-CLEAN.false c.if-not-p.false c.requires.0 c.if-p-eq0.false j.0, omega (arith, j.1))
