-- `unit::validate_unit` meets its contract: a record, or the header. Assumes nothing.
use mathlib.Core.Path.{refl}
use borrow.Author.Tests.{ne_eqb}
use Rattle.answers.specs.Numbers.{refusal_number}
use Rattle.answers.proofs.Numbers.{refusal_some}
use Rattle.unit.proofs.Units.{is_record, is_header_lem}
use Rattle.unit.proofs.validate_unit.Goals as goal

pub returns-then-opened : goal.returns-then-opened
returns-then-opened c =
    let e = c.answer_number-answer.ensures in
    (is_record _ _ c.if-opened.true c.step.ensures c.one_more.ensures (rw e at c.between_units.ensures.0), c.between_units.ensures.1)

pub returns-in-Ok : goal.returns-in-Ok
returns-in-Ok c =
    let b = c.between_units-in-Ok.ensures in
    (is_header_lem _ _ _ c.if-opened.false c.header_classes.ensures c.header_word.ensures c.in-Ok.ensures refl (rw c.number.ensures at b.0), b.1)

pub returns-in-Err : goal.returns-in-Err
returns-in-Err c =
    let b = c.between_units-in-Err.ensures in
    let r = refusal_number c.in-Err.refusal in
    let s = rw c.number-in-Err.ensures at b.0 in
    (is_header_lem _ _ _ c.if-opened.false c.header_classes.ensures c.header_word.ensures c.in-Err.ensures refl (rw (ne_eqb r 0 (refusal_some c.in-Err.refusal)) s), b.1)
