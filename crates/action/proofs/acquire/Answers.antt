-- `action::acquire` meets its contract. Assumes nothing.
use mathlib.Core.Path.{sym, ◌∙◌}
use native.Mathlib.Omega.{arith}
use borrow.Author.Tests.{leb-false}
use Rattle.std.proofs.lemmas.Result.{err_from_is_err_and}
use Rattle.answers.proofs.Numbers.{refusal_some}
use Rattle.rules.specs.Limits.{max_accepted}
use Rattle.rules.specs.Record.{core_of, class_of, mode_of}
use Rattle.layout.specs.Layout.{accepted_of}
use Rattle.cores.proofs.Bytes.{number_less, held_in}
use Rattle.acting.proofs.Common.{frame_past}
use Rattle.action.proofs.Outcomes.{is_lock, kept_room, acquire_not_lock, acquire_too_deep, acquire_history_full, acquire_count_full, acquire_accepts}
use Rattle.action.proofs.acquire.Goals as goal

pub returns-in_err-not_lock : goal.returns-in_err-not_lock
returns-in_err-not_lock c =
    let p = c.requires in
    let e = err_from_is_err_and c.from_residual.result c.from_residual.ensures.1 in
    rw (e.1, e.2) (acquire_not_lock _ _ _ _ _ p.3 p.0.few p.5 _ c.in_err-not_lock.ensures (refusal_some _))

pub returns-then-desk-frame-ge-MAX_DEPTH : goal.returns-then-desk-frame-ge-MAX_DEPTH
returns-then-desk-frame-ge-MAX_DEPTH c =
    let p = c.requires in
    let u = is_lock c.args.desk.now (class_of c.args.bytes.now) (sym c.in_ok-not_lock.ensures) in
    acquire_too_deep _ _ _ _ _ p.3 p.0.few p.5 u.0 u.1 (rw c.frame_of-frame.ensures at c.if-desk-frame-ge-MAX_DEPTH.true)

pub returns-then-no_room : goal.returns-then-no_room
returns-then-no_room c =
    let p = c.requires in
    let u = is_lock c.args.desk.now (class_of c.args.bytes.now) (sym c.in_ok-not_lock.ensures) in
    let e = c.frame_of-frame.ensures in
    acquire_history_full _ _ _ _ _ p.3 p.0.few p.5 u.0 u.1 (rw e at c.if-desk-frame-ge-MAX_DEPTH.false) (sym c.no_room.ensures ∙ c.if-no_room.true)

pub returns-then-is_full : goal.returns-then-is_full
returns-then-is_full c =
    let p = c.requires in
    let u = is_lock c.args.desk.now (class_of c.args.bytes.now) (sym c.in_ok-not_lock.ensures) in
    let e = c.frame_of-frame.ensures in
    acquire_count_full _ _ _ _ _ p.3 p.0.few p.5 u.0 u.1 (rw e at c.if-desk-frame-ge-MAX_DEPTH.false) (sym c.no_room.ensures ∙ c.if-no_room.false) (sym c.is_full.ensures ∙ c.if-is_full.true)

pub draw-requires : goal.draw-requires
draw-requires c =
    let p = c.requires in
    let u = is_lock c.args.desk.now (class_of c.args.bytes.now) (sym c.in_ok-not_lock.ensures) in
    let st = c.args.desk.now in
    let by = c.args.bytes.now in
    (rw c.frame_of-frame.ensures (held_in st p.0 (core_of by) p.3.core), p.1, p.0.few, u.0, p.3.mode)

pub number_pairs-requires : goal.number_pairs-requires
number_pairs-requires c =
    let p = c.requires in
    let u = is_lock c.args.desk.now (class_of c.args.bytes.now) (sym c.in_ok-not_lock.ensures) in
    let st = c.args.desk.now in
    let by = c.args.bytes.now in
    let f = leb-false max_accepted (accepted_of st) (sym c.is_full.ensures ∙ c.if-is_full.false) in
    (rw c.frame_of-frame.ensures (held_in st p.0 (core_of by) p.3.core), p.2, p.0.few, u.0, omega arith)

pub keep-requires : goal.keep-requires
keep-requires c =
    let p = c.requires in
    let st = c.args.desk.now in
    let by = c.args.bytes.now in
    let u = is_lock st (class_of by) (sym c.in_ok-not_lock.ensures) in
    let l = u.0 in
    let f = p.0.few in
    let e = c.frame_of-frame.ensures in
    let n = number_less st p.0 (core_of by) p.3.core in
    let k = frame_past n (rw e at c.push.ensures.keeps) in
    let q = k.long in
    let d = p.0.encodes.long in
    (omega arith, kept_room (mode_of by) (sym c.no_room.ensures ∙ c.if-no_room.false) k p.4.long, omega arith, omega arith, p.3.mode)

pub returns : goal.returns
returns c =
    let p = c.requires in
    let u = is_lock c.args.desk.now (class_of c.args.bytes.now) (sym c.in_ok-not_lock.ensures) in
    let e = c.frame_of-frame.ensures in
    acquire_accepts _ _ _ _ _ p.3 p.0.few p.5 u.0 u.1 (rw e at c.if-desk-frame-ge-MAX_DEPTH.false) (sym c.no_room.ensures ∙ c.if-no_room.false) (sym c.is_full.ensures ∙ c.if-is_full.false) (rw e at c.draw.ensures.0) (rw e at c.number_pairs.ensures) (rw e at c.push.ensures) (rw e at c.keep.ensures)
