-- `crossing::cross_acquire` meets its contract. Assumes nothing.
use mathlib.Core.Path.{sym, ◌∙◌}
use native.Mathlib.Omega.{arith}
use borrow.Author.Tests.{leb-false}
use Rattle.std.proofs.lemmas.Result.{err_from_is_err_and}
use Rattle.answers.proofs.Numbers.{refusal_some}
use Rattle.rules.specs.Limits.{max_accepted}
use Rattle.rules.specs.Record.{core_of, class_of}
use Rattle.layout.specs.Layout.{accepted_of}
use Rattle.cores.proofs.Bytes.{held_in}
use Rattle.crossing.proofs.Outcomes.{is_crosslock, acquires, not_crosslock_lem, acquire_in_progress, acquire_list_full, acquire_count_full, acquire_accepts}
use Rattle.crossing.proofs.cross_acquire.Goals as goal

pub returns-in_err-not_crosslock : goal.returns-in_err-not_crosslock
returns-in_err-not_crosslock c =
    let p = c.requires in
    let e = err_from_is_err_and c.from_residual.result c.from_residual.ensures.1 in
    λ history.
    rw (e.1, e.2) (not_crosslock_lem _ _ _ history _ p.3 p.0.few (acquires _ _ _ history _ p.3 p.0.few p.4) _ c.in_err-not_crosslock.ensures (refusal_some _))

pub returns-then-is_in_progress : goal.returns-then-is_in_progress
returns-then-is_in_progress c =
    let p = c.requires in
    λ history.
    acquire_in_progress _ _ _ history _ p.3 p.0.few (sym c.in_ok-not_crosslock.ensures) p.4 (sym c.is_in_progress.ensures ∙ c.if-is_in_progress.true)

pub returns-then-is_list_full : goal.returns-then-is_list_full
returns-then-is_list_full c =
    let p = c.requires in
    λ history.
    acquire_list_full _ _ _ history _ p.3 p.0.few (sym c.in_ok-not_crosslock.ensures) p.4 (sym c.is_in_progress.ensures ∙ c.if-is_in_progress.false)
    (sym c.is_list_full.ensures ∙ c.if-is_list_full.true)

pub returns-then-is_full : goal.returns-then-is_full
returns-then-is_full c =
    let p = c.requires in
    λ history.
    acquire_count_full _ _ _ history _ p.3 p.0.few (sym c.in_ok-not_crosslock.ensures) p.4 (sym c.is_in_progress.ensures ∙ c.if-is_in_progress.false)
    (sym c.is_list_full.ensures ∙ c.if-is_list_full.false) (sym c.is_full.ensures ∙ c.if-is_full.true)

pub draw-requires : goal.draw-requires
draw-requires c =
    let p = c.requires in
    let l = (is_crosslock c.args.desk.now (class_of c.args.bytes.now) (sym c.in_ok-not_crosslock.ensures)).0 in
    (rw c.frame_of-frame.ensures (held_in c.args.desk.now p.0 (core_of c.args.bytes.now) p.3.core), p.1, p.0.few, l, omega arith)

pub number_pairs-requires : goal.number_pairs-requires
number_pairs-requires c =
    let p = c.requires in
    let l = (is_crosslock c.args.desk.now (class_of c.args.bytes.now) (sym c.in_ok-not_crosslock.ensures)).0 in
    let f = leb-false max_accepted (accepted_of c.args.desk.now) (sym c.is_full.ensures ∙ c.if-is_full.false) in
    (rw c.frame_of-frame.ensures (held_in c.args.desk.now p.0 (core_of c.args.bytes.now) p.3.core), p.2, p.0.few, l, omega arith)

pub returns : goal.returns
returns c =
    let p = c.requires in
    let e = c.frame_of-frame.ensures in
    λ history.
    acquire_accepts _ _ _ history _ p.3 p.0.few (sym c.in_ok-not_crosslock.ensures) p.4 (sym c.is_in_progress.ensures ∙ c.if-is_in_progress.false)
    (sym c.is_list_full.ensures ∙ c.if-is_list_full.false) (sym c.is_full.ensures ∙ c.if-is_full.false)
    (rw e at c.draw.ensures.0) (rw e at c.number_pairs.ensures) c.enter.ensures
