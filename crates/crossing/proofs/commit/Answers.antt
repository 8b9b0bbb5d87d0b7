-- `crossing::commit` meets its contract. Assumes nothing.
use mathlib.Core.Path.{sym}
use native.Mathlib.Omega.{arith}
use borrow.Author.Tests.{leb-false}
use Rattle.std.proofs.lemmas.Result.{err_from_is_err_and}
use Rattle.answers.proofs.Numbers.{refusal_some}
use Rattle.rules.specs.Limits.{max_accepted}
use Rattle.rules.specs.Record.{core_of, class_of}
use Rattle.layout.specs.Layout.{accepted_of}
use Rattle.crossing.proofs.Outcomes.{going, is_crosslock, ready, commits, not_going_lem, asks_commit, commit_accepts}
use Rattle.crossing.proofs.commit.Goals as goal

pub returns-in_err-not_going : goal.returns-in_err-not_going
returns-in_err-not_going c =
    let p = c.requires in
    let e = err_from_is_err_and c.from_residual.result c.from_residual.ensures.1 in
    rw (e.1, e.2) (not_going_lem _ _ _ _ _ p.4 p.0.few (commits _ _ _ _ _ p.4 p.0.few p.5) (asks_commit c.args.desk.now c.args.sheet.now c.args.seen.now c.args.history.now c.args.bytes.now p.4 p.0.few) _ c.in_err-not_going.ensures (refusal_some _))

pub draw_commit-requires : goal.draw_commit-requires
draw_commit-requires c =
    let p = c.requires in
    let desk = c.args.desk.now in
    let l = (is_crosslock desk (class_of c.args.bytes.now) (going desk (class_of c.args.bytes.now) (sym c.in_ok-not_going.ensures)).0).0 in
    let r = ready desk c.args.history.now p.0 p.1 (omega arith) (core_of c.args.bytes.now) p.4.core in
    (p.0.encodes.long, r.0, r.1, p.2, p.0.few, l, rw c.frame_of-frame.ensures r.2)

pub number_commit-requires : goal.number_commit-requires
number_commit-requires c =
    let p = c.requires in
    let desk = c.args.desk.now in
    let g = going desk (class_of c.args.bytes.now) (sym c.in_ok-not_going.ensures) in
    let l = (is_crosslock desk (class_of c.args.bytes.now) g.0).0 in
    let r = ready desk c.args.history.now p.0 p.1 (omega arith) (core_of c.args.bytes.now) p.4.core in
    let f = leb-false max_accepted (accepted_of desk) g.2 in
    (p.0.encodes.long, r.0, r.1, p.3, p.0.few, l, rw c.frame_of-frame.ensures r.2, omega arith)

pub returns : goal.returns
returns c =
    let p = c.requires in
    let g = going c.args.desk.now (class_of c.args.bytes.now) (sym c.in_ok-not_going.ensures) in
    let e = c.frame_of-frame.ensures in
    commit_accepts _ _ _ _ _ p.4 p.0.few g.0 p.5 g.1 g.2 (rw e at c.draw_commit.ensures) (rw e at c.number_commit.ensures)
