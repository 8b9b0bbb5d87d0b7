-- `crossing::cross_release` meets its contract. Assumes nothing.
use mathlib.Core.Path.{sym}
use Rattle.std.proofs.lemmas.Result.{err_from_is_err_and}
use Rattle.answers.proofs.Numbers.{refusal_some}
use Rattle.rules.specs.Record.{class_of}
use Rattle.crossing.proofs.Outcomes.{going, releases, not_going_lem, asks_release, release_accepts}
use Rattle.crossing.proofs.cross_release.Goals as goal

pub returns-in_err-not_going : goal.returns-in_err-not_going
returns-in_err-not_going c =
    let p = c.requires in
    let e = err_from_is_err_and c.from_residual.result c.from_residual.ensures.1 in
    λ sheet seen history.
    rw (e.1, e.2) (not_going_lem _ sheet seen history _ p.1 p.0.few (releases _ sheet seen history _ p.1 p.0.few p.2) (asks_release c.args.desk.now sheet seen history c.args.bytes.now p.1 p.0.few) _ c.in_err-not_going.ensures (refusal_some _))

pub returns : goal.returns
returns c =
    let p = c.requires in
    let g = going c.args.desk.now (class_of c.args.bytes.now) (sym c.in_ok-not_going.ensures) in
    λ sheet seen history. release_accepts _ sheet seen history _ p.1 p.0.few g.0 p.2 g.1 g.2 c.end.ensures
