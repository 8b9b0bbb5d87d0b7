use mathlib.Core.Path.{sym}
use native.Mathlib.Omega.{arith}
use Rattle.std.proofs.lemmas.Result.{err_from_is_err_and}
use Rattle.answers.proofs.Numbers.{refusal_some}
use Rattle.joiner.proofs.Joins.{refused, passed, ready, conclude_ready, joined}
use Rattle.joiner.proofs.join.Goals as goal

pub returns-in_err-refusal : goal.returns-in_err-refusal
returns-in_err-refusal c =
    let e = err_from_is_err_and c.from_residual.result c.from_residual.ensures.1 in
    rw (e.1, e.2) (refused _ _ _ _ _ _ _ c.in_err-refusal.ensures (refusal_some _))

pub draw-requires : goal.draw-requires
draw-requires c =
    let a = c.args in ready _ _ a.desk.now a.sheet.now a.seen.now a.slip.now (passed _ _ a.desk.now a.sheet.now a.seen.now a.slip.now (sym c.in_ok-refusal.ensures))

pub conclude-requires : goal.conclude-requires
conclude-requires c =
    let a = c.args in
    conclude_ready _ _ a.desk.now a.sheet.now a.seen.now a.slip.now (passed _ _ a.desk.now a.sheet.now a.seen.now a.slip.now (sym c.in_ok-refusal.ensures))
    (λ k l. omega (arith, c.shared_slice_known-1.given k)) (λ k l. omega (arith, c.shared_slice_known-3-1.given k)) (λ k l. omega (arith, c.shared_slice_known-4-1.given k)) (λ k l. omega (arith, c.shared_slice_known-6-1.given k)) c.draw.ensures

pub returns : goal.returns
returns c =
    let a = c.args in
    joined _ _ a.desk.now a.sheet.now a.seen.now a.slip.now (passed _ _ a.desk.now a.sheet.now a.seen.now a.slip.now (sym c.in_ok-refusal.ensures))
    (λ k l. omega (arith, c.shared_slice_known-1.given k)) (λ k l. omega (arith, c.shared_slice_known-3-1.given k)) (λ k l. omega (arith, c.shared_slice_known-4-1.given k)) (λ k l. omega (arith, c.shared_slice_known-6-1.given k)) c.draw.ensures (sym c.in_ok-refusal.ensures) c.conclude.ensures
