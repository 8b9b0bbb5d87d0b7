-- `validator::step` meets its contract. Assumes nothing.
use mathlib.Core.Path.{refl, sym, ◌∙◌}
use native.Mathlib.Omega.{arith}
use Rattle.fit.proofs.Facts.{facts, cross_facts, number_facts}
use Rattle.rules.proofs.Formed.{well_formed}
use Rattle.validator.proofs.Fitness.{fit_cored, fit_crossed}
use Rattle.validator.proofs.Outcomes.{unfit_buffers, unfit_history, unfit_entries, unfit_slip, is_closed, is_malformed_lem, is_refused, count_ready, conclude_ready, is_validated}
use Rattle.std.proofs.lemmas.Result.{err_from_is_err_and}
use Rattle.answers.proofs.Numbers.{refusal_some}
use Rattle.validator.proofs.step.Goals as goal
use Rattle.validator.proofs.step.Goals.{then-not-fits-via-then-not-fits, then-not-fits-via-else-not-fits+then-history-lt-HISTORY_SIZE, then-not-fits-via-else-not-fits+else-history-lt-HISTORY_SIZE+then-not-entries_fit, then-not-fits-via-else-not-fits+else-history-lt-HISTORY_SIZE+else-not-entries_fit+then-slip-desk}

pub returns-then-not-fits : goal.returns-then-not-fits
returns-then-not-fits c =
    elim c.then-not-fits.branch [
      | then-not-fits-via-then-not-fits w ↦ unfit_buffers _ _ _ _ _ _ (sym c.fits.ensures ∙ w.if-not-fits.true)
      | then-not-fits-via-else-not-fits+then-history-lt-HISTORY_SIZE w ↦ unfit_history _ _ _ _ _ _ (sym c.fits.ensures ∙ w.if-not-fits.false) w.if-history-lt-HISTORY_SIZE.true
      | then-not-fits-via-else-not-fits+else-history-lt-HISTORY_SIZE+then-not-entries_fit w ↦
          unfit_entries _ _ _ _ _ _ (sym c.fits.ensures ∙ w.if-not-fits.false) w.if-history-lt-HISTORY_SIZE.false (sym w.entries_fit.ensures ∙ w.if-not-entries_fit.true)
      | then-not-fits-via-else-not-fits+else-history-lt-HISTORY_SIZE+else-not-entries_fit+then-slip-desk w ↦ unfit_slip _ _ _ _ _ _ (sym c.fits.ensures ∙ w.if-not-fits.false) w.if-history-lt-HISTORY_SIZE.false (sym w.entries_fit.ensures ∙ w.if-not-entries_fit.false) w.if-slip-desk.true
    ]

pub entries_fit-requires : goal.entries_fit-requires
entries_fit-requires c = let a = c.args in let f = facts a.desk.now a.sheet.now a.seen.now (sym c.fits.ensures ∙ c.if-not-fits.false) in (f.long, (cross_facts a.desk.now a.sheet.now a.seen.now (sym c.fits.ensures ∙ c.if-not-fits.false)).kept, c.if-history-lt-HISTORY_SIZE.false)

pub bounds-desk-0 : goal.bounds-desk-0
bounds-desk-0 c = let a = c.args in let f = facts a.desk.now a.sheet.now a.seen.now (sym c.fits.ensures ∙ c.if-not-fits.false) in let l = f.long in omega arith

pub bounds-desk-1 : goal.bounds-desk-1
bounds-desk-1 c = let a = c.args in let f = facts a.desk.now a.sheet.now a.seen.now (sym c.fits.ensures ∙ c.if-not-fits.false) in let l = f.long in omega arith

pub returns-then-desk-eq1 : goal.returns-then-desk-eq1
returns-then-desk-eq1 c = is_closed _ _ _ _ _ _ (λ k l. omega (arith, c.slice_known-1.given k)) (λ k l. omega (arith, c.slice_known-3-1.given k)) (sym c.fits.ensures ∙ c.if-not-fits.false) c.if-history-lt-HISTORY_SIZE.false (sym c.entries_fit.ensures ∙ c.if-not-entries_fit.false) c.if-slip-desk.false c.if-desk-eq1.true

pub returns-then-is_malformed : goal.returns-then-is_malformed
returns-then-is_malformed c = is_malformed_lem _ _ _ _ _ _ (λ k l. omega (arith, c.slice_known-1.given k)) (λ k l. omega (arith, c.slice_known-3-1.given k)) (sym c.fits.ensures ∙ c.if-not-fits.false) c.if-history-lt-HISTORY_SIZE.false (sym c.entries_fit.ensures ∙ c.if-not-entries_fit.false) c.if-slip-desk.false c.if-desk-eq1.false (sym c.is_malformed.ensures ∙ c.if-is_malformed.true)

pub act-requires : goal.act-requires
act-requires c = let a = c.args in let f = facts a.desk.now a.sheet.now a.seen.now (sym c.fits.ensures ∙ c.if-not-fits.false) in let n = number_facts a.desk.now a.sheet.now a.seen.now (sym c.fits.ensures ∙ c.if-not-fits.false) in
    (fit_cored a.desk.now a.sheet.now a.seen.now a.history.now (sym c.fits.ensures ∙ c.if-not-fits.false) (sym c.entries_fit.ensures ∙ c.if-not-entries_fit.false) (λ k l. omega (arith, c.slice_known-1.given k)) (λ k l. omega (arith, c.slice_known-3-1.given k)), f.square, n.long, (well_formed a.bytes.now (sym c.is_malformed.ensures ∙ c.if-is_malformed.false)), fit_crossed a.desk.now a.sheet.now a.seen.now a.history.now (sym c.fits.ensures ∙ c.if-not-fits.false) (sym c.entries_fit.ensures ∙ c.if-not-entries_fit.false) (λ k l. omega (arith, c.slice_known-1.given k)) (λ k l. omega (arith, c.slice_known-3-1.given k)) c.if-history-lt-HISTORY_SIZE.false)

pub returns-in_err-act : goal.returns-in_err-act
returns-in_err-act c =
    let e = err_from_is_err_and c.from_residual.result c.from_residual.ensures.1 in
    rw (e.1, e.2) (is_refused _ _ _ _ _ _ (λ k l. omega (arith, c.slice_known-1.given k)) (λ k l. omega (arith, c.slice_known-3-1.given k)) (sym c.fits.ensures ∙ c.if-not-fits.false) c.if-history-lt-HISTORY_SIZE.false (sym c.entries_fit.ensures ∙ c.if-not-entries_fit.false) c.if-slip-desk.false c.if-desk-eq1.false c.in_err-act.ensures (refusal_some _))

pub count_record-requires : goal.count_record-requires
count_record-requires c = let a = c.args in count_ready a.desk.now a.sheet.now a.seen.now a.history.now a.slip.now a.bytes.now (λ k l. omega (arith, c.slice_known-1.given k)) (λ k l. omega (arith, c.slice_known-3-1.given k)) (sym c.fits.ensures ∙ c.if-not-fits.false) c.if-history-lt-HISTORY_SIZE.false (sym c.entries_fit.ensures ∙ c.if-not-entries_fit.false) c.if-slip-desk.false c.if-desk-eq1.false c.in_ok-act.ensures refl

pub bounds-bytes-2 : goal.bounds-bytes-2
bounds-bytes-2 c = let a = c.args in let w = (well_formed a.bytes.now (sym c.is_malformed.ensures ∙ c.if-is_malformed.false)) in let l = w.long in omega arith

pub conclude-requires : goal.conclude-requires
conclude-requires c = let a = c.args in let ready =
    conclude_ready a.desk.now a.sheet.now a.seen.now a.history.now a.slip.now a.bytes.now (λ k l. omega (arith, c.slice_known-1.given k)) (λ k l. omega (arith, c.slice_known-3-1.given k)) (sym c.fits.ensures ∙ c.if-not-fits.false) c.if-history-lt-HISTORY_SIZE.false (sym c.entries_fit.ensures ∙ c.if-not-entries_fit.false) c.if-slip-desk.false c.if-desk-eq1.false c.in_ok-act.ensures refl c.count_record.ensures in
    (ready.0, (well_formed a.bytes.now (sym c.is_malformed.ensures ∙ c.if-is_malformed.false)).core, ready.1, ready.2, ready.3)

pub returns : goal.returns
returns c = is_validated _ _ _ _ _ _ (λ k l. omega (arith, c.slice_known-1.given k)) (λ k l. omega (arith, c.slice_known-3-1.given k)) (sym c.fits.ensures ∙ c.if-not-fits.false) c.if-history-lt-HISTORY_SIZE.false (sym c.entries_fit.ensures ∙ c.if-not-entries_fit.false) c.if-slip-desk.false c.if-desk-eq1.false c.in_ok-act.ensures refl c.count_record.ensures c.conclude.ensures
