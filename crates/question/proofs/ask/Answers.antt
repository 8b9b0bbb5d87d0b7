use Rattle.question.proofs.Asks.{asked_unfit, asked_no_class, asked_answered}
use mathlib.Core.Path.{sym, ◌∙◌}
use native.Mathlib.Omega.{arith}
use Rattle.fit.proofs.Facts.{facts}
use Rattle.question.proofs.ask.Goals as goal

pub returns-then-not-fits : goal.returns-then-not-fits
returns-then-not-fits c = asked_unfit _ _ _ _ (sym c.fits.ensures ∙ c.if-not-fits.true)

pub bounds-desk-0 : goal.bounds-desk-0
bounds-desk-0 c =
    let f = facts _ _ _ (sym c.fits.ensures ∙ c.if-not-fits.false) in let l = f.long in omega arith

pub overflow_cast-k : goal.overflow_cast-k
overflow_cast-k c =
    let f = facts _ _ _ (sym c.fits.ensures ∙ c.if-not-fits.false) in let l = f.few in omega arith

pub returns-then-from-class : goal.returns-then-from-class
returns-then-from-class c =
    asked_no_class _ _ _ _ (sym c.fits.ensures ∙ c.if-not-fits.false) (rw c.from.ensures at c.if-from-class.true)

pub overflow_cast-k-2 : goal.overflow_cast-k-2
overflow_cast-k-2 c =
    let f = facts _ _ _ (sym c.fits.ensures ∙ c.if-not-fits.false) in let l = f.few in omega arith

pub put_successors-requires : goal.put_successors-requires
put_successors-requires c =
    let f = facts _ _ _ (sym c.fits.ensures ∙ c.if-not-fits.false) in record { long = f.long; few = f.few; room = f.square }

pub returns : goal.returns
returns c =
    asked_answered _ _ _ _ _ _ _ (λ k l. omega (arith, c.type_inv.desk k)) (λ k l. omega (arith, c.type_inv.seen k)) (sym c.fits.ensures ∙ c.if-not-fits.false) (rw c.from.ensures at c.if-from-class.false) c.put_successors.ensures c.reach-word.ensures c.count-count.ensures.0
