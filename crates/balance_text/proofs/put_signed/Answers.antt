-- `balance_text::put_signed` meets its contract. Assumes nothing.
use mathlib.Core.Path.{◌∙◌}
use native.Mathlib.Omega.{arith}
use Rattle.log_text.proofs.Digits.{places_of_word}
use Rattle.log_text.proofs.Writing.{kept}
use Rattle.balance_text.proofs.Signs.{put_below, put_not_below}
use Rattle.balance_text.proofs.put_signed.Goals as goal
use Rattle.balance_text.proofs.put_signed.Goals.{then-z-lt0, else-z-lt0}

pub put_number-requires : goal.put_number-requires
put_number-requires c =
    elim c.if-z-lt0.branch [
      | then-z-lt0 w ↦ let p = w.put_word.ensures.put in rw w.text-is (omega (arith, p.end_is, kept p, places_of_word c.from-size.result (omega arith)))
      | else-z-lt0 w ↦ rw w.text-is (omega (arith, places_of_word c.from-size.result (omega arith)))
    ]

pub returns-clause-put : goal.returns-clause-put
returns-clause-put c =
    let q = c.from-size.ensures ∙ c.unsigned_abs.ensures.value in
    elim c.if-z-lt0.branch [
      | then-z-lt0 w ↦ put_below c.args.z c.ranges.z q w.if-z-lt0.true w.put_word.ensures.put (rw w.text-is at c.put_number.ensures.put)
      | else-z-lt0 w ↦ put_not_below c.args.z c.ranges.z q w.if-z-lt0.false (rw w.text-is at c.put_number.ensures.put)
    ]
