-- `log_text::Text::put_refusal` meets its contract. Assumes nothing.
use mathlib.Core.Path.{ap}
use native.Mathlib.Omega.{arith}
use Rattle.log_text.specs.Text.{digits, refused_line}
use Rattle.log_text.proofs.Digits.{places_of_byte}
use Rattle.log_text.proofs.Writing.{appended_both, as_text, kept}
use Rattle.log_text.proofs.Text.put_refusal.Goals as goal

pub put_number-requires : goal.put_number-requires
put_number-requires c =
    let p = c.put_word.ensures.put in
    omega (arith, p.end_is, kept p, places_of_byte c.from.result (omega arith))

pub put_word-requires-2 : goal.put_word-requires-2
put_word-requires-2 c =
    let p = c.put_word.ensures.put in
    let q = c.put_number.ensures.put in
    omega (arith, p.end_is, kept p, q.end_is, kept q, places_of_byte c.from.result (omega arith))

pub returns-clause-put : goal.returns-clause-put
unfolding refused_line
returns-clause-put c =
    appended_both (appended_both c.put_word.ensures.put (as_text (ap digits (omega (arith, c.from.ensures))) c.put_number.ensures.put)) c.put_word-2.ensures.put
