-- `log_text::Text::put_refused` meets its contract. Assumes nothing.
use mathlib.Core.Path.{ap, sym}
use native.Mathlib.Omega.{arith}
use Rattle.log_text.specs.Text.{refused_text, digits}
use Rattle.log_text.proofs.Digits.{places_of_word, places_of_byte}
use Rattle.log_text.proofs.Writing.{appended_both, as_text, kept}
use Rattle.log_text.proofs.Text.put_refused.Goals as goal

pub put_number-requires : goal.put_number-requires
put_number-requires c =
    let p = c.put_word.ensures.put in
    omega (arith, p.end_is, kept p, places_of_byte c.from.result (omega arith))

pub put_word-requires-2 : goal.put_word-requires-2
put_word-requires-2 c =
    let p = c.put_word.ensures.put in
    let q = c.put_number.ensures.put in
    omega (arith, p.end_is, kept p, q.end_is, kept q, places_of_byte c.from.result (omega arith))

pub put_number-requires-2 : goal.put_number-requires-2
put_number-requires-2 c =
    let p = c.put_word.ensures.put in
    let q = c.put_number.ensures.put in
    let r = c.put_word-2.ensures.put in
    omega (arith, p.end_is, kept p, q.end_is, kept q, r.end_is, kept r, places_of_byte c.from.result (omega arith), places_of_word c.args.number (omega arith))

pub put_word-requires-3 : goal.put_word-requires-3
put_word-requires-3 c =
    let p = c.put_word.ensures.put in
    let q = c.put_number.ensures.put in
    let r = c.put_word-2.ensures.put in
    let s = c.put_number-2.ensures.put in
    omega
    (arith, p.end_is, kept p, q.end_is, kept q, r.end_is, kept r, s.end_is, kept s, places_of_byte c.from.result (omega arith), places_of_word c.args.number (omega arith))

pub returns-clause-put : goal.returns-clause-put
unfolding refused_text
returns-clause-put c =
    let answer = as_text (ap digits (sym c.from.ensures)) c.put_number.ensures.put in
    appended_both (appended_both (appended_both (appended_both c.put_word.ensures.put answer) c.put_word-2.ensures.put) c.put_number-2.ensures.put) c.put_word-3.ensures.put
