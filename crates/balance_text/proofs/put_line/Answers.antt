-- `balance_text::put_line` meets its contract. Assumes nothing.
use native.Mathlib.Omega.{arith}
use Rattle.log_text.proofs.Digits.{places_of_byte}
use Rattle.log_text.proofs.Writing.{kept}
use Rattle.balance_text.proofs.Balances.{signed_short, line_put, nothing_put}
use Rattle.balance_text.proofs.put_line.Goals as goal

pub returns-then-balance-eq0-clause-put : goal.returns-then-balance-eq0-clause-put
returns-then-balance-eq0-clause-put c =
    nothing_put c.args.balance c.ranges.balance c.args.text.now.out.now c.args.text.now.end c.args.class c.requires.0 c.if-balance-eq0.true

pub put_number-requires : goal.put_number-requires
put_number-requires c = omega (arith, places_of_byte c.args.class (omega arith))

pub put_word-requires : goal.put_word-requires
put_word-requires c =
    let p = c.put_number.ensures.put in
    omega (arith, p.end_is, kept p, places_of_byte c.args.class (omega arith))

pub put_signed-requires : goal.put_signed-requires
put_signed-requires c =
    let p = c.put_number.ensures.put in
    let q = c.put_word.ensures.put in
    omega (arith, p.end_is, kept p, q.end_is, kept q, places_of_byte c.args.class (omega arith))

pub put_word-requires-2 : goal.put_word-requires-2
put_word-requires-2 c =
    let p = c.put_number.ensures.put in
    let q = c.put_word.ensures.put in
    let r = c.put_signed.ensures.put in
    omega
    (arith, p.end_is, kept p, q.end_is, kept q, r.end_is, kept r, places_of_byte c.args.class (omega arith), signed_short c.args.balance c.ranges.balance)

pub returns-clause-put : goal.returns-clause-put
returns-clause-put c =
    line_put c.args.balance c.ranges.balance c.requires.1 c.if-balance-eq0.false c.put_number.ensures.put c.put_word.ensures.put c.put_signed.ensures.put
    c.put_word-2.ensures.put
