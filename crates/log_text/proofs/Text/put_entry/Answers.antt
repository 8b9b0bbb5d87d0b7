-- `log_text::Text::put_entry` meets its contract. Assumes nothing.
use mathlib.Core.Path.{ap, sym}
use native.Mathlib.Omega.{arith}
use Rattle.log_text.proofs.Lines.{length_kind, entry_put}
use Rattle.log_text.specs.Text.{digits}
use Rattle.log_text.proofs.Digits.{places_of_byte}
use Rattle.log_text.proofs.Writing.{as_text, kept}
use Rattle.log_text.proofs.Text.put_entry.Goals as goal

pub put_number-requires : goal.put_number-requires
put_number-requires c = omega (arith, places_of_byte c.from.result (omega arith))

pub put_kind-requires : goal.put_kind-requires
put_kind-requires c =
    let p = c.put_number.ensures.put in
    omega (arith, p.end_is, kept p, places_of_byte c.from.result (omega arith))

pub put_number-requires-2 : goal.put_number-requires-2
put_number-requires-2 c =
    let p = c.put_number.ensures.put in
    let q = c.put_kind.ensures.put in
    omega (arith, p.end_is, kept p, q.end_is, kept q, places_of_byte c.from.result (omega arith), places_of_byte c.from-2.result (omega arith), length_kind c.args.kind)

pub put_source-requires : goal.put_source-requires
put_source-requires c =
    let p = c.put_number.ensures.put in
    let q = c.put_kind.ensures.put in
    let r = c.put_number-2.ensures.put in
    omega
    (arith, p.end_is, kept p, q.end_is, kept q, r.end_is, kept r, places_of_byte c.from.result (omega arith), places_of_byte c.from-2.result (omega arith), length_kind c.args.kind)

pub returns-clause-put : goal.returns-clause-put
returns-clause-put c =
    entry_put (omega arith) (omega arith)
    (as_text (ap digits (sym c.from.ensures)) c.put_number.ensures.put)
    c.put_kind.ensures.put
    (as_text (ap digits (sym c.from-2.ensures)) c.put_number-2.ensures.put)
    c.put_source.ensures.put
