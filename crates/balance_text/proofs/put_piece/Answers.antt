-- `balance_text::put_piece` meets its contract. Assumes nothing.
use mathlib.Core.Path.{refl}
use Rattle.answers.proofs.Numbers.{refusal_some}
use Rattle.log_text.proofs.Writing.{as_text}
use Rattle.balance_text.proofs.Balances.{text_refused, text_balances, room_given}
use Rattle.balance_text.proofs.put_piece.Goals as goal

pub returns-in-Err-clause-put : goal.returns-in-Err-clause-put
returns-in-Err-clause-put c =
    as_text (rw (c.number.ensures) (text_refused c.args.piece.now (rw c.in-Err.is at c.balance_of.ensures) (refusal_some c.in-Err.refusal))) c.put_refusal.ensures.put

pub put_balances-requires : goal.put_balances-requires
put_balances-requires c =
    (c.requires, room_given c.args.piece.now c.balance_of.ensures (rw c.in_default.is refl))

pub returns-clause-put : goal.returns-clause-put
returns-clause-put c =
    as_text (text_balances c.args.piece.now c.balance_of.ensures (rw c.in_default.is refl)) c.put_balances.ensures.put
