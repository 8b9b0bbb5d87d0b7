use mathlib.Core.Path.{ap}
use Prim.Native.Nat.{◌+◌, ◌<◌, ◌/◌}
use native.Mathlib.Nat.{div-lt_self}
use native.Mathlib.Omega.{arith}
use lib.ListN.{length}
use mathlib.Core.Path.{◌≡◌}
use Rattle.log_text.proofs.Digits.{digits_one, length_more}
use Rattle.log_text.proofs.Writing.{kept, one_placed, more_placed}
use Rattle.log_text.proofs.Text.+put_number.Goals as goal
use Rattle.log_text.proofs.Text.+put_number.Goals.{then-n-ge10, else-n-ge10}

pub put_number-requires : goal.put_number-requires
put_number-requires t c =
    let d : c.args.n / 10 < c.args.n = div-lt_self (omega arith) (omega arith) in
    (omega (arith, c.decreases), omega (arith, c.requires, length_more c.args.n c.if-n-ge10.true))

pub bounds-self-self : goal.bounds-self-self
bounds-self-self t c =
    elim c.if-n-ge10.branch [
      | then-n-ge10 w ↦ let p = w.put_number.ensures.put in rw w.self-is (omega (arith, p.end_is, kept p, c.requires, length_more c.args.n w.if-n-ge10.true))
      | else-n-ge10 w ↦ rw w.self-is (omega (arith, c.requires, ap length (digits_one c.args.n w.if-n-ge10.false)))
    ]

pub returns-clause-put : goal.returns-clause-put
returns-clause-put t c =
    elim c.if-n-ge10.branch [
      | then-n-ge10 w ↦
          let p = w.put_number.ensures.put in
          rw w.self-is
          (more_placed _ _ _ _ _ _ w.if-n-ge10.true p (omega (arith, p.end_is, kept p, c.requires, length_more c.args.n w.if-n-ge10.true)) c.numeral.ensures)
      | else-n-ge10 w ↦
          let l : c.args.n < 10 = w.if-n-ge10.false in
          let e : c.numeral.result ≡ 48 + c.args.n = omega (arith, c.numeral.ensures) in
          rw w.self-is (one_placed _ _ _ _ l c.requires e)
    ]
