use native.Mathlib.Omega.{arith}
use Rattle.words.proofs.Words.{bit_two, bit_zero}
use Rattle.successors.specs.Successors.{mark_digit}
use Rattle.successors.proofs.picked.Goals as goal

pub returns-then-digit-eq1 : goal.returns-then-digit-eq1
returns-then-digit-eq1 c t =
    let b = bit_two c.args.word t in
    let e = rw c.digit_of.ensures at c.digit.ensures in
    omega arith

pub returns-else-digit-eq1 : goal.returns-else-digit-eq1
returns-else-digit-eq1 c t =
    let b = bit_two c.args.byte (mark_digit c.args.level c.args.mark) in
    let z = bit_zero t in
    let e = rw c.digit_of.ensures at c.digit.ensures in
    omega arith
