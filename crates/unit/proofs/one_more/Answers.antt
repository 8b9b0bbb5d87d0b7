-- `unit::one_more` meets its contract. Assumes nothing.
use Rattle.unit.proofs.Units.{one_counted, stays_counted}
use Rattle.unit.proofs.one_more.Goals as goal

pub returns-then-number-lt18446744073709551615 : goal.returns-then-number-lt18446744073709551615
returns-then-number-lt18446744073709551615 c = one_counted _ c.if-number-lt18446744073709551615.true

pub returns : goal.returns
returns c = stays_counted _ c.if-number-lt18446744073709551615.false
