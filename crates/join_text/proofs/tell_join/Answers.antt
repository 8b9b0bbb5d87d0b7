use native.Mathlib.Omega.{arith}
use Rattle.joiner.proofs.Joins.{joined_count}
use Rattle.join_text.proofs.tell_join.Goals as goal

pub put_joined-requires : goal.put_joined-requires
put_joined-requires c =
    (omega (arith, c.requires.0), λ e. joined_count c.join-answer.ensures e, omega (arith, c.requires.1))
