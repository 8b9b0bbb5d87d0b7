-- `progress::is_step_answer` meets its contract: a law for each range, and for each gap. Assumes nothing.
use native.Mathlib.Omega.{arith}
use Rattle.progress.proofs.Fitness.{low_answer, two, below_late, late, past_late}
use Rattle.progress.proofs.is_step_answer.Goals as goal

pub returns-in-0-to-1 : goal.returns-in-0-to-1
returns-in-0-to-1 c = low_answer _ (λ e. omega arith) (omega arith)

pub returns-in_default : goal.returns-in_default
returns-in_default c = two _ (omega arith)

pub returns-in-0-to-1-2 : goal.returns-in-0-to-1-2
returns-in-0-to-1-2 c = low_answer _ (λ e. omega arith) (omega arith)

pub returns-in_default-2 : goal.returns-in_default-2
returns-in_default-2 c = below_late _ (omega arith) (omega arith)

pub returns-in-0-to-1-3 : goal.returns-in-0-to-1-3
returns-in-0-to-1-3 c = late _ (omega arith) (omega arith)

pub returns-in_default-3 : goal.returns-in_default-3
returns-in_default-3 c = past_late _ (omega arith)
