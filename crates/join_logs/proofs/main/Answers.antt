use Rattle.std.proofs.Common.{arith}
use Rattle.files.proofs.Reading.{shown}
use Rattle.join_logs.proofs.main.Goals as goal

pub tell_own-requires : goal.tell_own-requires
tell_own-requires c = (omega arith, omega arith, shown c.replay_log-one.ensures)

pub tell_own-requires-2 : goal.tell_own-requires-2
tell_own-requires-2 c = (omega arith, omega arith, shown c.replay_log-two.ensures)
