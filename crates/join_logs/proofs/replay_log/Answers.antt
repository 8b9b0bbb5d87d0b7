use Rattle.files.specs.Replayed.{unread}
use Rattle.join_logs.proofs.replay_log.Goals as goal

pub returns-in-None : goal.returns-in-None
returns-in-None g c = unread
