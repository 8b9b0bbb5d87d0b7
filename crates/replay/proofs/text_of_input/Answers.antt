use Rattle.std.proofs.Common.{arith}
use Rattle.files.proofs.Reading.{shown}
use Rattle.replay.proofs.text_of_input.Goals as goal

pub put_text-size-requires : goal.put_text-size-requires
put_text-size-requires g c = (omega arith, omega arith, shown c.replay-outcome.ensures)
