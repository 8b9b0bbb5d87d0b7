-- The invariant: the pieces read so far were fed. Assumes nothing.
use Rattle.validator.specs.Calls.{buffers}
use Rattle.files.specs.Replayed.{Taken}
use Rattle.files.proofs.feed_input.Given as goal

abbrev pub invariant-loop : goal.invariant-loop
invariant-loop g l =
    Taken l.initial.feed (buffers l.initial.desk l.initial.sheet l.initial.seen l.initial.history l.initial.slip) l.feed (buffers l.desk l.sheet l.seen l.history l.slip)
