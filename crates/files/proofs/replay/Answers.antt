use Rattle.validator.specs.Calls.{buffers}
use Rattle.files.specs.Replayed.{unread, whole}
use Rattle.files.proofs.Reading.{started_well}
use Rattle.files.proofs.replay.Goals as goal

pub returns-then-is_err : goal.returns-then-is_err
returns-then-is_err g c = unread

pub returns : goal.returns
returns g c =
    let t = c.feed_input.new in
    whole {b' = buffers c.feed_end-said.new.desk c.feed_end-said.new.sheet c.feed_end-said.new.seen c.feed_end-said.new.history c.feed_end-said.new.slip}
    (record {
      before = c.args.feed.now;
      fresh = c.start.new.feed;
      fed = t.feed;
      after = c.feed_end-said.new.feed;
      between = buffers t.desk t.sheet t.seen t.history t.slip;
      answer = c.feed_end-said.result.answer;
      number = c.feed_end-said.result.number;
      started = started_well c.requires c.start.ensures;
      taken = c.feed_input.ensures;
      ended = c.feed_end-said.ensures;
      outcome_is = c.outcome_of.ensures;
    })
