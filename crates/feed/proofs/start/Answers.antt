-- `feed::start` meets its contract. Assumes nothing.
use Rattle.feed.proofs.Turns.{no_room, started}
use Rattle.feed.proofs.start.Goals as goal

pub returns-then-feed-lt-FEED_SIZE : goal.returns-then-feed-lt-FEED_SIZE
returns-then-feed-lt-FEED_SIZE c = no_room _ c.if-feed-lt-FEED_SIZE.true

pub returns : goal.returns
returns c = started c.args.feed.now _ _ c.if-feed-lt-FEED_SIZE.false c.between_units.ensures.0 c.save.ensures
