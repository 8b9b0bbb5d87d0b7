-- `balance::is_refused` meets its contract. Assumes nothing.
use borrow.Author.Tests.{lt-ltb, le-ltb}
use lib.ListN.{length}
use Rattle.balance.specs.Piece.{most_bytes, is_refused}
use Rattle.balance.proofs.is_refused.Goals as goal

pub returns-then-piece-gt-MOST_BYTES : goal.returns-then-piece-gt-MOST_BYTES
unfolding is_refused
returns-then-piece-gt-MOST_BYTES c = simp (lt-ltb most_bytes (length c.args.piece.now) c.if-piece-gt-MOST_BYTES.true)

pub returns-else-piece-gt-MOST_BYTES : goal.returns-else-piece-gt-MOST_BYTES
unfolding is_refused
returns-else-piece-gt-MOST_BYTES c = simp (le-ltb most_bytes (length c.args.piece.now) c.if-piece-gt-MOST_BYTES.false)
