-- `progress::load` meets its contract. Assumes nothing.
use Rattle.progress.proofs.Bytes.{viewed}
use mathlib.Core.Path.{sym}
use native.Mathlib.Omega.{arith}
use lib.ListN.{get_or, drop, length-drop}
use lib.Seq.{length-take-le}
use Rattle.progress.specs.Feed.{count_at, loose_at}
use Rattle.progress.proofs.load.Goals as goal

pub returns : goal.returns
returns c =
    let feed = c.args.feed.now in
    let same = c.loose_of.ensures.same (get_or feed count_at 0) c.requires.1 in (
      viewed feed _ _ same c.word_at.ensures,
      rw same (sym (length-take-le (get_or feed count_at 0) (drop loose_at feed) (simp length-drop (omega (arith, c.requires.0, c.requires.1))))),
      c.requires.1,
    )
