-- `progress::loose_of` meets its contract. Assumes nothing.
use mathlib.Core.Path.{sym}
use native.Mathlib.Omega.{arith}
use lib.ListN.{drop, length-drop}
use lib.Seq.{length-take-le}
use Rattle.progress.proofs.Bytes.{copied_in}
use Rattle.progress.proofs.loose_of.Goals as goal

pub copy_from_slice-requires : goal.copy_from_slice-requires
copy_from_slice-requires c = sym (length-take-le 11 (drop 3 c.args.feed.now) (simp length-drop (omega arith)))

pub returns : goal.returns
returns c = copied_in c.args.feed.now _ _ c.copy_from_slice.ensures.after c.requires
