-- `progress::save` meets its contract. Assumes nothing.
use mathlib.Core.Path.{sym, ap, ◌∙◌}
use Prim.Native.Nat.{ℕ}
use native.Mathlib.Omega.{arith}
use lib.ListN.{replicate, length-drop, length-set}
use lib.Seq.{length-take-le}
use Rattle.progress.specs.Code.{feed_of}
use Rattle.progress.proofs.Bytes.{length_loose, written}
use Rattle.progress.proofs.save.Goals as goal

pub returns : goal.returns
returns c =
    let p = c.args.p in
    let n = sym (length_loose p.loose p.count (omega arith) c.requires.1) in
    let z = c.fill.ensures.after (λ y e. e) ∙ ap (λ (m : ℕ). replicate m 0) (length-take-le 11 _ (simp (length-drop, length-set) (omega (arith, c.requires.0)))) in
    rw c.copy_from_slice.ensures.after
    (written (feed_of p) c.args.feed.now _ _ _ p.count _ c.requires.0 n c.requires.1 (omega arith) c.from.ensures z (c.copy_from_slice-2.ensures.after ∙ c.to_le_bytes.ensures))
