use mathlib.Core.Path.{◌≡◌, ◌∙◌, ap₂}
use Prim.Native.Nat.{ℕ}
use native.Mathlib.Omega.{arith}
use Rattle.layout.specs.Layout.{number_of}
use Rattle.layout.specs.Decoding.{number_by}
use Rattle.shortest.specs.Shortest.{found_at}
use Rattle.report.proofs.Writing.{next_by_rem, writing_step, first_byte, shown}
use Rattle.report.proofs.show.Goals as goal

pub loop-i-preserved : goal.loop-i-preserved
loop-i-preserved c =
    writing_step _ _ c.loop-i.invariant c.kind_byte.ensures c.source_byte-source.ensures
    (c.number_by-number.ensures
    ∙ ap₂ (λ (s p : ℕ). number_by s (number_of c.args.seen.now c.args.k (found_at c.args.found.now c.loop-i.i).class (found_at c.args.found.now p).class))
    c.source_byte-source.ensures (next_by_rem c.args.found.now.n c.loop-i.i c.loop-i-test.true))
    c.write_entry.ensures

pub returns : goal.returns
returns c =
    let e : c.loop-i.i ≡ c.args.found.now.n = omega arith in
    shown _ _ (rw e at c.loop-i.invariant) (first_byte c.args.slip.now c.args.found.now.n)
