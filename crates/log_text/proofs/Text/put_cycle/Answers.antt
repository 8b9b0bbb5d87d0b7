use mathlib.Core.Path.{◌≡◌, refl, subst, ◌∙◌}
use Prim.Native.Nat.{ℕ}
use native.Mathlib.Omega.{arith}
use lib.ListN.{length, get_or}
use Rattle.log_text.proofs.Lines.{long, started, turn}
use Rattle.log_text.proofs.Writing.{kept}
use Rattle.layout.proofs.Slips.{next_below}
use Rattle.log_text.specs.Text.{lines_of, Appended}
use Rattle.layout.specs.Slip.{entries_of}
use Rattle.log_text.proofs.Text.put_cycle.Goals as goal

pub loop-i-init : goal.loop-i-init
loop-i-init c = let a = c.args in (omega arith, started a.slip.now a.self.now.out.now a.self.now.end (omega arith), refl)

pub bounds-slip-to : goal.bounds-slip-to
bounds-slip-to c = omega (arith, c.next_entry-to.ensures, next_below (get_or c.args.slip.now 0 0) c.loop-i.i (omega arith))

pub put_entry-requires : goal.put_entry-requires
put_entry-requires c = omega (arith, kept c.loop-i.invariant.1, c.loop-i.invariant.0)

pub loop-i-preserved : goal.loop-i-preserved
loop-i-preserved c =
    let a = c.args in
    let p = c.put_entry.ensures.put in (
      omega (arith, p.short, c.loop-i.invariant.0),
      turn a.slip.now a.self.now.out.now _ _ a.self.now.end c.loop-i.self.end c.next_entry-to.result _ c.loop-i.i (omega arith)
          c.next_entry-to.ensures c.loop-i.invariant.1 p,
      c.put_entry.ensures.same ∙ c.loop-i.invariant.2,
    )

pub returns-clause-same : goal.returns-clause-same
returns-clause-same c = c.loop-i.invariant.2

pub returns-clause-put : goal.returns-clause-put
returns-clause-put c =
    let a = c.args in
    let e : c.loop-i.i ≡ length (entries_of a.slip.now) = omega (arith, long a.slip.now) in
    subst (λ (n : ℕ). Appended a.self.now.out.now a.self.now.end (lines_of (entries_of a.slip.now) n) c.loop-i.self.out.now c.loop-i.self.end) e c.loop-i.invariant.1
