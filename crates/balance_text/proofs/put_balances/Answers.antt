use mathlib.Core.Path.{◌≡◌, refl, subst, ◌∙◌}
use Prim.Native.Nat.{ℕ}
use native.Mathlib.Omega.{arith}
use lib.IntN.{pos}
use lib.ListN.{get_or}
use Rattle.rules.specs.Limits.{max_classes}
use Rattle.log_text.specs.Text.{Appended}
use Rattle.log_text.proofs.Writing.{kept}
use Rattle.balance.proofs.Counting.{reads_back}
use Rattle.balance_text.specs.Text.{lines_below}
use Rattle.balance_text.proofs.Balances.{begun, line_more}
use Rattle.balance_text.proofs.put_balances.Goals as goal

pub loop-class-init : goal.loop-class-init
loop-class-init c =
    let t = c.args.text.now in
    (omega arith, begun (λ k. get_or c.args.balances.now k (pos 0)) t.out.now t.end (omega arith), refl)

pub put_line-requires : goal.put_line-requires
put_line-requires c = (omega (arith, kept c.loop-class.invariant.1, c.loop-class.invariant.0), omega arith)

pub loop-class-preserved : goal.loop-class-preserved
loop-class-preserved c =
    let l = c.loop-class in
    let p = c.put_line.ensures in
    let b = c.args.balances.now in
    let small = c.requires.1.room l.class c.loop-class-test.true in (
      omega (arith, p.put.short, l.invariant.0),
      line_more (λ k. get_or b k (pos 0)) l.class _ (reads_back (get_or b l.class (pos 0)) (omega (arith, small))) l.invariant.1 p.put,
      p.same ∙ l.invariant.2,
    )

pub returns-clause-same : goal.returns-clause-same
returns-clause-same c = c.loop-class.invariant.2

pub returns-clause-put : goal.returns-clause-put
returns-clause-put c =
    let l = c.loop-class in
    let b = c.args.balances.now in
    let t = c.args.text.now in
    let e : l.class ≡ max_classes = omega arith in
    subst (λ (n : ℕ). Appended t.out.now t.end (lines_below n (λ k. get_or b k (pos 0))) l.text.out.now l.text.end) e l.invariant.1
