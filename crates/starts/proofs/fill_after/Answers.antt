use mathlib.Core.Path.{◌≡◌, sym, ◌∙◌}
use mathlib.Core.Bool.{false≢true}
use native.Mathlib.Omega.{arith}
use Rattle.starts.specs.Levels.{level_words}
use Rattle.starts.proofs.Levels.{words_length, words_set, filling_none, filling_more, filled_some, filled_empty, filled_none, stored_long}
use Rattle.starts.proofs.fill_after.Goals as goal

pub loop-m-init : goal.loop-m-init
loop-m-init c = (omega (arith, words_length c.args.levels.now), filling_none c.home-back.ensures)

pub returns-then-contains : goal.returns-then-contains
returns-then-contains c =
    let i = c.loop-m.invariant in
    (filled_some i.1 (omega (arith, i.0)) c.behind-back.ensures (words_set c.loop-m.levels c.loop-m.m c.loop-m.back) i.0 c.loop-m-test.true (c.contains.ensures.0 c.if-contains.true), omega arith)

pub returns-then-is_empty : goal.returns-then-is_empty
returns-then-is_empty c =
    let i = c.loop-m.invariant in (
      filled_empty i.1 (omega (arith, i.0)) c.behind-back.ensures (words_set c.loop-m.levels c.loop-m.m c.loop-m.back) i.0
          (λ h. false≢true (sym c.if-contains.false ∙ c.contains.ensures.1 h)) (c.is_empty.ensures.0 c.if-is_empty.true),
      tt,
    )

pub loop-m-preserved : goal.loop-m-preserved
loop-m-preserved c =
    let l = c.loop-m in
    let i = l.invariant in
    let e = (words_set c.loop-m.levels c.loop-m.m c.loop-m.back) in
    (stored_long (level_words l.levels) l.m l.back e i.0, filling_more i.1 (omega (arith, i.0)) c.behind-back.ensures e (λ h. false≢true (sym c.if-contains.false ∙ c.contains.ensures.1 h)))

pub returns : goal.returns
returns c =
    let i = c.loop-m.invariant in
    let e : c.loop-m.m ≡ c.args.limit = omega arith in
    (filled_none (rw e at i.1) i.0, tt)
