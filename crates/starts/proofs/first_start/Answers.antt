use mathlib.Core.Path.{◌≡◌, refl, ap}
use Prim.Native.Nat.{ℕ, ◌+◌, ◌*◌}
use native.Mathlib.Omega.{arith}
use Rattle.starts.proofs.Starts.{letter_place, trying_none, tried_none, tried_some}
use Rattle.starts.proofs.first_start.Goals as goal
use Rattle.starts.proofs.first_start.Goals.{in-Some, in_default}

pub loop-class-init : goal.loop-class-init
loop-class-init c = trying_none c.requires.1

pub fill_after-requires : goal.fill_after-requires
fill_after-requires c =
    let o = c.loop-letter.invariant in
    let few = o.begun.few in
    (c.requires.0, c.loop-class-test.true, omega (arith, o.most_is))

pub loop-letter-preserved : goal.loop-letter-preserved
loop-letter-preserved c =
    let i = c.loop-letter.letter-index in
    let e = ap (λ (n : ℕ). 2 * c.loop-class.class + n) (letter_place i _ c.loop-letter-test.true) in
    let o = c.loop-letter.invariant in
    let p : 2 * c.loop-class.class + i + 1 ≡ 2 * c.loop-class.class + (i + 1) = omega arith in
    let f = c.fill_after.ensures in
    elim c.match-fill_after.branch [
      | in-Some w ↦
          let g = rw w.in-Some.is at f in
          rw (w.best-is, w.most-is, ← p) (tried_some _ e o g.0 g.1 c.loop-class-test.true)
      | in_default w ↦
          let g = rw w.in_default.is at f in
          rw (w.best-is, w.most-is, ← p) (tried_none _ e o g.0 refl)
    ]

pub returns : goal.returns
returns c =
    let l = c.loop-class in
    let e : l.class ≡ c.args.k = omega arith in
    let o = l.invariant in
    (rw e at o.begun, o.some)
