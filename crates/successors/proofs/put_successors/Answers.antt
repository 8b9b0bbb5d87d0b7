use Prim.Native.Nat.{ℕ, ◌+◌}
use mathlib.Core.Path.{◌≡◌, sym, subst}
use mathlib.Core.List.{List}
use native.Mathlib.Omega.{arith}
use Rattle.successors.specs.Successors.{Filled}
use Rattle.successors.proofs.Classes.{filled_none, filled_more}
use Rattle.successors.proofs.Encoded.{successors_law}
use Rattle.successors.proofs.put_successors.Goals as goal

pub loop-class-init : goal.loop-class-init
loop-class-init c =
    let a = c.args in
    (omega arith, filled_none a.desk.now a.sheet.now a.k)

pub loop-class-preserved : goal.loop-class-preserved
loop-class-preserved c =
    let a = c.args in
    let l = c.loop-class in (
      omega arith,
      subst (λ (x : List ℕ). Filled a.desk.now a.sheet.now a.k (l.class + 1) x) (sym c.store.ensures)
          (filled_more a.desk.now a.sheet.now a.k l.class l.rows c.class_words.result (omega arith) l.invariant.1
          c.class_words.ensures),
    )

pub returns : goal.returns
returns c =
    let a = c.args in
    let l = c.loop-class in
    let e : l.class ≡ a.k = omega arith in
    successors_law a.desk.now a.sheet.now a.k l.rows c.requires.few (rw e at l.invariant.1)
