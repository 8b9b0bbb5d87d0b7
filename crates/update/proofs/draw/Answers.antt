use Prim.Native.Nat.{ℕ, ◌+◌, ◌*◌, ◌%◌, ◌<◌}
use native.Mathlib.Omega.{arith}
use lib.ListN.{length, get_or}
use Rattle.layout.specs.Layout.{held_of, depth_of}
use Rattle.layout.proofs.Buffers.{cell_inside}
use Rattle.update.proofs.Drawing.{drawing_step, drawing_done}
use Rattle.update.proofs.Notes.{noting_step, noting_done}
use Rattle.update.proofs.draw.Goals.{In-loop-held}
use Rattle.update.proofs.draw.Goals as goal

-- In the loop.
inside : (c : In-loop-held) → c.loop-held.held-index < depth_of c.args.desk.now c.args.frame
inside c = omega (arith, c.held_bytes-held-items.ensures.long)

cell : (c : In-loop-held) → get_or c.held_bytes-held-items.result.now c.loop-held.held-index 0 % 64 * c.args.k + c.args.class < length c.loop-held.sheet
cell c =
    let p = c.requires in
    let a = c.args in
    let i : ℕ = c.loop-held.held-index in
    let h = cell_inside a.k (held_of a.desk.now a.frame i % 64) a.class (p.0.class i (inside c)) p.3 in
    rw (c.held_bytes-held-items.ensures.byte i (inside c)) (omega (arith, c.loop-held.invariant.0.keeps.long, p.1))

pub bounds-sheet-at : goal.bounds-sheet-at
bounds-sheet-at c = cell (goal.at.bounds-sheet-at c).In-loop-held

pub bounds-sheet-at-in-loop-held : goal.bounds-sheet-at-in-loop-held
bounds-sheet-at-in-loop-held c = cell (goal.at.bounds-sheet-at-in-loop-held c).In-loop-held

pub loop-held-preserved : goal.loop-held-preserved
loop-held-preserved c =
    let p = c.requires in
    let l = c.loop-held in
    let at = (goal.at.loop-held-preserved c).In-loop-held in
    let i : ℕ = l.held-index in
    let byte = c.held_bytes-held-items.ensures.byte i (inside at) in (
      rw (c.kind_bit.ensures, byte)
          (drawing_step _ _ _ _ _ _ c.if-mode-ge-TRY.false i _ l.invariant.0 (inside at) (omega (arith, inside at, p.0.depth)) p.3 (p.0.class i (inside at)) p.1),
      noting_step l.invariant.1 _ _ (cell at),
    )

pub returns : goal.returns
returns c =
    let l = c.loop-held in
    (drawing_done _ _ _ _ _ _ c.if-mode-ge-TRY.false _ _ l.invariant.0 (omega (arith, c.held_bytes-held-items.ensures.long)), noting_done l.invariant.1)
