use Prim.Native.Nat.{ℕ, suc, ◌+◌, ◌*◌, ◌%◌, ◌<◌, ◌≤◌}
use mathlib.Core.Path.{◌≡◌}
use native.Mathlib.Omega.{arith}
use lib.ListN.{length, get_or}
use Rattle.layout.specs.Layout.{number_size, held_of, depth_of, accepted_of}
use Rattle.layout.proofs.Buffers.{cell_inside}
use Rattle.numbering.proofs.Numbering.{pair_as, numbered_none, numbering_start, numbering_step, numbering_done}
use Rattle.numbering.proofs.number_pairs.Goals.{In-loop-held}
use Rattle.numbering.proofs.number_pairs.Goals as goal

pub returns-then-mode-ge-TRY : goal.returns-then-mode-ge-TRY
returns-then-mode-ge-TRY c = numbered_none _ _ _ _ _ _ c.if-mode-ge-TRY.true

pub overflow_add-number : goal.overflow_add-number
overflow_add-number c = let e = c.number_at-number.ensures in omega (arith, c.requires.4)

pub loop-held-init : goal.loop-held-init
loop-held-init c = numbering_start _ _ _ _ _

-- In the loop.
inside : (c : In-loop-held) → c.loop-held.held-index < depth_of c.args.desk.now c.args.frame
inside c = omega (arith, c.held_bytes-held-items.ensures.long)

pair : (c : In-loop-held)
    → number_size * (get_or c.held_bytes-held-items.result.now c.loop-held.held-index 0 % 64 * c.args.k + c.args.class) + number_size ≤ length c.loop-held.seen
pair c =
    let p = c.requires in
    let a = c.args in
    let i : ℕ = c.loop-held.held-index in
    let h = cell_inside a.k (held_of a.desk.now a.frame i % 64) a.class (p.0.class i (inside c)) p.3 in
    rw (c.held_bytes-held-items.ensures.byte i (inside c)) (omega (arith, c.loop-held.invariant.keeps.long, p.1))

pub number_pair-requires : goal.number_pair-requires
number_pair-requires c = pair (goal.at.number_pair-requires c).In-loop-held

pub loop-held-preserved : goal.loop-held-preserved
loop-held-preserved c =
    let p = c.requires in
    let l = c.loop-held in
    let at = (goal.at.loop-held-preserved c).In-loop-held in
    let i : ℕ = l.held-index in
    let byte = c.held_bytes-held-items.ensures.byte i (inside at) in
    let n : c.number_at-number.result + 1 ≡ suc (accepted_of c.args.desk.now) = omega (arith, c.number_at-number.ensures) in
    numbering_step _ _ _ _ _ i _ l.invariant (inside at) (omega (arith, inside at, p.0.depth)) p.3 (p.0.class i (inside at)) p.4 _
    (pair_as n (rw byte at c.number_pair.ensures))

pub returns : goal.returns
returns c =
    numbering_done _ _ _ _ _ _ c.if-mode-ge-TRY.false _ _ c.loop-held.invariant (omega (arith, c.held_bytes-held-items.ensures.long))
