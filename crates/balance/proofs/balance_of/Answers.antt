use mathlib.Core.Path.{refl, sym, ◌∙◌}
use native.Mathlib.Omega.{arith}
use Rattle.balance.specs.Piece.{for_each_class}
use Rattle.balance.proofs.Adding.{passes}
use Rattle.balance.proofs.Walking.{none_walked, one_more, walked_room, all_walked}
use Rattle.balance.proofs.balance_of.Goals as goal

pub returns-then-is_refused : goal.returns-then-is_refused
unfolding for_each_class
returns-then-is_refused c =
    let e = sym c.is_refused.ensures ∙ c.if-is_refused.true in
    record { number = rw e refl; numbers = rw e refl }

pub loop-bytes-init : goal.loop-bytes-init
unfolding for_each_class
loop-bytes-init c =
    let e = c.into_iter-bytes-iterator.ensures.into_iter_gives in
    rw e (record { size = c.chunks_exact-bytes-items.ensures.size; walked = rw c.chunks_exact-bytes-items.ensures.rest (none_walked c.args.piece.now) })

pub count_record-requires : goal.count_record-requires
count_record-requires c =
    walked_room c.args.piece.now c.loop-bytes.invariant.walked (passes c.args.piece.now (sym c.is_refused.ensures ∙ c.if-is_refused.false)).0

pub loop-bytes-preserved : goal.loop-bytes-preserved
loop-bytes-preserved c =
    let s = c.in-Some.ensures.steps in
    let i = c.loop-bytes.invariant in
    record {
      size = s.0 ∙ i.size;
      walked = rw c.count_record.ensures (one_more c.args.piece.now c.in-Some.bytes.now i.walked s.1.0 (s.1.1 ∙ i.size));
    }

pub returns : goal.returns
returns c =
    let i = c.loop-bytes.invariant in
    let e = sym c.is_refused.ensures ∙ c.if-is_refused.false in
    let l = c.in-None.ensures.steps.1.0 in
    record {
      number = rw e refl;
      numbers = rw e (all_walked c.args.piece.now i.walked (passes c.args.piece.now e).1 (omega (arith, l, i.size)));
    }
