-- `action::leave` meets its contract. Assumes nothing.
use mathlib.Core.Path.{sym, ◌∙◌}
use mathlib.Core.Logic.{inl, inr}
use native.Mathlib.Omega.{arith}
use Rattle.rules.specs.Record.{core_of}
use Rattle.layout.proofs.Cross.{kept_is}
use Rattle.cores.proofs.Bytes.{number_less}
use Rattle.action.proofs.Outcomes.{interrupt_still_held, interrupt_count_full, interrupt_accepts}
use Rattle.action.proofs.leave.Goals as goal

pub returns-then-desk-frame-ne0 : goal.returns-then-desk-frame-ne0
returns-then-desk-frame-ne0 c =
    let p = c.requires in
    let L = p.3 in
    λ sheet seen. interrupt_still_held _ sheet seen _ _ p.2 p.0.few L.first L.last (λ z. L.allowed (L.is ∙ z)) L.leaves (rw c.frame_of-frame.ensures at c.if-desk-frame-ne0.true)

pub returns-then-is_full : goal.returns-then-is_full
returns-then-is_full c =
    let p = c.requires in
    let L = p.3 in
    λ sheet seen. interrupt_count_full _ sheet seen _ _ p.2 p.0.few L.first L.last (λ z. L.allowed (L.is ∙ z)) (inr (rw c.frame_of-frame.ensures at c.if-desk-frame-ne0.false)) (sym c.is_full.ensures ∙ c.if-is_full.true)

pub strike-requires : goal.strike-requires
strike-requires c =
    let p = c.requires in
    let k = kept_is p.1.encodes p.1.valid.kept in
    let l = p.1.valid.kept in
    (p.0.encodes.long, omega arith, p.1.long, rw c.frame_of-frame.ensures (number_less c.args.desk.now p.0 (core_of c.args.bytes.now) p.2.core))

pub returns : goal.returns
returns c =
    let p = c.requires in
    let L = p.3 in
    let e = c.frame_of-frame.ensures in
    λ sheet seen. rw (c.from.ensures, L.is) (interrupt_accepts _ sheet seen _ _ p.2 p.0.few L.first L.last (λ z. L.allowed (L.is ∙ z)) (inr (rw e at c.if-desk-frame-ne0.false)) (sym c.is_full.ensures ∙ c.if-is_full.false) (inl (L.leaves, rw e at c.strike.ensures)))
