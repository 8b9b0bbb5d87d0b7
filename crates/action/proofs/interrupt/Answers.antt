-- `action::interrupt` meets its contract. Assumes nothing.
use mathlib.Core.Path.{◌≡◌, refl, sym, ◌∙◌}
use mathlib.Core.Bool.{Bool}
use mathlib.Core.Logic.{inl, inr}
use Prim.Native.Nat.{ℕ, ◌+◌, ◌-◌}
use native.Mathlib.Omega.{arith}
use Rattle.rules.specs.Context.{next_state, leaves_handler}
use Rattle.context.proofs.States.{event_number_less}
use Rattle.action.proofs.Outcomes.{interrupt_no_transition, interrupt_count_full, interrupt_accepts}
use Rattle.action.proofs.interrupt.Goals as goal

-- What the event does, said of the record's kind.
by_kind : (k e to s s' : ℕ) → k ≡ 2 + e → to ≡ next_state s' e → s' ≡ s → to ≡ next_state s (k - 2)
by_kind k e to s s' h n t = let i : k - 2 ≡ e = omega arith in rw (i, sym t) n

leaves_by_kind : (k e : ℕ) (b : Bool) → k ≡ 2 + e → leaves_handler e ≡ b → leaves_handler (k - 2) ≡ b
leaves_by_kind k e b h l = let i : k - 2 ≡ e = omega arith in rw i l

pub returns-in_default : goal.returns-in_default
returns-in_default c =
    let p = c.requires in
    let l = event_number_less c.args.event in
    λ sheet seen. interrupt_no_transition _ sheet seen _ _ p.2 p.0.few (omega arith) (omega arith) (sym (by_kind _ _ _ _ _ p.3 c.in_default.ensures.number c.state_of.ensures))

pub returns-then-is_full : goal.returns-then-is_full
returns-then-is_full c =
    let p = c.requires in
    let l = event_number_less c.args.event in
    let s = c.in-Some.ensures.is_state in
    let t = by_kind _ _ _ _ _ p.3 c.in-Some.ensures.number c.state_of.ensures in
    let h = leaves_by_kind _ _ _ p.3 (sym c.leaves_handler.ensures ∙ c.if-leaves_handler.false) in
    λ sheet seen. interrupt_count_full _ sheet seen _ _ p.2 p.0.few (omega arith) (omega arith) (λ z. omega (arith, t ∙ z)) (inl h) (sym c.is_full.ensures ∙ c.if-is_full.true)

pub returns : goal.returns
returns c =
    let p = c.requires in
    let l = event_number_less c.args.event in
    let s = c.in-Some.ensures.is_state in
    let t = by_kind _ _ _ _ _ p.3 c.in-Some.ensures.number c.state_of.ensures in
    let h = leaves_by_kind _ _ _ p.3 (sym c.leaves_handler.ensures ∙ c.if-leaves_handler.false) in
    λ sheet seen. rw (c.from.ensures, t) (interrupt_accepts _ sheet seen _ _ p.2 p.0.few (omega arith) (omega arith) (λ z. omega (arith, t ∙ z)) (inl h) (sym c.is_full.ensures ∙ c.if-is_full.false) (inr (h, refl)))
