-- `action::release` meets its contract. Assumes nothing.
use mathlib.Core.Path.{◌≡◌, sym, ◌∙◌}
use Prim.Native.Nat.{ℕ, suc, ◌-◌}
use native.Mathlib.Omega.{arith}
use Rattle.std.proofs.lemmas.Result.{err_from_is_err_and}
use Rattle.answers.proofs.Numbers.{refusal_some}
use Rattle.rules.specs.Record.{core_of, class_of}
use Rattle.cores.proofs.Bytes.{held_in, fitting_inside}
use Rattle.action.proofs.Outcomes.{is_lock, release_not_lock, release_not_held, release_count_full, release_accepts}
use Rattle.action.proofs.release.Goals as goal

-- A place and its number.
place_found : {p n : ℕ} → suc p ≡ n → n ≡ 0 → ⊥
place_found e z = omega arith

place_is : {p n : ℕ} → suc p ≡ n → p ≡ n - 1
place_is e = omega arith

pub returns-in_err-not_lock : goal.returns-in_err-not_lock
returns-in_err-not_lock c =
    let p = c.requires in
    let e = err_from_is_err_and c.from_residual.result c.from_residual.ensures.1 in
    λ sheet seen history. rw (e.1, e.2) (release_not_lock _ sheet seen history _ p.1 p.0.few p.2 _ c.in_err-not_lock.ensures (refusal_some _))

pub returns-in_default : goal.returns-in_default
returns-in_default c =
    let p = c.requires in
    let u = is_lock c.args.desk.now (class_of c.args.bytes.now) (sym c.in_ok-not_lock.ensures) in
    let e = c.frame_of-frame.ensures in
    λ sheet seen history. release_not_held _ sheet seen history _ p.1 p.0.few p.2 u.0 u.1 (rw (e, c.in_default.is) at (sym c.fitting.ensures))

pub returns-then-is_full : goal.returns-then-is_full
returns-then-is_full c =
    let p = c.requires in
    let u = is_lock c.args.desk.now (class_of c.args.bytes.now) (sym c.in_ok-not_lock.ensures) in
    let e = c.frame_of-frame.ensures in
    λ sheet seen history.
    release_count_full _ sheet seen history _ p.1 p.0.few p.2 u.0 u.1 (place_found (rw (e, c.in-Some.is) at c.fitting.ensures)) (sym c.is_full.ensures ∙ c.if-is_full.true)

pub remove-requires : goal.remove-requires
remove-requires c =
    let p = c.requires in
    let st = c.args.desk.now in
    let by = c.args.bytes.now in
    let e = c.frame_of-frame.ensures in
    let f = rw (e, c.in-Some.is) at c.fitting.ensures in
    let h = held_in st p.0 (core_of by) p.1.core in
    rw (e, place_is f) (h.long, h.frame, h.depth, fitting_inside st p.0 (core_of by) p.1.core _ _ (place_found f))

pub returns : goal.returns
returns c =
    let p = c.requires in
    let u = is_lock c.args.desk.now (class_of c.args.bytes.now) (sym c.in_ok-not_lock.ensures) in
    let e = c.frame_of-frame.ensures in
    let f = rw (e, c.in-Some.is) at c.fitting.ensures in
    λ sheet seen history.
    release_accepts _ sheet seen history _ p.1 p.0.few p.2 u.0 u.1 (place_found f) (sym c.is_full.ensures ∙ c.if-is_full.false) (rw (e, place_is f) at c.remove.ensures)
