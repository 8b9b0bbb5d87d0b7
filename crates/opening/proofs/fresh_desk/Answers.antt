-- A desk of zeros, its first byte, and the declared word.
use mathlib.Core.Path.{refl, sym, ap, ◌∙◌, subst}
use mathlib.Core.List.{List}
use Prim.Native.Nat.{ℕ, ◌+◌, ◌≤◌}
use native.Mathlib.Omega.{arith}
use lib.ListN.{length, get_or}
use Rattle.layout.specs.Layout.{states_at, desk_size}
use Rattle.opening.proofs.Opens.{zeroed_length, zeroed_below, zeroed_front, desk_length, word_room, desk_opened}
use Rattle.opening.proofs.fresh_desk.Goals as goal

pub seat_cores-requires : goal.seat_cores-requires
seat_cores-requires c =
    let desk = c.args.desk.now in
    let long = c.requires in
    let z = zeroed_front desk_size desk long desk_size _ refl (c.fill.ensures.after (λ y e. e)) in (
      subst (λ (l : List ℕ). desk_size ≤ length l) (sym z) (rw (zeroed_length desk_size desk long) long),
      λ i l. ap (λ (l : List ℕ). get_or l (states_at + i) 0) z ∙ zeroed_below desk_size desk long (states_at + i) (omega arith),
    )

pub put_word-requires : goal.put_word-requires
put_word-requires c =
    word_room c.args.classes c.args.declared c.args.desk.now c.requires _
    (c.seat_cores.ensures ∙ zeroed_front desk_size c.args.desk.now c.requires desk_size _ refl (c.fill.ensures.after (λ y e. e)))

pub shape_of-desk : goal.shape_of-desk
shape_of-desk c =
    ap length
    (desk_opened c.args.classes c.args.declared c.args.desk.now c.requires _
    (c.seat_cores.ensures ∙ zeroed_front desk_size c.args.desk.now c.requires desk_size _ refl (c.fill.ensures.after (λ y e. e))) _ c.put_word.ensures)
    ∙ desk_length c.args.classes c.args.declared c.args.desk.now c.requires

pub returns : goal.returns
returns c =
    desk_opened c.args.classes c.args.declared c.args.desk.now c.requires _
    (c.seat_cores.ensures ∙ zeroed_front desk_size c.args.desk.now c.requires desk_size _ refl (c.fill.ensures.after (λ y e. e))) _ c.put_word.ensures
