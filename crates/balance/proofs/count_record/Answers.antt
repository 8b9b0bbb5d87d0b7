-- `balance::count_record` meets its contract. Assumes nothing.
use mathlib.Core.Path.{refl, sym, ap, ◌∙◌}
use native.Mathlib.Omega.{arith}
use lib.IntN.{pos}
use lib.ListN.{get_or}
use Rattle.rules.specs.Record.{kind_of, class_of}
use Rattle.rules.proofs.Formed.{well_formed}
use Rattle.balance.specs.Code.{part_of}
use Rattle.balance.proofs.Counting.{malformed_part, other_part, kind_part, none_counted, one_counted, added}
use Rattle.balance.proofs.count_record.Goals as goal

pub returns-then-is_malformed : goal.returns-then-is_malformed
returns-then-is_malformed c =
    let r = c.args.bytes.now in
    none_counted r c.args.balances.now c.requires.long (λ k l. malformed_part r k (sym c.is_malformed.ensures ∙ c.if-is_malformed.true))

pub bounds-bytes-4 : goal.bounds-bytes-4
bounds-bytes-4 c = omega (arith, (well_formed c.args.bytes.now (sym c.is_malformed.ensures ∙ c.if-is_malformed.false)).long)

pub returns-then-class-ge-MAX_CLASSES : goal.returns-then-class-ge-MAX_CLASSES
returns-then-class-ge-MAX_CLASSES c =
    let r = c.args.bytes.now in
    none_counted r c.args.balances.now c.requires.long (λ k l. other_part r k (λ e. absurd (omega (arith, e, l, c.if-class-ge-MAX_CLASSES.true))))

pub kind_of-requires : goal.kind_of-requires
kind_of-requires c = well_formed c.args.bytes.now (sym c.is_malformed.ensures ∙ c.if-is_malformed.false)

pub returns : goal.returns
returns c =
    let r = c.args.bytes.now in
    let b = get_or c.args.balances.now (class_of r) (pos 0) in
    let l = c.if-class-ge-MAX_CLASSES.false in
    let f = sym c.is_malformed.ensures ∙ c.if-is_malformed.false in
    let p = c.part_of-part in
    one_counted r c.args.balances.now c.requires.long _ l (added b p.result _ (kind_of r) (c.requires.room (class_of r) l) (p.ensures ∙ ap part_of c.kind_of.ensures) refl (kind_part r f))
