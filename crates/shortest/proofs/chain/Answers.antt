use mathlib.Core.Path.{◌≡◌, refl, ◌∙◌}
use native.Mathlib.Omega.{arith}
use lib.ListN.{length-set}
use Rattle.shortest.proofs.Chains.{letter_is_number, picked_by_number, going_none, going_more, written, lost, chained}
use Rattle.shortest.proofs.chain.Goals as goal

pub loop-i-init : goal.loop-i-init
loop-i-init c = (refl, going_none c.requires.2 refl)

pub returns-in_default : goal.returns-in_default
returns-in_default c =
    let i = c.loop-i.invariant in
    let k = rw (c.in_default.is, c.level.ensures) at c.pick.ensures in
    lost i.1 c.loop-i-test.true refl c.rank_words-words.ensures
    (picked_by_number c.loop-i.letter k.0) (omega (arith, i.0, c.requires.0.few)) refl

pub loop-i-preserved : goal.loop-i-preserved
loop-i-preserved c =
    let i = c.loop-i.invariant in
    let k = rw (c.in-Some.is, c.level.ensures) at c.pick.ensures in (
      length-set c.loop-i.found.dependencies c.loop-i.i _ ∙ i.0,
      going_more i.1 c.loop-i-test.true refl c.rank_words-words.ensures
          (picked_by_number c.loop-i.letter k.0)
          (written c.loop-i.found c.loop-i.i c.loop-i.class c.in-Some.c.rank (omega (arith, i.0, c.requires.0.few)))
          (record { is = λ l. letter_is_number c.letter_of-letter.result ∙ c.letter_of-letter.ensures }),
    )

pub returns : goal.returns
returns c =
    let e : c.loop-i.i ≡ c.args.b.n = omega arith in
    chained c.loop-i.invariant.1 e
