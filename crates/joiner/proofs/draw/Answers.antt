use native.Mathlib.Nat.{mul-le-mul}
use Rattle.joiner.proofs.draw.Goals as goal

pub join_numbers-requires : goal.join_numbers-requires
join_numbers-requires c = (mul-le-mul c.requires.few c.requires.few, c.requires.seen_one, c.requires.seen_two, c.requires.seen_room)

pub returns : goal.returns
returns c = record { marks = rw (c.fresh_desk.ensures, c.word_at.ensures) at c.unite.ensures; kinds = c.unite-2.ensures; numbers = c.join_numbers.ensures }
