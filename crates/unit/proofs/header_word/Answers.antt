-- `unit::header_word` meets its contract. Assumes nothing.
use mathlib.Core.Path.{sym, ◌∙◌}
use native.Mathlib.Omega.{arith}
use Rattle.unit.proofs.Header.{header_long, word_long, no_header, no_word, has_word}
use Rattle.unit.proofs.header_word.Goals as goal

pub returns-then-not-is_header : goal.returns-then-not-is_header
returns-then-not-is_header c = no_header _ (sym c.is_header.ensures ∙ c.if-not-is_header.true)

pub bounds-bytes-2 : goal.bounds-bytes-2
bounds-bytes-2 c =
    omega (arith, header_long c.args.bytes.now (sym c.is_header.ensures ∙ c.if-not-is_header.false))

pub returns-then-bytes-ne-DECLARING : goal.returns-then-bytes-ne-DECLARING
returns-then-bytes-ne-DECLARING c = no_word _ c.if-bytes-ne-DECLARING.true

pub word_at-requires : goal.word_at-requires
word_at-requires c =
    word_long _ (sym c.is_header.ensures ∙ c.if-not-is_header.false) c.if-bytes-ne-DECLARING.false

pub returns : goal.returns
returns c =
    c.word_at.ensures ∙ has_word _ (sym c.is_header.ensures ∙ c.if-not-is_header.false) c.if-bytes-ne-DECLARING.false
