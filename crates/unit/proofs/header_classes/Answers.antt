-- `unit::header_classes` meets its contract. Assumes nothing.
use mathlib.Core.Path.{sym, ◌∙◌}
use native.Mathlib.Omega.{arith}
use Rattle.unit.proofs.Header.{header_long, no_classes, has_classes}
use Rattle.unit.proofs.header_classes.Goals as goal

pub returns-then-not-is_header : goal.returns-then-not-is_header
returns-then-not-is_header c = no_classes _ (sym c.is_header.ensures ∙ c.if-not-is_header.true)

pub bounds-bytes-3 : goal.bounds-bytes-3
bounds-bytes-3 c =
    omega (arith, header_long c.args.bytes.now (sym c.is_header.ensures ∙ c.if-not-is_header.false))

pub returns : goal.returns
returns c = c.wide.ensures ∙ has_classes _ (sym c.is_header.ensures ∙ c.if-not-is_header.false)
