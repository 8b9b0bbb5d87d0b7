use mathlib.Core.Path.{◌∙◌}
use borrow.Author.Tests.{le-leb}
use Rattle.cross_fit.proofs.Tests.{all_below_lem, shift_fits}
use Rattle.cross_fit.proofs.declares_below.Goals as goal

pub returns-then-k-ge-MAX_CLASSES : goal.returns-then-k-ge-MAX_CLASSES
returns-then-k-ge-MAX_CLASSES c = le-leb _ _ c.if-k-ge-MAX_CLASSES.true ∙ all_below_lem _ _ c.ranges.declared.fits c.if-k-ge-MAX_CLASSES.true c.requires

pub returns-else-k-ge-MAX_CLASSES : goal.returns-else-k-ge-MAX_CLASSES
returns-else-k-ge-MAX_CLASSES c = shift_fits _ _
