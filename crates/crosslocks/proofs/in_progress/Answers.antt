use mathlib.Core.Path.{ap, ◌∙◌}
use Prim.Native.Nat.{ℕ}
use Rattle.rules.specs.Crosslocks.{size_of}
use Rattle.layout.specs.Layout.{member_of}
use Rattle.layout.proofs.Cross.{size_ones}
use Rattle.crosslocks.proofs.in_progress.Goals as goal

pub returns : goal.returns
returns c = c.count.ensures.0 ∙ size_ones c.word_at.result c.word_at.type_inv ∙ ap (λ (w : ℕ). size_of (member_of w)) c.word_at.ensures
