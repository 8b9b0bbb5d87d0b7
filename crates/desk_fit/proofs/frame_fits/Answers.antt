use mathlib.Core.Path.{◌≡◌, ◌∙◌}
use mathlib.Core.List.{List}
use Prim.Native.Nat.{ℕ}
use native.Mathlib.Omega.{arith}
use borrow.Author.Tests.{le-ltb}
use Rattle.rules.specs.Limits.{max_depth}
use Rattle.layout.specs.Layout.{depth_of}
use Rattle.layout.specs.Fit.{all_below, frame_fits}
use Rattle.desk_fit.specs.Empty.{empty_at}
use Rattle.layout.proofs.AllBelow.{all_ext}
use Rattle.desk_fit.proofs.frame_fits.Goals as goal

-- With no lock held, every byte of the frame is an unused one.
empty_frame : (K : ℕ) (desk : List ℕ) (n : ℕ) → depth_of desk n ≡ 0 → all_below max_depth (empty_at desk n) ≡ frame_fits K desk n
unfolding frame_fits
empty_frame K desk n e = rw e (all_ext max_depth _ _ (λ p l. rw (le-ltb p 0 (omega arith))))

pub returns-then-desk-n-eq0 : goal.returns-then-desk-n-eq0
returns-then-desk-n-eq0 c = c.empty_frame_fits.ensures ∙ empty_frame _ _ _ c.if-desk-n-eq0.true
