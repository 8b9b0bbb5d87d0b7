use borrow.Author.Rules.{rules}
use Rattle.std.proofs.lemmas.Bool.{eqb-true, eq-eqb}
use Rattle.rules.specs.HeldLocks.{R, N}
use Rattle.search.proofs.Sets.{empty, no_member}
use Rattle.search.proofs.Arrivals.is_empty.Goals as goal

pub returns-then-self-eq0 : goal.returns-then-self-eq0
returns-then-self-eq0 c =
    (λ h j. elim [ R ↦ empty j c.if-self-eq0.true | N ↦ empty j (eqb-true _ _ h) ], λ e. eq-eqb _ _ (no_member c.args.self.n (search rules) (λ j. e j N)))

pub returns-else-self-eq0 : goal.returns-else-self-eq0
returns-else-self-eq0 c = (λ h. absurd (c.if-self-eq0.false (eqb-true _ _ h)), λ e. eq-eqb _ _ (no_member c.args.self.r (search rules) (λ j. e j R)))
