-- `progress::unused_zero` meets its contract. Assumes nothing.
use Rattle.std.proofs.Common.{◌≡◌, rules, tests}
use Rattle.std.proofs.lemmas.Iterator.{cases_from_all, YieldsList-from_slice}
use Rattle.progress.proofs.Fitness.{zeros_behind}
use Rattle.progress.proofs.unused_zero.Goals as goal

pub returns : goal.returns
returns c =
    zeros_behind c.args.feed.now c.requires.0 c.requires.1 _
    (cases_from_all _ _ _ (λ x. x ≡ 0) (λ x. x ≡ 0 → ⊥) c.all.ensures.ran (YieldsList-from_slice _ cc) (λ x q k. search (rules, tests)) (λ x q k. search (rules, tests)))
