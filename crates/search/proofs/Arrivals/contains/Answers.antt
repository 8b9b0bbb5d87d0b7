use mathlib.Core.Path.{sym, ◌∙◌}
use Rattle.std.proofs.lemmas.Bool.{eqb-true, eq-eqb}
use Rattle.words.proofs.Words.{bit_shift}
use Rattle.search.proofs.Arrivals.contains.Goals as goal

pub returns : goal.returns
returns c =
    let e = bit_shift c.by.result c.args.class in
    rw (← c.by.ensures) (λ h. sym e ∙ eqb-true _ _ h, λ h. eq-eqb _ _ (e ∙ h))
