use mathlib.Core.Path.{sym, ◌∙◌}
use Rattle.desk_fit.proofs.Origins.{none_at_all, by_bytes}
use Rattle.desk_fit.proofs.origins_fit.Goals as goal

pub returns-then-no_tries : goal.returns-then-no_tries
returns-then-no_tries c = c.if-no_tries.true ∙ none_at_all _ (sym c.no_tries.ensures ∙ c.if-no_tries.true)

pub returns-else-no_tries : goal.returns-else-no_tries
returns-else-no_tries c = c.bytes_fit.ensures ∙ by_bytes _
