use Rattle.search.proofs.Visits.{start_given}
use Rattle.search.proofs.met_from.Goals as goal

pub arrived_by_n-requires : goal.arrived_by_n-requires
arrived_by_n-requires c = start_given c.requires.0 c.requires.1
