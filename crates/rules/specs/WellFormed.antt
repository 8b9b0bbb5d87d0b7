-- A record that refusal 3 passes, field by field. For the contracts inside; Record.antt has the conditions.
use Rattle.std.specs.Prelude.{◌≡◌, false, ◌<◌, length}
use Rattle.rules.specs.Limits.{core_count, kind_count, mode_count}
use Rattle.rules.specs.Record.{Bytes, core_of, kind_of, mode_of, is_malformed}

pub record WellFormed (r : Bytes) : Type 0 where
  pub formed : is_malformed r ≡ false
  pub long : length r ≡ 6
  pub core : core_of r < core_count
  pub kind : kind_of r < kind_count
  pub mode : mode_of r < mode_count
