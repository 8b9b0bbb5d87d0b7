-- A record that refusal 3 passes, field by field. Assumes nothing.
use mathlib.Core.Path.{◌≡◌}
use mathlib.Core.Bool.{false, not}
use mathlib.Core.List.{List}
use Prim.Native.Nat.{ℕ}
use lib.Dec.{leb, eqb}
use lib.ListN.{length}
use borrow.Author.Tests.{leb-false, eqb-true, not-false}
use Rattle.rules.specs.Limits.{core_count, kind_count, mode_count}
use Rattle.rules.specs.Record.{is_malformed, core_of, kind_of, class_of, mode_of, stray_byte}
use Rattle.rules.specs.WellFormed.{WellFormed}
use Rattle.rules.proofs.Booleans.{or_none}

pub well_formed : (bytes : List ℕ) → is_malformed bytes ≡ false → WellFormed bytes
unfolding is_malformed
well_formed bytes h =
    let stray = or_none _ (stray_byte (kind_of bytes) (class_of bytes) (mode_of bytes)) h in
    let mode = or_none _ (leb mode_count (mode_of bytes)) stray.0 in
    let kind = or_none _ (leb kind_count (kind_of bytes)) mode.0 in
    let core = or_none _ (leb core_count (core_of bytes)) kind.0 in
    let long = or_none (not (eqb (length bytes) 6)) _ core.0 in
    record {
      formed = h;
      long = eqb-true (length bytes) 6 (not-false (eqb (length bytes) 6) long.0);
      core = leb-false core_count (core_of bytes) core.1;
      kind = leb-false kind_count (kind_of bytes) kind.1;
      mode = leb-false mode_count (mode_of bytes) mode.1;
    }
