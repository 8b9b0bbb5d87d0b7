-- The logs of specs/LogExamples.antt come to what is said there. Assumes nothing.
use mathlib.Core.Path.{◌≡◌, refl}
use mathlib.Core.Bool.{true}
use Rattle.words.specs.Bits.{bit}
use Rattle.rules.specs.Record.{is_malformed}
use Rattle.rules.specs.Graph.{dependency}
use Rattle.rules.specs.Crosslocks.{count_below}
use Rattle.rules.specs.Decision.{cyclic}
use Rattle.rules.specs.Verdict.{refusal}
use Rattle.rules.specs.Log.{is_header, header_classes, header_word, records_of, loose_of}
use Rattle.plungerowl.specs.LogExamples.{p2_log, completion, log_table}

pub log_table_holds : log_table ≡ true
unfolding log_table p2_log completion is_header header_classes header_word records_of loose_of is_malformed refusal dependency cyclic count_below bit
log_table_holds = refl
