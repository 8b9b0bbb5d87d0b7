-- The bench that a value of the code stands for.
use Rattle.benches.specs.declared.Bench as code
use Rattle.benches.specs.Benches.{Bench, bench}

abbrev pub bench_of : code.Bench → Bench
bench_of b = bench b.desk.now b.sheet.now b.seen.now
