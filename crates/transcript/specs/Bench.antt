-- The run that a bench of the code is at.
use Rattle.transcript.specs.declared.bench.Bench.TheInside.{Inside}
use Rattle.transcript.specs.Run.{Run}

abbrev pub run_of : Inside → Run
run_of b = record { input = b.reader.input; offset = b.reader.offset; book = b.book; over = b.over }
