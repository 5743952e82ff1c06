-- What a listener in memory tells.
use Rattle.std.specs.Prelude.{List, Option, Some, map}
use Rattle.gcs_io.specs.MemoryClock.{clock_given}
use Rattle.gcs_io.specs.MemorySink.{sink_written}
use Rattle.gcs_io.specs.MemorySource.{source_rest, source_taken}
use Rattle.gcs_io.specs.declared.clock.ListClock.{ListClock}
use Rattle.gcs_io.specs.declared.sink.MemSink.{MemSink}
use Rattle.gcs_io.specs.declared.source.MemSource.{MemSource}
use Rattle.gcs_workers.specs.declared.link.Pair.{Pair}
use Rattle.gcs_workers.specs.declared.memory.ListListen.{ListListen}
use Rattle.gcs_workers.specs.Told.{Told, told}

-- what a connection in memory tells: the bytes that are left, the bytes that were read, the bytes that were written, and the readings
abbrev pub pair_told : Pair MemSource MemSink ListClock → Told
pair_told p = told (Some (source_rest p.source)) (Some (source_taken p.source)) (Some (sink_written p.sink)) (clock_given p.clock)

-- what the connections that are still to come tell
abbrev pub pending_told : ListListen → Option (List Told)
pending_told s = Some (map pair_told s.pairs.items)
