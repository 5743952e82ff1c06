-- What a sink in memory shows.
use Rattle.std.specs.Prelude.{ℕ, ◌-◌, Bool, ◌&&◌, nat_eq, nat_lt, List, length}
use Rattle.gcs_io.specs.declared.sink.MemSink.{MemSink}

-- the bytes that it took
abbrev pub sink_written : MemSink → List ℕ
sink_written s = s.held.items

-- how many bytes it takes in all
abbrev pub sink_room : MemSink → ℕ
sink_room s = s.room

-- how many bytes it can still take
abbrev pub sink_left : MemSink → ℕ
sink_left s = s.room - length s.held.items

-- a piece of that many bytes has some, and none of them fits
abbrev pub is_crowded_out : ℕ → ℕ → Bool
is_crowded_out size room = nat_lt 0 size && nat_eq room 0

-- the numbers of the calls that are to fail
abbrev pub sink_failing : MemSink → List ℕ
sink_failing s = s.failing.numbers.items

-- how many calls there were
abbrev pub sink_calls : MemSink → ℕ
sink_calls s = s.failing.calls
