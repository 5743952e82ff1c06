-- What a source in memory shows.
use Rattle.std.specs.Prelude.{ℕ, List, drop}
use Rattle.gcs_io.specs.Pieces.{left, passed, next_bytes}
use Rattle.gcs_io.specs.declared.source.MemSource.{MemSource}

-- the bytes that it has left
abbrev pub source_rest : MemSource → List ℕ
source_rest s = left s.pieces.items s.index s.at

-- the bytes that it gave
abbrev pub source_taken : MemSource → List ℕ
source_taken s = passed s.pieces.items s.index s.at

-- the bytes that a read into a large buffer gives
abbrev pub source_next : MemSource → List ℕ
source_next s = next_bytes (drop s.index s.pieces.items) s.at

-- the numbers of the calls that are to fail
abbrev pub source_failing : MemSource → List ℕ
source_failing s = s.failing.numbers.items

-- how many calls there were
abbrev pub source_calls : MemSource → ℕ
source_calls s = s.failing.calls
