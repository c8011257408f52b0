-- What the streams over memory are to their callers.
use Rattle.std.specs.Prelude.{ℕ, Some, List, drop}
use Rattle.vx_outside.specs.Streams.{ReadState, WriteState}
use Rattle.vx_outside.specs.declared.memory_streams.BytesSource.{BytesSource}
use Rattle.vx_outside.specs.declared.memory_streams.BytesSink.{BytesSink}

-- ---- reading

-- it tells the bytes that are left
abbrev pub read_state : BytesSource → ReadState
read_state source = record {
  rest = Some (drop source.given source.bytes.items);
  pieces = source.pieces.items;
  faults = source.faults;
}

-- the most bytes that one read gives
abbrev pub read_size : BytesSource → ℕ
read_size source = source.piece

-- the numbers of the reads that fail
abbrev pub failing_reads : BytesSource → List ℕ
failing_reads source = source.fails.items

-- the number of the next read
abbrev pub next_read : BytesSource → ℕ
next_read source = source.call

-- ---- writing

-- it tells what was written
abbrev pub write_state : BytesSink → WriteState
write_state sink = record { written = Some sink.written.items; faults = sink.faults }

-- the most bytes that one write takes
abbrev pub write_size : BytesSink → ℕ
write_size sink = sink.piece

-- the numbers of the writes that fail
abbrev pub failing_writes : BytesSink → List ℕ
failing_writes sink = sink.fails.items

-- the number of the next write
abbrev pub next_write : BytesSink → ℕ
next_write sink = sink.call
