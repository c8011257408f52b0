-- What a reader and a writer of std are to the callers of the streams over them.
use Rattle.std.specs.Prelude.{ℕ, List, Option, None, IsSome, option_and_then}
use Rattle.vx_outside.specs.Streams.{ReadState, WriteState}
use Rattle.vx_outside.specs.declared.adapters.ReadSource.{ReadSource}
use Rattle.vx_outside.specs.declared.adapters.WriteSink.{WriteSink}

-- it does not tell what is left
abbrev pub reader_state : {I : Type 0} → ReadSource I → ReadState
reader_state source = record { rest = None; pieces = source.pieces.items; faults = source.faults }

-- there is a reader that it reads
abbrev pub HasReader : {I : Type 0} → ReadSource I → Type 0
HasReader source = IsSome source.reader

-- the bytes that the reader has left, where the reader itself tells them
abbrev pub reader_rest : {I : Type 0} → (I → Option (List ℕ)) → ReadSource I → Option (List ℕ)
reader_rest remaining source = option_and_then remaining source.reader

-- it does not tell what was written
abbrev pub writer_state : {O : Type 0} → WriteSink O → WriteState
writer_state sink = record { written = None; faults = sink.faults }

-- the bytes that the writer holds, where the writer itself tells them
abbrev pub writer_bytes : {O : Type 0} → (O → Option (List ℕ)) → WriteSink O → Option (List ℕ)
writer_bytes contents sink = contents sink.writer
