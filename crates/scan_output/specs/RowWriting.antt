-- Writing the lines of batches through a buffer.
use Rattle.std.specs.Prelude.{◌≡◌, ℕ, ◌++◌, List, option_map, Result, Ok, Err, ⊤}
use Rattle.std.specs.List.{flat_map}
use Rattle.scan_output.specs.RowText.{lines}
use Rattle.vx_base.specs.Columns.{ColumnData}
use Rattle.vx_base.specs.Sources.{Rose}
use Rattle.vx_base.specs.Streams.{WriteState}
use Rattle.vx_base.specs.declared.outside.StreamError.{StreamError}
use Rattle.vx_base.specs.declared.outside.StreamError.TheVariants.{Failed, Memory}

-- the lines of a batch's rows, and those of batches, one batch after another
abbrev pub lines_of : ColumnData → List ℕ
lines_of batch = lines batch.dtype batch.values

abbrev pub batch_lines : List ColumnData → List ℕ
batch_lines batches = flat_map lines_of batches

-- The text was written but for the rest.
pub record WritesBut (rest text : List ℕ) (old new : WriteState) : Type 0 where
  pub front : List ℕ
  pub whole : front ++ rest ≡ text
  pub written : new.written ≡ option_map (λ written. written ++ front) old.written

-- some front of the text was written
abbrev pub WritesSome : List ℕ → WriteState → WriteState → Type 0
WritesSome text old new = (rest : List ℕ) × WritesBut rest text old new

-- What writing a text through a buffer gives: the buffer has what was not written yet.
abbrev pub BufferGives : Result ⊤ StreamError → List ℕ → List ℕ → WriteState → WriteState → Type 0
BufferGives (Ok done) text buffer old new = WritesBut buffer text old new × (new.faults ≡ old.faults)
BufferGives (Err Failed) text buffer old new = WritesSome text old new × Rose old.faults new.faults
BufferGives (Err Memory) text buffer old new = WritesSome text old new × (new.faults ≡ old.faults)
