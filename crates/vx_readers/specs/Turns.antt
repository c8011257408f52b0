-- What a turn of the reads of an evaluation gives.
use Rattle.std.specs.Prelude.{ℕ, List, Result, Ok, Err}
use Rattle.vx_base.specs.Sources.{SourceState}
use Rattle.vx_reads.specs.declared.errors.ReaderError.{ReaderError}
use Rattle.vx_reads.specs.Reads.{Stops}
use Rattle.vx_readers.specs.declared.evaluations.Turn.{Turn}
use Rattle.vx_readers.specs.declared.evaluations.Turn.TheVariants.{Came, Waits}
use Rattle.vx_readers.specs.Evaluations.{Evaluation, HasAll, IsPending}

-- all that it needs came, or some read goes on
abbrev pub TurnGives : (Evaluation → List ℕ) → Result (Turn Evaluation) ReaderError → Evaluation → SourceState → SourceState → Type 0
TurnGives needs (Ok (Came next)) e before after = HasAll needs e next before after
TurnGives needs (Ok (Waits next)) e before after = IsPending e next before after
TurnGives needs (Err error) e before after = Stops e.locations error e.reads before after
