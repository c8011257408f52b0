-- How often the sources of a run of chunks are asked for one range, each by itself.
use Rattle.std.specs.Prelude.{◌≡◌, ℕ, ◌+◌, ◌≤◌, Bool, List, length, Some, option_map}
use Rattle.std.specs.List.{slice_get}
use Rattle.vx_base.specs.declared.locations.AskedRange.{AskedRange}
use Rattle.vx_base.specs.Sources.{SourceState, range_of}
use Rattle.vx_rows.specs.Reads.{Way, directly, through, IsAmong}
use Rattle.vx_splits.specs.declared.selected_rows.SelectedRows.{SelectedRows}
use Rattle.vx_steps.specs.Rows.{SomeRow}
use Rattle.vx_drive.specs.declared.plans.ScanPlans.{ScanPlans}
use Rattle.vx_drive.specs.Plans.{projection_plan}
use Rattle.vx_chunks.specs.Ways.{ReadsBy}
use Rattle.vx_workers.specs.Workers.{RunsSource}
use Rattle.vx_execute.specs.Validating.{AsksAgain}
use Rattle.vx_scan.specs.Counts.{asked_times, AreAllOf}

-- A selected row of the chunk of that number reads a leaf in the segment that way; the segment's location has the range.
pub record ChunkReads (plans : ScanPlans) (chunks : List SelectedRows) (range : AskedRange) (number segment : ℕ) (way : Way) : Type 0 where
  pub chunk : SelectedRows
  pub here : slice_get chunks number ≡ Some chunk
  pub leaf : ℕ
  pub reads : SomeRow (ReadsBy way (record { leaf = leaf; segment = segment }) (projection_plan plans)) chunk.scope.rows.start chunk.mask
  pub location : option_map range_of (slice_get plans.locations.items segment) ≡ Some range

-- one of these chunks reads the range in that segment directly
abbrev pub IsDirectRead : ScanPlans → List SelectedRows → AskedRange → List ℕ → ℕ × ℕ → Type 0
IsDirectRead plans chunks range numbers pair = IsAmong pair.0 numbers × ChunkReads plans chunks range pair.0 pair.1 directly

-- one of these chunks reads the range in that segment, directly or through a take
abbrev pub IsReadOf : ScanPlans → List SelectedRows → AskedRange → List ℕ → ℕ × ℕ → Type 0
IsReadOf plans chunks range numbers pair = IsAmong pair.0 numbers × ((way : Way) × ChunkReads plans chunks range pair.0 pair.1 way)

-- some chunk reads it in that segment, through the values of that outermost take
abbrev pub IsSharedRead : ScanPlans → List SelectedRows → AskedRange → ℕ × ℕ → Type 0
IsSharedRead plans chunks range pair = (number : ℕ) × ChunkReads plans chunks range number pair.1 (through pair.0)

-- A source, alone or one of several, is asked for a range at most as often as there are pairs of a chunk that its worker
-- claimed and a segment that reach it directly, and pairs of a take and a segment.
abbrev pub SourceIsCounted : Type 0
SourceIsCounted = (shares : Bool) (plans : ScanPlans) (chunks : List SelectedRows) (numbers : List ℕ) (before after : SourceState) → RunsSource shares plans chunks numbers before after
    → (range : AskedRange) (direct shared : List (ℕ × ℕ)) → AreAllOf (IsDirectRead plans chunks range numbers) direct → AreAllOf (IsSharedRead plans chunks range) shared
    → asked_times range after ≤ asked_times range before + (length direct + length shared)

-- And it is asked at most as often as there are pairs of a chunk that its worker claimed and a segment, of either way.
abbrev pub SourceIsCountedByChunks : Type 0
SourceIsCountedByChunks = (shares : Bool) (plans : ScanPlans) (chunks : List SelectedRows) (numbers : List ℕ) (before after : SourceState) → RunsSource shares plans chunks numbers before after
    → (range : AskedRange) (pairs : List (ℕ × ℕ)) → AreAllOf (IsReadOf plans chunks range numbers) pairs → asked_times range after ≤ asked_times range before + length pairs

-- The first one is asked again at most as often as there are such pairs of chunks that ran again, and pairs of a take.
abbrev pub FirstIsCountedAgain : Type 0
FirstIsCountedAgain = (plans : ScanPlans) (chunks : List SelectedRows) (reruns : List ℕ) (before after : SourceState) → AsksAgain plans chunks reruns before after
    → (range : AskedRange) (direct shared : List (ℕ × ℕ)) → AreAllOf (IsDirectRead plans chunks range reruns) direct → AreAllOf (IsSharedRead plans chunks range) shared
    → asked_times range after ≤ asked_times range before + (length direct + length shared)
