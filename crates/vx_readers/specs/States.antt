-- What a poll of a state gives.
use Rattle.std.specs.Prelude.{◌≡◌, ℕ, Bool, List, Result, Ok, Err, IfErr, length}
use Rattle.vx_base.specs.declared.locations.SegmentLocation.{SegmentLocation}
use Rattle.vx_base.specs.Columns.{ColumnData}
use Rattle.vx_base.specs.Data.{Datum}
use Rattle.vx_base.specs.Masks.{true_count}
use Rattle.vx_base.specs.Sources.{SourceState}
use Rattle.vx_rows.specs.SegmentLeaves.{Bytes}
use Rattle.vx_reads.specs.declared.errors.ReaderError.{ReaderError}
use Rattle.vx_reads.specs.Errors.{IsNotOfExpression}
use Rattle.vx_reads.specs.Projected.{AreProjected, ProjectionCause}
use Rattle.vx_layout.specs.Trees.{subtree}
use Rattle.vx_reads.specs.Filtered.{FilterCause, IsFiltered}
use Rattle.vx_reads.specs.Readable.{tree_head}
use Rattle.vx_reads.specs.Reads.{AreInFlight}
use Rattle.vx_readers.specs.declared.states.ColumnState.{ColumnState}
use Rattle.vx_readers.specs.declared.states.MaskState.{MaskState}
use Rattle.vx_readers.specs.declared.states.Masking.{Masking}
use Rattle.vx_readers.specs.declared.states.Masking.TheVariants.{Known, Filters, Prunes}
use Rattle.vx_readers.specs.declared.progress.Progress.{Progress}
use Rattle.vx_readers.specs.declared.progress.Progress.TheVariants.{Ready, Pending}
use Rattle.vx_readers.specs.Evaluations.{rows_by, zones_by, Evaluation, IsPending, IsReady, IsRefused}
use Rattle.vx_readers.specs.Unpruned.{IsUnpruned, PruningCause}

-- these are what the expression is worth at the selected rows
abbrev pub IsProjection : Evaluation → List Datum → Bytes → Type 0
IsProjection e values bytes = AreProjected bytes (rows_by e) (tree_head e.nodes e.node).dtype e.expression.term e.start e.mask values

-- why they are not
abbrev pub ProjectionFault : Evaluation → ReaderError → Bytes → Type 0
ProjectionFault e error bytes = ProjectionCause bytes (rows_by e) (tree_head e.nodes e.node).dtype e.expression.term e.start e.mask error

-- the mask's rows at which the expression is true
abbrev pub IsKept : Evaluation → List Bool → Bytes → Type 0
IsKept e kept bytes = IsFiltered bytes (rows_by e) (tree_head e.nodes e.node).dtype e.expression.term e.start e.mask kept

-- why there are none
abbrev pub FilterFault : Evaluation → ReaderError → Bytes → Type 0
FilterFault e error bytes = FilterCause bytes (tree_head e.nodes e.node).dtype e.expression.term (subtree e.nodes e.node) e.start e.start e.mask error

-- the mask's rows over which it prunes no zone
abbrev pub IsLeft : Evaluation → List Bool → Bytes → Type 0
IsLeft e kept bytes = IsUnpruned bytes (zones_by e) e.expression.term e.start e.mask kept

-- why these are not known
abbrev pub PruningFault : Evaluation → ReaderError → Bytes → Type 0
PruningFault e error bytes = PruningCause bytes (zones_by e) e.start e.mask error

-- The column of what the expression is worth at the selected rows, as many as these are whatever the source tells, the state as it goes on, or why there is none.
abbrev pub ColumnPollGives : Result (Progress ColumnData ColumnState) ReaderError → Evaluation → SourceState → SourceState → Type 0
ColumnPollGives (Ok (Ready column)) e before after = IsReady e before after (IsProjection e column.values) × (column.dtype ≡ e.expression.dtype) × (length column.values ≡ true_count e.mask)
ColumnPollGives (Ok (Pending next)) e before after = IsPending e next.evaluation before after
ColumnPollGives (Err error) e before after = IsRefused e error before after (ProjectionFault e error)

-- A mask as long as the rows, of which Is says which one it is, the state as it goes on, by Waits, or why there is no mask, by
-- Fault: the one form of what a poll gives that ends with a mask.
abbrev pub GivesMask : {S : Type 0} → (Evaluation → S → SourceState → SourceState → Type 0) → (Evaluation → List Bool → Bytes → Type 0) → (Evaluation → ReaderError → Bytes → Type 0) → Result (Progress (List Bool) S) ReaderError → Evaluation → SourceState → SourceState → Type 0
GivesMask Waits Is Fault (Ok (Ready kept)) e before after = IsReady e before after (Is e kept) × (length kept ≡ length e.mask)
GivesMask Waits Is Fault (Ok (Pending next)) e before after = Waits e next before after
GivesMask Waits Is Fault (Err error) e before after = IsRefused e error before after (Fault e error)

-- The mask's rows at which the expression is true, the evaluation as it goes on, or why there are none.
abbrev pub FilterPollGives : Result (Progress (List Bool) Evaluation) ReaderError → Evaluation → SourceState → SourceState → Type 0
FilterPollGives result e before after = GivesMask IsPending IsKept FilterFault result e before after

-- The mask's rows over which no zone is pruned, the evaluation as it goes on, or why these are not known: whatever the source tells, no
-- expression is worked out.
abbrev pub PruningPollGives : Result (Progress (List Bool) Evaluation) ReaderError → Evaluation → SourceState → SourceState → Type 0
PruningPollGives result e before after = GivesMask IsPending IsLeft PruningFault result e before after × IfErr result IsNotOfExpression

-- ---- a mask that is known, filtered or pruned

-- it is this mask
abbrev pub IsMask : List Bool → Masking → Type 0
IsMask mask (Known kept) = kept ≡ mask
IsMask mask (Filters e) = ⊥
IsMask mask (Prunes e) = ⊥

-- the reads that were started and have not ended are in flight at the source
abbrev pub ReadsAreInFlight : Masking → List (ℕ × SegmentLocation) → Type 0
ReadsAreInFlight (Known mask) in_flight = Unit {0}
ReadsAreInFlight (Filters e) in_flight = AreInFlight e.locations e.reads in_flight
ReadsAreInFlight (Prunes e) in_flight = AreInFlight e.locations e.reads in_flight

-- the filter goes on, or the pruning
abbrev pub MaskWaits : Masking → Masking → SourceState → SourceState → Type 0
MaskWaits (Filters e) (Filters next) before after = IsPending e next before after
MaskWaits (Prunes e) (Prunes next) before after = IsPending e next before after
MaskWaits masking next before after = ⊥

-- the same two, where the state goes on
abbrev pub FilterGives : Result (Progress (List Bool) MaskState) ReaderError → Evaluation → SourceState → SourceState → Type 0
FilterGives result e before after = GivesMask (λ (old : Evaluation) (next : MaskState). MaskWaits (Filters old) next.masking) IsKept FilterFault result e before after

abbrev pub PruningGives : Result (Progress (List Bool) MaskState) ReaderError → Evaluation → SourceState → SourceState → Type 0
PruningGives result e before after = GivesMask (λ (old : Evaluation) (next : MaskState). MaskWaits (Prunes old) next.masking) IsLeft PruningFault result e before after × IfErr result IsNotOfExpression

-- A mask that is known is there at once, and the source stays as it was.
abbrev pub MaskPollGives : Result (Progress (List Bool) MaskState) ReaderError → Masking → SourceState → SourceState → Type 0
MaskPollGives result (Known mask) before after = (result ≡ Ok (Ready mask)) × (after ≡ before)
MaskPollGives result (Filters e) before after = FilterGives result e before after
MaskPollGives result (Prunes e) before after = PruningGives result e before after
