-- A run whose outputs are joined, and one that failed.
use Rattle.std.proofs.Common.{◌≡◌, ◌≢◌, ℕ, inl, inr, List, [], ◌∷◌, Option, Some, None, Ok, Err, length, refl, sym, ap, ◌∙◌, subst}
use Rattle.std.specs.Prelude.{IfErr, IfOk, Result}
use Rattle.vx_rows.specs.SegmentLeaves.{leaves_of}
use Rattle.vx_layout.specs.Rows.{segment_bytes}
use Rattle.vx_plan.specs.Plans.{plan_at}
use Rattle.vx_plan.specs.Rules.{node_at}
use Rattle.vx_steps.specs.Given.{handed_by, row_value}
use Rattle.vx_steps.specs.Rows.{rows_of, AreOf}
use Rattle.vx_steps.specs.ScanData.{ScanData}
use Rattle.vx_drive.specs.declared.errors.ScanError.{ScanError}
use Rattle.vx_drive.specs.declared.errors.ScanError.TheVariants.{Memory}
use Rattle.vx_drive.specs.Asks.{KeepsFaults, TellsFaults}
use Rattle.vx_drive.specs.Gathered.{AreOfDtype, GatherGives, Gathers, IsJoined, values_in}
use Rattle.vx_drive.specs.Runs.{GivesOutput, RunGives}
use Rattle.vx_drive.specs.Starts.{split_of}
use Rattle.vx_base.specs.Columns.{ColumnData}
use Rattle.vx_base.specs.Sources.{SourceState}
use Rattle.vx_base.specs.declared.locations.SegmentLocation.{SegmentLocation}

-- the column of all outputs is that of the split
joined_gives : (locations : List SegmentLocation) (start scan : ScanData) (before : SourceState) (outputs : List ColumnData) (output : Option ColumnData) → Gathers locations start scan before (split_of start) outputs → IsJoined outputs output → GivesOutput locations start scan before output
joined_gives locations start scan before outputs None gathers none = sym gathers.count ∙ ap (λ (all : List ColumnData). length (values_in all)) none
joined_gives locations start scan before outputs (Some column) gathers (some, alike, values) = record {
  dtype = dtype_of outputs some alike gathers.dtype;
  count = ap length values ∙ gathers.count;
  right = λ file is held. subst (AreOf (row_value (leaves_of (segment_bytes file locations)) (handed_by start.nodes (Some start.job.given)) start.job.offset (plan_at start.nodes start.job.plan)) (rows_of (split_of start).rows.start (split_of start).mask)) (sym values) (gathers.right file is held);
  there = gathers.there some;
  leaves = gathers.leaves;
}
  where
    dtype_of : (all : List ColumnData) → all ≢ [] → AreOfDtype column.dtype all → AreOfDtype (node_at start.nodes start.job.plan).dtype all → column.dtype ≡ (node_at start.nodes start.job.plan).dtype
    dtype_of [] other one two = absurd (other refl)
    dtype_of (first ∷ rest) other one two = sym one.0 ∙ two.0

no_faults : {X : Type 0} (x : X) (before after : SourceState) → TellsFaults (Ok x) before after → KeepsFaults before after
no_faults x before after (inl same) = same
no_faults x before after (inr is) = absurd cc

pub gather_joins : (locations : List SegmentLocation) (limit : ℕ) (start scan : ScanData) (outputs : List ColumnData) (result : Result (Option ColumnData) ScanError) (before after : SourceState) → GatherGives locations limit start (Ok tt) outputs scan before after
    → IfOk result (IsJoined outputs) → IfErr result (λ error. error ≡ Memory) → RunGives locations limit start result scan before after
gather_joins locations limit start scan outputs (Ok output) before after ends joined memory = record {
  answer = joined_gives locations start scan before outputs output ends.answer joined;
  left = tt;
  asks = ends.asks;
  faults = inl (no_faults tt before after ends.faults);
  nodes = ends.nodes;
  job = ends.job;
  told = ends.told;
  leaves = ends.leaves;
  wholes = ends.wholes;
  lasts = ends.lasts;
}
gather_joins locations limit start scan outputs (Err error) before after ends joined memory =
    subst (λ (e : ScanError). RunGives locations limit start (Err e) scan before after) (sym memory) (record {
      answer = tt;
      left = tt;
      asks = ends.asks;
      faults = inl (no_faults tt before after ends.faults);
      nodes = ends.nodes;
      job = ends.job;
      told = ends.told;
      leaves = ends.leaves;
      wholes = ends.wholes;
      lasts = ends.lasts;
    })
