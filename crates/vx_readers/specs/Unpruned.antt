-- Which selected rows of a range lie in no pruned zone, by the bytes of the segments, and why that isn't known.
use Rattle.std.specs.Prelude.{◌≡◌, ℕ, ◌+◌, ◌-◌, ◌*◌, min, Bool, true, false, ◌&&◌, not, List, [], ◌∷◌, Option, Some, IsSome}
use Rattle.std.specs.List.{list_any, slice_get, AllByRecursion}
use Rattle.std.specs.Option.{option_map_or}
use Rattle.vx_base.specs.Data.{Datum}
use Rattle.vx_expr.specs.Rows.{no_bound}
use Rattle.vx_expr.specs.Terms.{Term}
use Rattle.vx_layout.specs.Kept.{all}
use Rattle.vx_layout.specs.Rows.{derivation}
use Rattle.vx_layout.specs.Trees.{head_of}
use Rattle.vx_rows.specs.Reads.{AnyOf}
use Rattle.vx_rows.specs.SegmentLeaves.{Bytes}
use Rattle.vx_zones.specs.Prunes.{prunes}
use Rattle.vx_zones.specs.Tables.{Zone, zone_of}
use Rattle.vx_reads.specs.declared.errors.ReaderError.{ReaderError}
use Rattle.vx_reads.specs.declared.errors.ReaderError.TheVariants.{ReadFault, BadSegment, BadCode, EvalFault, NoLocation, Memory}
use Rattle.vx_reads.specs.declared.reads.SegmentRead.{SegmentRead}
use Rattle.vx_reads.specs.Computed.{row_value, HasCause}
use Rattle.vx_reads.specs.Reads.{HaveBytes}
use Rattle.vx_reads.specs.Truths.{EachRow}
use Rattle.vx_readers.specs.ZonesOver.{ZoneOver, ZonesBy}

-- ---- a zone

-- what is told of the zone; none is a fault
abbrev pub told_by : Bytes → ZoneOver → Option Datum
told_by bytes over = row_value bytes (derivation over.table all) over.place

-- the zone of which that is told: the last one has the rows that are left
abbrev pub zone_told : ZoneOver → Datum → Zone
zone_told over told = zone_of over.zones.statistics (min over.zones.zone_len (over.rows - over.place * over.zones.zone_len)) told

-- whether the predicate prunes it by what is told
abbrev pub prunes_over : Bytes → Term → ZoneOver → Bool
prunes_over bytes e over = option_map_or (λ told. prunes no_bound e (zone_told over told)) (told_by bytes over) false

-- ---- rows

-- whether the predicate prunes a zone over the row
abbrev pub is_pruned : Bytes → ZonesBy → Term → ℕ → Bool
is_pruned bytes zones e row = list_any (prunes_over bytes e) (zones row)

-- each zone over the row is told of
abbrev pub AreTold : Bytes → ZonesBy → ℕ → Type 0
AreTold bytes zones row = AllByRecursion (λ over. IsSome (told_by bytes over)) (zones row)

-- the selected rows that are not pruned, from the first row of the range on
abbrev pub unpruned : (ℕ → Bool) → ℕ → List Bool → List Bool
unpruned pruned start [] = []
unpruned pruned start (bit ∷ bits) = (bit && not (pruned start)) ∷ unpruned pruned (start + 1) bits

-- The mask's rows over which no zone is pruned; what is told of each zone over a row of the mask is known.
pub record IsUnpruned (bytes : Bytes) (zones : ZonesBy) (e : Term) (start : ℕ) (bits kept : List Bool) : Type 0 where
  pub is : kept ≡ unpruned (is_pruned bytes zones e) start bits
  pub told : EachRow (AreTold bytes zones) start bits

-- ---- causes

-- some row of what is told of the zones reads what the fault names
abbrev pub TableFails : Bytes → ReaderError → ZoneOver → Type 0
TableFails bytes fault over = HasCause bytes (derivation over.table all) 0 (head_of over.table).rows fault

-- and one of these zones lies over a selected row
abbrev pub SelectedFails : Bytes → ZonesBy → ℕ → List Bool → ReaderError → Type 0
SelectedFails bytes zones start bits fault = (place : ℕ) × (slice_get bits place ≡ Some true) × AnyOf (TableFails bytes fault) (zones (start + place))

-- why it isn't known which rows are pruned: never for an expression that is a fault, since none is worked out over a row
abbrev pub PruningCause : Bytes → ZonesBy → ℕ → List Bool → ReaderError → Type 0
PruningCause bytes zones start bits (BadSegment segment) = SelectedFails bytes zones start bits (BadSegment segment)
PruningCause bytes zones start bits (BadCode node row) = SelectedFails bytes zones start bits (BadCode node row)
PruningCause bytes zones start bits Memory = Unit {0}
PruningCause bytes zones start bits ReadFault = ⊥
PruningCause bytes zones start bits (EvalFault row) = ⊥
PruningCause bytes zones start bits (NoLocation segment) = ⊥

-- ---- by all bytes that the reads have

abbrev pub AreUnprunedBy : List SegmentRead → ZonesBy → Term → ℕ → List Bool → List Bool → Type 0
AreUnprunedBy reads zones e start bits kept = (bytes : Bytes) → HaveBytes bytes reads → IsUnpruned bytes zones e start bits kept

abbrev pub PruningFails : List SegmentRead → ZonesBy → ℕ → List Bool → ReaderError → Type 0
PruningFails reads zones start bits fault = (bytes : Bytes) → HaveBytes bytes reads → PruningCause bytes zones start bits fault
