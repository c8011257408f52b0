-- A scan as it is built: the file's layout and segments, and the settings.
use Rattle.std.specs.Prelude.{◌≡◌, ℕ, zero, suc, if◌then◌else◌, Bool, true, List, [], Option, None, refl}
use Rattle.std.specs.Coded.{Coded, code_by, coded_ℕ, coded_bool, coded_list, coded×, coded_option}
use Rattle.std.specs.declared.ops.Range.{Range}
use Rattle.vx_base.specs.declared.locations.SegmentLocation.{SegmentLocation}
use Rattle.vx_base.specs.Data.{DataType}
use Rattle.vx_expr.specs.Bound.{Bound, coded_bound}
use Rattle.vx_expr.specs.Mentions.{uses_row_number}
use Rattle.vx_expr.specs.Terms.{root}
use Rattle.vx_layout.specs.NodeCodes.{coded_nodes}
use Rattle.vx_layout.specs.Nodes.{Node}
use Rattle.vx_layout.specs.Trees.{head_of, subtree}
use Rattle.vx_splits.specs.declared.selections.Selection.{Selection}
use Rattle.vx_splits.specs.declared.selections.Selection.TheVariants.{All, IncludeByIndex, ExcludeByIndex}
use Rattle.vx_scan.specs.Answer.{FileScan}

-- The nodes of the file's layout, and where its segments lie. What is projected of a row; the range of rows, if one is
-- given, which rows of it are selected, and how many of them are read at most, if a limit is given; from which number on
-- rows are counted; whether the batches come in the order of the file; how many pieces of work may be in hand; and how
-- often a source may answer that a read goes on, from one completion to the next.
pub record Building : Type 0 where
  pub nodes : List Node
  pub locations : List SegmentLocation
  pub projection : Bound
  pub range : Option (Range ℕ)
  pub selection : Selection
  pub limit : Option ℕ
  pub row_offset : ℕ
  pub ordered : Bool
  pub concurrency : ℕ
  pub idle_limit : ℕ

-- ---- where nothing is said

abbrev pub default_concurrency : ℕ
default_concurrency = 4

abbrev pub default_idle_limit : ℕ
default_idle_limit = 1000000

-- the root itself, of that dtype
abbrev pub whole_root : DataType → Bound
whole_root t = record { term = root; root = t; dtype = t }

-- all rows of the file, whole, in order
abbrev pub new_building : List Node → List SegmentLocation → Building
new_building nodes locations = record {
  nodes = nodes;
  locations = locations;
  projection = whole_root (head_of (subtree nodes 0)).dtype;
  range = None;
  selection = All;
  limit = None;
  row_offset = 0;
  ordered = true;
  concurrency = default_concurrency;
  idle_limit = default_idle_limit;
}

-- ---- the scan that is built

-- rows are counted from the offset on, where their numbers are used
abbrev pub counted_from : Bound → ℕ → ℕ
counted_from projection row_offset = if uses_row_number projection.term then row_offset else 0

abbrev pub scan_of : Building → FileScan
scan_of building = record {
  projection = record {
    root = subtree building.nodes 0;
    expression = building.projection;
    offset = counted_from building.projection building.row_offset;
  };
  selection = building.selection;
  range = building.range;
  limit = building.limit;
  locations = building.locations;
}

-- ---- as a tree of numbers

abbrev pub location_parts : SegmentLocation → ℕ × (ℕ × ℕ)
location_parts at = (at.offset, (at.length, at.alignment))

abbrev pub location_with : ℕ × (ℕ × ℕ) → SegmentLocation
location_with parts = record { offset = parts.0; length = parts.1.0; alignment = parts.1.1 }

abbrev pub coded_locations : Coded (List SegmentLocation)
coded_locations = coded_list (code_by (ℕ × (ℕ × ℕ)) (coded× coded_ℕ (coded× coded_ℕ coded_ℕ)) location_parts location_with (λ _. refl))

abbrev pub range_with : ℕ × ℕ → Range ℕ
range_with parts = record { start = parts.0; end = parts.1 }

abbrev pub coded_range : Coded (Option (Range ℕ))
coded_range = coded_option (code_by (ℕ × ℕ) (coded× coded_ℕ coded_ℕ) (λ (range : Range ℕ). (range.start, range.end)) range_with (λ _. refl))

-- a selection as its number among the kinds, and its rows
abbrev pub selection_parts : Selection → ℕ × List ℕ
selection_parts All = (0, [])
selection_parts (IncludeByIndex rows) = (1, rows)
selection_parts (ExcludeByIndex rows) = (2, rows)

abbrev selection_from : ℕ → List ℕ → Selection
selection_from zero rows = All
selection_from (suc zero) rows = IncludeByIndex rows
selection_from (suc (suc k)) rows = ExcludeByIndex rows

abbrev pub selection_with : ℕ × List ℕ → Selection
selection_with parts = selection_from parts.0 parts.1

pub selection_back : (selection : Selection) → selection_with (selection_parts selection) ≡ selection
selection_back All = refl
selection_back (IncludeByIndex rows) = refl
selection_back (ExcludeByIndex rows) = refl

abbrev pub coded_selection : Coded Selection
coded_selection = code_by (ℕ × List ℕ) (coded× coded_ℕ (coded_list coded_ℕ)) selection_parts selection_with selection_back

-- the rows of a scan, by range, selection, limit and offset
abbrev pub Taking : Type 0
Taking = Option (Range ℕ) × (Selection × (Option ℕ × ℕ))

abbrev pub coded_taking : Coded Taking
coded_taking = coded× coded_range (coded× coded_selection (coded× (coded_option coded_ℕ) coded_ℕ))

-- how it runs, by order, concurrency and idle limit
abbrev pub Running : Type 0
Running = Bool × (ℕ × ℕ)

abbrev pub coded_running : Coded Running
coded_running = coded× coded_bool (coded× coded_ℕ coded_ℕ)

abbrev pub Parts : Type 0
Parts = List Node × (List SegmentLocation × (Bound × (Taking × Running)))

abbrev pub building_parts : Building → Parts
building_parts b =
    (b.nodes, (b.locations, (b.projection, ((b.range, (b.selection, (b.limit, b.row_offset))), (b.ordered, (b.concurrency, b.idle_limit))))))

abbrev pub building_with : Parts → Building
building_with parts = record {
  nodes = parts.0;
  locations = parts.1.0;
  projection = parts.1.1.0;
  range = parts.1.1.1.0.0;
  selection = parts.1.1.1.0.1.0;
  limit = parts.1.1.1.0.1.1.0;
  row_offset = parts.1.1.1.0.1.1.1;
  ordered = parts.1.1.1.1.0;
  concurrency = parts.1.1.1.1.1.0;
  idle_limit = parts.1.1.1.1.1.1;
}

abbrev pub coded_building : Coded Building
coded_building =
    code_by Parts (coded× coded_nodes (coded× coded_locations (coded× coded_bound (coded× coded_taking coded_running))))
    building_parts building_with (λ _. refl)
