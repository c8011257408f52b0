-- A file and the settings of its scan as plain data.
use Rattle.std.specs.Prelude.{true, None}
use Rattle.vx_base.specs.Data.{DataType}
use Rattle.vx_splits.specs.declared.selections.Selection.TheVariants.{All}
use Rattle.vx_layout.specs.declared.files.ScanFile.{ScanFile}
use Rattle.vx_scan.specs.declared.settings.Settings.{Settings}
use Rattle.vx_scan.specs.Answer.{FileScan}
use Rattle.vx_scan.specs.Builders.{Building, default_concurrency, default_idle_limit, scan_of, whole_root}

-- where nothing is said, over a root of the dtype
abbrev pub new_settings : DataType → Settings
new_settings t = record {
  projection = whole_root t;
  range = None;
  selection = All;
  limit = None;
  row_offset = 0;
  ordered = true;
  concurrency = default_concurrency;
  idle_limit = default_idle_limit;
}

abbrev pub building_of : ScanFile → Settings → Building
building_of file settings = record {
  nodes = file.layout;
  locations = file.locations.items;
  projection = settings.projection;
  range = settings.range;
  selection = settings.selection;
  limit = settings.limit;
  row_offset = settings.row_offset;
  ordered = settings.ordered;
  concurrency = settings.concurrency;
  idle_limit = settings.idle_limit;
}

-- the scan of the file by the settings
abbrev pub scan_by : ScanFile → Settings → FileScan
scan_by file settings = scan_of (building_of file settings)
