use Rattle.std.proofs.Common.{◌≡◌, ◌+◌, ◌-◌, ◌≤◌, ◌++◌, replicate}
use Rattle.vx_readers.specs.ZoneRows.{zone_bits}
use Rattle.vx_readers.proofs.zone_rows.zone_rows.Given as goal

abbrev pub decreases-zones : goal.decreases-zones
decreases-zones l = l.end - l.row

abbrev pub invariant-zones : goal.invariant-zones
invariant-zones l = record {
  from : l.start ≤ l.row;
  to : l.row ≤ l.end;
  alike : l.alike ≤ l.row - l.start;
  rows : l.rows ++ replicate l.alike l.is ≡ zone_bits l.zones l.zone_len l.start (l.row - l.start);
}
