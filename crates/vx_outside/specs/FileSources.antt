-- What a source over an opened file is to its callers.
use Rattle.std.specs.Prelude.{ℕ, ◌+◌, ◌≤◌, Option, Some, None, option_map, IsSome}
use Rattle.vx_outside.specs.Sources.{SourceState}
use Rattle.vx_outside.specs.declared.locations.SegmentLocation.{SegmentLocation}
use Rattle.vx_outside.specs.declared.file_sources.FileSource.{FileSource}

-- it tells neither its file nor what was asked
abbrev pub file_state : FileSource → SourceState
file_state source = record {
  file = None;
  asked = None;
  in_flight = source.in_flight.reads;
  faults = source.faults;
  idle = source.idle;
}

-- there is a file that it reads
abbrev pub IsOpen : FileSource → Type 0
IsOpen source = IsSome source.file

-- how many bytes the file had when it was opened, where there is one
abbrev pub size_of_file : FileSource → Option ℕ
size_of_file source = option_map (λ file. file.size) source.file

-- a location lies inside a file of that size
abbrev pub LiesInside : Option ℕ → SegmentLocation → Type 0
LiesInside (Some size) at = at.offset + at.length ≤ size
LiesInside None at = ⊥

-- how many tickets it gave, which is the next one
abbrev pub tickets_given : FileSource → ℕ
tickets_given source = source.in_flight.next
