-- Small literals, on which the definitions of the machine are checked.
use Rattle.std.specs.Prelude.{ℕ, List, [], ◌∷◌, Option}
use Rattle.vx_base.specs.declared.locations.SegmentLocation.{SegmentLocation}
use Rattle.vx_io.specs.declared.requests.IoIntent.{IoIntent}
use Rattle.vx_io.specs.declared.requests.IoTarget.TheVariants.{Range}
use Rattle.vx_io.specs.Ranges.{RangeTable, range_at}
use Rattle.vx_io.specs.Session.{Waiting, Step, requested}

-- four bytes from the start of the file, with an alignment, and the table in which segment 0 has them
abbrev pub four_bytes : ℕ → SegmentLocation
four_bytes alignment = record { offset = 0; length = 4; alignment = alignment }

abbrev pub one_range : RangeTable
one_range = (range_at 0 4, 0) ∷ []

-- a request for them by owner 7, and the ticket that an ask of it gives
abbrev pub asked_by : IoIntent → ℕ → ℕ → Step
asked_by intent number ticket =
    requested (record { 0 = 7 }) (record { intent = intent; request = record { 0 = number }; target = Range 0 4 8 }) ticket

abbrev pub waiting_of : List ℕ → Option ℕ → Waiting
waiting_of announced prefetched = record { announced = announced; prefetched = prefetched }
