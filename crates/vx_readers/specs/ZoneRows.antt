-- A truth value for each zone, as one for each row of the zones.
use Rattle.std.specs.Prelude.{ℕ, ◌/◌, Bool, false, List, map, get_or}
use Rattle.std.specs.List.{range_with_len}

-- that of the zone of a row, where zones have so many rows
abbrev pub zone_bit : List Bool → ℕ → ℕ → Bool
zone_bit bits zone_len row = get_or bits (row / zone_len) false

-- of so many rows, from the first one on
abbrev pub zone_bits : List Bool → ℕ → ℕ → ℕ → List Bool
zone_bits bits zone_len start count = map (zone_bit bits zone_len) (range_with_len start count)
