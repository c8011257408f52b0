-- Counts by key, in a map.
use Rattle.std.specs.Prelude.{ℕ}
use Rattle.std.specs.Option.{unwrap_or}
use Rattle.std.specs.BTreeMap.{BTreeMap, get}
use Rattle.std.specs.Ordering.{nat_cmp}

-- the count of the key, 0 where it has none
abbrev pub count_in : BTreeMap ℕ ℕ → ℕ → ℕ
count_in counts key = unwrap_or (get nat_cmp counts key) 0
