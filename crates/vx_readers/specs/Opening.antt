-- When there is no reader of a layout.
use Rattle.std.specs.Prelude.{◌≡◌, ◌<◌, ℕ, List, IsSomeAnd}
use Rattle.std.specs.List.{slice_get}
use Rattle.vx_layout.specs.declared.nodes.LayoutKind.{LayoutKind}
use Rattle.vx_layout.specs.declared.nodes.LayoutKind.TheVariants.{Zoned}
use Rattle.vx_layout.specs.declared.nodes.LayoutKind.TheVariants as kinds
use Rattle.vx_layout.specs.Nodes.{Node}
use Rattle.vx_readers.specs.declared.readers.OpenError.{OpenError}
use Rattle.vx_readers.specs.declared.readers.OpenError.TheVariants.{Unsupported, ZeroZoneLength}
use Rattle.vx_reads.specs.Readable.{IsFirstUnreadable}

-- data in zones of no rows
abbrev pub HasEmptyZones : LayoutKind → Type 0
HasEmptyZones (Zoned zone_len stats) = zone_len ≡ 0
HasEmptyZones kind = ⊥

-- the node is so; it is not
abbrev pub IsEmptyZoned : List Node → ℕ → Type 0
IsEmptyZoned nodes n = IsSomeAnd (slice_get nodes n) (λ node. HasEmptyZones node.kind)

abbrev pub IsNotEmptyZoned : List Node → ℕ → Type 0
IsNotEmptyZoned nodes n = IsSomeAnd (slice_get nodes n) (λ node. ¬ HasEmptyZones node.kind)

-- the first node that no reader reads, and whether that is because its zones have no rows
abbrev pub OpenRefused : List Node → OpenError → Type 0
OpenRefused nodes (Unsupported n) = IsFirstUnreadable nodes n × IsNotEmptyZoned nodes n
OpenRefused nodes (ZeroZoneLength n) = IsFirstUnreadable nodes n × IsEmptyZoned nodes n

-- ---- a node alone, as the search for the first node that isn't read looks at it; no promise cites this part

-- no reader refuses the kind for itself; of a struct it is asked besides whether it is zones
abbrev pub IsReadableAlone : LayoutKind → Type 0
IsReadableAlone (kinds.Flat segment coding) = Unit {0}
IsReadableAlone kinds.Chunked = Unit {0}
IsReadableAlone kinds.Struct = Unit {0}
IsReadableAlone kinds.Dict = Unit {0}
IsReadableAlone (kinds.Zoned zone_len stats) = 0 < zone_len
IsReadableAlone kind = ⊥

-- the error names the node, and says why
abbrev pub IsRefusedAlone : LayoutKind → ℕ → OpenError → Type 0
IsRefusedAlone (kinds.Zoned zone_len stats) n (ZeroZoneLength node) = (node ≡ n) × (zone_len ≡ 0)
IsRefusedAlone kinds.List n (Unsupported node) = node ≡ n
IsRefusedAlone (kinds.LegacyStats zone_len stats) n (Unsupported node) = node ≡ n
IsRefusedAlone kind n error = ⊥
