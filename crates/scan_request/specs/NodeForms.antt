-- The form of a node: an object of exactly its kind, dtype and rows, and the members of its kind.
use Rattle.std.specs.Prelude.{ℕ, ◌+◌, ◌^◌, codes, if◌then◌else◌, List, [], ◌∷◌, Option, Some, None}
use Rattle.std.specs.Map.{lookup}
use Rattle.std.specs.Str.{bytes_eq}
use Rattle.std.specs.Option.{option_map_or}
use Rattle.serde_json.specs.Data.{Data}
use Rattle.serde_json.specs.Find.{get, as_str, as_array}
use Rattle.vx_base.specs.declared.codings.Coding.{Coding}
use Rattle.vx_base.specs.declared.codings.Coding.TheVariants.{Plain, Constant, Runs}
use Rattle.vx_expr.specs.declared.statistics.Statistic.{Statistic}
use Rattle.vx_expr.specs.declared.statistics.Statistic.TheVariants.{Min, Max, NullCount}
use Rattle.vx_layout.specs.declared.nodes.LayoutKind.{LayoutKind}
use Rattle.vx_layout.specs.declared.nodes.LayoutKind.TheVariants as kinds
use Rattle.vx_layout.specs.Nodes.{Node}
use Rattle.scan_words.specs.Words.{◌>>=◌}
use Rattle.scan_json.specs.Forms.{each_form}
use Rattle.scan_request.specs.JsonForms.{whole_form, has_members, optional_form}
use Rattle.scan_request.specs.DtypeForms.{dtype_under}

-- ---- kinds

-- the statistics by their names
abbrev pub statistic_names : List (List ℕ × Statistic)
statistic_names = (codes "min", Min) ∷ (codes "max", Max) ∷ (codes "null_count", NullCount) ∷ []

abbrev pub statistic_form : Data → Option Statistic
statistic_form d = as_str d >>= λ name. lookup (bytes_eq name) statistic_names

-- the length of the zones, and their statistics, in order
abbrev pub zones_form : Data → Option (ℕ × List Statistic)
zones_form d = get (codes "zone_len") d >>= whole_form (2 ^ 64) >>= λ zone_len. get (codes "stats") d >>= as_array >>= each_form statistic_form >>= λ stats. Some (zone_len, stats)

-- the kinds of which children tell all else, by their names
abbrev pub plain_kinds : List (List ℕ × LayoutKind)
plain_kinds = (codes "chunked", kinds.Chunked) ∷ (codes "struct", kinds.Struct) ∷ (codes "dict", kinds.Dict) ∷ (codes "list", kinds.List) ∷ []

-- the codings by their names
abbrev pub coding_names : List (List ℕ × Coding)
coding_names = (codes "plain", Plain) ∷ (codes "constant", Constant) ∷ (codes "runs", Runs) ∷ []

abbrev pub coding_form : Data → Option Coding
coding_form d = as_str d >>= λ name. lookup (bytes_eq name) coding_names

-- the coding that a node tells, and the plain one where it tells none
abbrev pub coding_under : Data → Option Coding
coding_under d = optional_form Plain coding_form (get (codes "coding") d)

-- a flat one has its segment, and how that is coded
abbrev pub flat_form : Data → Option LayoutKind
flat_form d = get (codes "segment") d >>= whole_form (2 ^ 32) >>= λ segment. coding_under d >>= λ coding. Some (kinds.Flat segment coding)

-- a zoned one of either form has such zones
abbrev pub zoned_by : Option (ℕ × List Statistic) → Option LayoutKind
zoned_by zones = zones >>= λ told. Some (kinds.Zoned told.0 told.1)

abbrev pub legacy_by : Option (ℕ × List Statistic) → Option LayoutKind
legacy_by zones = zones >>= λ told. Some (kinds.LegacyStats told.0 told.1)

-- a kind by its name, with the members that it has besides children
abbrev pub kind_named : Data → List ℕ → Option LayoutKind
kind_named d name =
    if bytes_eq name (codes "flat") then flat_form d
    else (if bytes_eq name (codes "zoned") then zoned_by (zones_form d)
    else (if bytes_eq name (codes "legacy_stats") then legacy_by (zones_form d)
    else lookup (bytes_eq name) plain_kinds))

abbrev pub kind_form : Data → Option LayoutKind
kind_form d = get (codes "kind") d >>= as_str >>= kind_named d

-- ---- nodes

-- how many members tell a coding
abbrev pub coding_count : Data → ℕ
coding_count d = option_map_or (λ coding. 1) (get (codes "coding") d) 0

-- kind, dtype, rows, and of a flat node its segment and the coding that it may tell, of each other its children; and
-- zone length and statistics
abbrev pub member_count : LayoutKind → Data → ℕ
member_count (kinds.Flat segment coding) d = 4 + coding_count d
member_count kinds.Chunked d = 4
member_count kinds.Struct d = 4
member_count kinds.Dict d = 4
member_count kinds.List d = 4
member_count (kinds.Zoned zone_len stats) d = 6
member_count (kinds.LegacyStats zone_len stats) d = 6

-- the numbers of the children, of which a flat node has none
abbrev pub numbers_under : Data → Option (List ℕ)
numbers_under d = get (codes "children") d >>= as_array >>= each_form (whole_form (2 ^ 32))

abbrev pub children_form : LayoutKind → Data → Option (List ℕ)
children_form (kinds.Flat segment coding) d = Some []
children_form kinds.Chunked d = numbers_under d
children_form kinds.Struct d = numbers_under d
children_form kinds.Dict d = numbers_under d
children_form kinds.List d = numbers_under d
children_form (kinds.Zoned zone_len stats) d = numbers_under d
children_form (kinds.LegacyStats zone_len stats) d = numbers_under d

-- a node of a kind, which tells how many rows it has, the numbers of its children and its dtype
unfoldable pub node_of_kind : LayoutKind → Data → Option Node
node_of_kind kind d = if has_members (member_count kind d) d then (get (codes "rows") d >>= whole_form (2 ^ 64) >>= λ rows. children_form kind d >>= λ children. dtype_under (codes "dtype") d >>= λ dtype. Some (record { kind = kind; dtype = dtype; rows = rows; children = children })) else None

unfoldable pub node_form : Data → Option Node
node_form d = kind_form d >>= λ kind. node_of_kind kind d
