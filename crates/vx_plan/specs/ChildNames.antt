-- The names of children.
use Rattle.std.specs.Prelude.{ℕ, zero, suc, codes, decimal, ◌++◌, List, Option, Some, None}
use Rattle.std.specs.List.{slice_get}
use Rattle.vx_base.specs.Views.{FieldData, fields_in}
use Rattle.vx_plan.specs.declared.nodes.PlanKind.{PlanKind}
use Rattle.vx_plan.specs.declared.nodes.PlanKind.TheVariants as kinds
use Rattle.vx_plan.specs.Nodes.{Node}
use Rattle.vx_plan.specs.Rules.{members_of_type}

-- a field's name, and that of the validity behind the fields
abbrev pub field_name : Option FieldData → List ℕ
field_name (Some field) = field.name
field_name None = codes "validity"

abbrev pub take_name : ℕ → List ℕ
take_name zero = codes "codes"
take_name (suc place) = codes "values"

abbrev pub list_name : ℕ → List ℕ
list_name zero = codes "elements"
list_name (suc zero) = codes "offsets"
list_name (suc (suc place)) = codes "validity"

abbrev pub zoned_name : ℕ → List ℕ
zoned_name zero = codes "data"
zoned_name (suc place) = codes "zones"

abbrev pub name_as : PlanKind → Node → ℕ → List ℕ
name_as kinds.Concat node place = codes "chunks[" ++ decimal place ++ codes "]"
name_as (kinds.Pack has_validity) node place = field_name (slice_get (fields_in (members_of_type node.dtype)) place)
name_as kinds.Take node place = take_name place
name_as (kinds.ListPack has_validity) node place = list_name place
name_as (kinds.Zoned zone_len stats) node place = zoned_name place
name_as (kinds.LegacyStats zone_len stats) node place = zoned_name place
name_as (kinds.Pruning zone_len stats proof) node place = codes "zones"
name_as kind node place = codes "child"

-- the name of the child at a place
abbrev pub child_name : Node → ℕ → List ℕ
child_name node place = name_as node.kind node place
