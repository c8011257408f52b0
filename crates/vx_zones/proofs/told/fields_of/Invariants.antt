use Rattle.std.proofs.Common.{◌≡◌, map, take}
use Rattle.vx_base.specs.ValueViews.{datum}
use Rattle.vx_arrays.specs.Fields.{field_at}
use Rattle.vx_zones.proofs.told.fields_of.Given as goal

abbrev pub invariant-loop-value : goal.invariant-loop-value
invariant-loop-value l = map datum l.found.items ≡ map (field_at l.place) (map datum (take l.value-index l.value-items))
