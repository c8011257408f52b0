use Rattle.std.proofs.Common.{◌≡◌, ◌+◌, ◌*◌, map, take}
use Rattle.vx_types.specs.Sizes.{type_size, members_size}
use Rattle.vx_types.specs.Views.{data_type, field_data}
use Rattle.vx_types.proofs.dtypes.+copy.Given as goal

abbrev pub decreases-DType::copy : goal.decreases-DType::copy
decreases-DType::copy l = 3 * type_size (data_type l.self.now)

abbrev pub decreases-Fields::copy : goal.decreases-Fields::copy
decreases-Fields::copy l = 3 * members_size l.self.now + 2

abbrev pub decreases-OwnFields::copy : goal.decreases-OwnFields::copy
decreases-OwnFields::copy l = 3 * members_size l.self.now + 1

abbrev pub invariant-OwnFields::copy-loop-field : goal.invariant-OwnFields::copy-loop-field
invariant-OwnFields::copy-loop-field l = map field_data l.fields.items ≡ map field_data (take l.field-index l.items)
