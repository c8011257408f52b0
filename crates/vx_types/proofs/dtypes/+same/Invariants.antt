use Rattle.std.proofs.Common.{◌≡◌, ◌+◌, ◌*◌, map, take}
use Rattle.vx_types.specs.Sizes.{type_size, members_size}
use Rattle.vx_types.specs.Views.{data_type, field_data}
use Rattle.vx_types.proofs.dtypes.+same.Given as goal

abbrev pub decreases-DType::same : goal.decreases-DType::same
decreases-DType::same l = 2 * type_size (data_type l.self.now)

abbrev pub decreases-Fields::same : goal.decreases-Fields::same
decreases-Fields::same l = 2 * members_size l.self.now + 1

abbrev pub invariant-Fields::same-loop-place : goal.invariant-Fields::same-loop-place
invariant-Fields::same-loop-place l = map field_data (take l.place l.ones) ≡ map field_data (take l.place l.others)
