use Rattle.std.proofs.Common.{◌+◌, ◌*◌, take}
use Rattle.vx_types.specs.Sizes.{type_size, members_size}
use Rattle.vx_types.specs.Views.{data_type, members_of}
use Rattle.vx_types.specs.Names.{HaveDistinctNames}
use Rattle.vx_types.proofs.field_names.+distinct.Given as goal

abbrev pub decreases-has_distinct_names : goal.decreases-has_distinct_names
decreases-has_distinct_names l = 2 * type_size (data_type l.dtype.now)

abbrev pub decreases-have_distinct_names : goal.decreases-have_distinct_names
decreases-have_distinct_names l = 2 * members_size (members_of l.fields.now) + 1

abbrev pub invariant-have_distinct_names-loop-field : goal.invariant-have_distinct_names-loop-field
invariant-have_distinct_names-loop-field l = HaveDistinctNames (members_of (take l.field-index l.fields))
