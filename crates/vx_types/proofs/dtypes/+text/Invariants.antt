use Rattle.std.proofs.Common.{◌≡◌, ◌+◌, ◌*◌, ◌++◌, drop}
use Rattle.vx_types.specs.Sizes.{type_size, members_size}
use Rattle.vx_types.specs.TypeText.{members_text}
use Rattle.vx_types.specs.Views.{data_type, members_of}
use Rattle.vx_types.proofs.FieldTexts.{left_text}
use Rattle.vx_types.proofs.dtypes.+text.Given as goal

abbrev pub decreases-DType::write_text : goal.decreases-DType::write_text
decreases-DType::write_text l = 2 * type_size (data_type l.self.now)

abbrev pub decreases-Fields::write_text : goal.decreases-Fields::write_text
decreases-Fields::write_text l = 2 * members_size l.self.now + 1

abbrev pub invariant-Fields::write_text-loop-place : goal.invariant-Fields::write_text-loop-place
invariant-Fields::write_text-loop-place l = l.out.items ++ left_text l.place (drop l.place l.items) ≡ l.fn.out.items ++ members_text (members_of l.items)
