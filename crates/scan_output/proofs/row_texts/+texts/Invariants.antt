use Rattle.std.proofs.Common.{◌≡◌, ◌+◌, ◌*◌, ◌++◌}
use Rattle.scan_output.specs.RowText.{fields_text}
use Rattle.scan_output.proofs.RowTexts.{fields_left}
use Rattle.scan_output.proofs.row_texts.+texts.Given as goal
use Rattle.vx_base.specs.Data.{structure}
use Rattle.vx_base.specs.Sizes.{type_size, members_size}
use Rattle.vx_base.specs.Views.{data_type, members_of}

abbrev pub decreases-append_value : goal.decreases-append_value
decreases-append_value l = 3 * type_size (data_type l.dtype.now)

abbrev pub decreases-append_item : goal.decreases-append_item
decreases-append_item l = 3 * type_size (data_type l.dtype.now) + 1

abbrev pub decreases-append_fields : goal.decreases-append_fields
decreases-append_fields l = 3 * members_size l.fields.now + 2

abbrev pub invariant-append_fields-loop-place : goal.invariant-append_fields-loop-place
invariant-append_fields-loop-place l = l.out.items ++ fields_left l.place l.members (structure l.values) ≡ l.fn.out.items ++ fields_text 0 (members_of l.members) (structure l.values)
