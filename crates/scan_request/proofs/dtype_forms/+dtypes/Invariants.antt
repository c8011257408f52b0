use Rattle.std.proofs.Common.{◌≡◌, ◌+◌, ◌*◌, length, map, option_map}
use Rattle.serde_json.specs.Data.{Members}
use Rattle.scan_json.specs.Singles.{single_said}
use Rattle.scan_json.proofs.ListTurns.{IsListRead}
use Rattle.scan_json.proofs.ObjectTurns.{IsObjectRead}
use Rattle.scan_request.specs.DtypeForms.{field_form, nested_value}
use Rattle.scan_request.specs.DtypeViews.{nested_told}
use Rattle.scan_request.proofs.dtype_forms.+dtypes.Given as goal
use Rattle.vx_base.specs.Views.{field_data}

abbrev pub decreases-dtype_of : goal.decreases-dtype_of
decreases-dtype_of l = 5 * l.depth

abbrev pub decreases-nested_in : goal.decreases-nested_in
decreases-nested_in l = 5 * l.depth + 4

abbrev pub decreases-nested_named : goal.decreases-nested_named
decreases-nested_named l = 5 * l.depth + 3

abbrev pub decreases-fields_of : goal.decreases-fields_of
decreases-fields_of l = 5 * l.depth + 2

abbrev pub decreases-fields_in : goal.decreases-fields_in
decreases-fields_in l = 5 * l.depth + 4

abbrev pub decreases-field_of : goal.decreases-field_of
decreases-field_of l = 5 * l.depth + 2

abbrev pub decreases-field_in : goal.decreases-field_in
decreases-field_in l = 5 * l.depth + 1

abbrev pub invariant-nested_in-members : goal.invariant-nested_in-members
invariant-nested_in-members l = (found : Members) × IsObjectRead l.depth l.initial.reader found l.reader × (nested_told l.told ≡ single_said nested_value found)

abbrev pub decreases-nested_in-members : goal.decreases-nested_in-members
decreases-nested_in-members l = length l.reader

abbrev pub invariant-fields_in-items : goal.invariant-fields_in-items
invariant-fields_in-items l = IsListRead field_form l.depth l.initial.reader (option_map (λ v. map field_data v.items) l.made) l.reader

abbrev pub decreases-fields_in-items : goal.decreases-fields_in-items
decreases-fields_in-items l = length l.reader
