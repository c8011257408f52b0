use Rattle.std.proofs.Common.{◌≡◌, ◌+◌, ◌*◌, ◌++◌, map}
use Rattle.scan_output.specs.FieldLeads.{lead_data}
use Rattle.scan_output.specs.RowText.{fields_text}
use Rattle.scan_output.proofs.Leads.{leads_left}
use Rattle.scan_output.proofs.RowTexts.{fields_left}
use Rattle.scan_output.proofs.cell_texts.+cells.Given as goal
use Rattle.vx_base.specs.Cells.{struct_at}
use Rattle.vx_base.specs.Sizes.{type_size, members_size}
use Rattle.vx_base.specs.Views.{data_type, members_of}

abbrev pub decreases-append_struct : goal.decreases-append_struct
decreases-append_struct l = 4 * type_size (data_type l.dtype.now)

abbrev pub decreases-append_cell : goal.decreases-append_cell
decreases-append_cell l = 4 * type_size (data_type l.dtype.now) + 1

abbrev pub decreases-append_field : goal.decreases-append_field
decreases-append_field l = 4 * type_size (data_type l.dtype.now) + 2

abbrev pub decreases-append_fields : goal.decreases-append_fields
decreases-append_fields l = 4 * members_size l.fields.now + 3

abbrev pub invariant-append_fields-loop-place : goal.invariant-append_fields-loop-place
invariant-append_fields-loop-place l = record {
  leads : map lead_data l.rest ≡ leads_left l.place l.members;
  written : l.out.items ++ fields_left l.place l.members (struct_at l.parts.rows l.row) ≡ l.fn.out.items ++ fields_text 0 (members_of l.members) (struct_at l.parts.rows l.row);
}
