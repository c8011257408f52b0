use Rattle.std.proofs.Common.{◌≡◌, ◌+◌, ◌*◌, ◌++◌, map}
use Rattle.scan_output.specs.FieldLeads.{lead_data, leads_from}
use Rattle.scan_output.proofs.Leads.{leads_left}
use Rattle.scan_output.proofs.field_leads.+leads.Given as goal
use Rattle.vx_base.specs.Sizes.{type_size, members_size}
use Rattle.vx_base.specs.Views.{data_type, members_of}

abbrev pub decreases-leads_of : goal.decreases-leads_of
decreases-leads_of l = 2 * type_size (data_type l.dtype.now)

abbrev pub decreases-leads_of_fields : goal.decreases-leads_of_fields
decreases-leads_of_fields l = 2 * members_size l.fields.now + 1

abbrev pub invariant-leads_of_fields-loop-place : goal.invariant-leads_of_fields-loop-place
invariant-leads_of_fields-loop-place l = map lead_data l.leads.items ++ leads_left l.place l.members ≡ leads_from 0 (members_of l.members)
