use Rattle.std.proofs.Common.{◌≡◌, ◌∙◌, ◌++◌, map, ap, arith}
use Rattle.std.proofs.lemmas.List.{take_rest}
use Rattle.scan_output.specs.FieldLeads.{lead_data, leads_in}
use Rattle.scan_output.specs.RowText.{fields_text, lead}
use Rattle.scan_output.proofs.CellTexts.{struct_written, other_text}
use Rattle.scan_output.proofs.Leads.{cut_leads}
use Rattle.scan_output.proofs.RowTexts.{field_more, lead_copied}
use Rattle.scan_output.proofs.cell_texts.+cells.Goals as goal
use Rattle.vx_base.specs.Cells.{struct_at}
use Rattle.vx_base.specs.Sizes.{members_size}
use Rattle.vx_base.specs.Views.{data_type, members_of}
use Rattle.vx_base.proofs.Members.{size_at}

pub append_fields-append_field-requires : goal.append_fields-append_field-requires
append_fields-append_field-requires t c =
    let members = c.items-members.result.now in
    let field = c.index-members-place.result in
    let cut = cut_leads members c.loop-place.place field c.lead-item.result c.loop-place.rest.now c.loop-place-test.true c.index-members-place.is c.in-len1-up.len_at_least c.lead-item.is c.loop-place.invariant.leads in
    let inside : map lead_data c.split_at.result.0.now ≡ leads_in (data_type field.dtype) = ap (map lead_data) (rw (take_rest c.loop-place.rest.now 1) at c.split_at.ensures.front) ∙ cut.inside in
    (omega (arith, size_at members c.loop-place.place field c.loop-place-test.true c.index-members-place.is, ap members_size c.items-members.ensures), (c.requires.row, inside))

pub append_fields-loop-place-preserved : goal.append_fields-loop-place-preserved
append_fields-loop-place-preserved t c =
    let members = c.items-members.result.now in
    let place = c.loop-place.place in
    let field = c.index-members-place.result in
    let v = struct_at c.args.parts.now.rows c.args.row in
    let cut = cut_leads members place field c.lead-item.result c.loop-place.rest.now c.loop-place-test.true c.index-members-place.is c.in-len1-up.len_at_least c.lead-item.is c.loop-place.invariant.leads in
    record {
      leads = ap (map lead_data) (rw (take_rest c.loop-place.rest.now 1) at c.split_at.ensures.back) ∙ cut.others;
      written = field_more members place field v c.loop-place.out.items c.extend_from_slice.new.self.items c.append_field.new.out.items (c.args.out.now.items ++ fields_text 0 (members_of members) v)
          c.loop-place-test.true c.index-members-place.is
          (lead_copied c.loop-place.out.items c.extend_from_slice.new.self.items c.deref.result.now c.lead-item.result.text.items (lead place field.name) c.in_ok-extend_from_slice.ensures.items c.deref.ensures.value cut.text)
          c.in_ok-append_field.ensures c.loop-place.invariant.written;
    }

pub append_struct-returns-in_ok-push-in-Struct-2 :
    goal.append_struct-returns-in_ok-push-in-Struct-2
append_struct-returns-in_ok-push-in-Struct-2 t c =
    rw c.in-Struct.is (struct_written c.in-Struct.fields c.in-Struct.field-1 c.args.parts.now.rows c.args.row c.args.out.now.items c.push.new.self.items c.append_fields.new.out.items c.push-in-Struct.new.self.items
    (omega (arith, c.len.ensures, c.if-len-row.false)) c.in_ok-push-in-Struct.ensures.items c.in_ok-append_fields-in-Struct.ensures c.in_ok-push-in-Struct-2.ensures.items)

pub append_struct-returns-in_default : goal.append_struct-returns-in_default
append_struct-returns-in_default t c =
    other_text c.args.dtype.now c.args.parts.now.rows c.args.row c.args.out.now.items c.in_default.not-Struct (omega (arith, c.len.ensures, c.if-len-row.false))
