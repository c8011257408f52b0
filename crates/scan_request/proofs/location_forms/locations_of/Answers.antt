use Rattle.std.proofs.Common.{◌≡◌, ◌-◌, Some, None, option_map, sym, ap, ◌∙◌, arith}
use Rattle.scan_json.proofs.Parts.{list_none}
use Rattle.scan_request.specs.JsonForms.{list_form}
use Rattle.scan_request.specs.LocationForms.{location_form}
use Rattle.scan_request.proofs.JsonForms.{few_read, no_items_list}
use Rattle.scan_request.proofs.OtherKinds.{not_list}
use Rattle.scan_request.proofs.location_forms.locations_of.Goals as goal

pub returns-in_ok-locations_in-clause-ok : goal.returns-in_ok-locations_in-clause-ok
returns-in_ok-locations_in-clause-ok c =
    let inside = (c.in_ok-list_begins.ensures.inside (grind arith)).1 in
    few_read location_form c.args.depth (c.args.depth - 1) c.args.reader.now c.list_begins.new.reader c.locations_in.new.reader (option_map (λ v. v.items) c.in_ok-locations_in.field-0) inside c.in_ok-locations_in.ensures.ok
    ∙ ap (λ o. Some (o, c.locations_in.new.reader)) (sym c.few.ensures)

pub returns-in_err-locations_in-clause-refused : goal.returns-in_err-locations_in-clause-refused
returns-in_err-locations_in-clause-refused c invalid =
    list_none c.args.depth (c.args.depth - 1) c.args.reader.now c.list_begins.new.reader (c.in_ok-list_begins.ensures.inside (grind arith)).1 (c.locations_in.ensures.refused (grind arith))

pub returns-else-branch-clause-ok : goal.returns-else-branch-clause-ok
returns-else-branch-clause-ok c = not_list (list_form location_form) None (no_items_list location_form) c.args.depth c.args.reader.now c.list_begins.new.reader (c.in_ok-list_begins.ensures.past (grind arith))
