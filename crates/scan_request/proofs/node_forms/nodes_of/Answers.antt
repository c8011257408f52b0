use Rattle.std.proofs.Common.{◌≡◌, ◌-◌, Some, None, map, option_map, sym, ap, ◌∙◌, arith}
use Rattle.vx_layout.specs.Nodes.{node_data}
use Rattle.scan_json.proofs.Parts.{list_none}
use Rattle.scan_request.specs.JsonForms.{list_form}
use Rattle.scan_request.specs.NodeForms.{node_form}
use Rattle.scan_request.proofs.JsonForms.{few_made, few_read, no_items_list}
use Rattle.scan_request.proofs.OtherKinds.{not_list}
use Rattle.scan_request.proofs.node_forms.nodes_of.Goals as goal

pub returns-in-Ok-clause-ok : goal.returns-in-Ok-clause-ok
returns-in-Ok-clause-ok c =
    let inside = (c.in_ok-list_begins.ensures.inside (grind arith)).1 in
    few_read node_form c.args.depth (c.args.depth - 1) c.args.reader.now c.list_begins.new.reader c.nodes_in.new.reader (option_map (λ v. map node_data v.items) c.in-Ok.made) inside c.in-Ok.ensures.ok
    ∙ ap (λ o. Some (o, c.nodes_in.new.reader)) (sym (few_made (λ v. v.items) node_data c.in-Ok.made _ c.few.ensures))

pub returns-in-Err-clause-refused : goal.returns-in-Err-clause-refused
returns-in-Err-clause-refused c invalid =
    list_none c.args.depth (c.args.depth - 1) c.args.reader.now c.list_begins.new.reader (c.in_ok-list_begins.ensures.inside (grind arith)).1 (c.nodes_in.ensures.refused (grind arith))

pub returns-then-not-branch-clause-ok : goal.returns-then-not-branch-clause-ok
returns-then-not-branch-clause-ok c = not_list (list_form node_form) None (no_items_list node_form) c.args.depth c.args.reader.now c.list_begins.new.reader (c.in_ok-list_begins.ensures.past (grind arith))
