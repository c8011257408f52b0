use Rattle.std.proofs.Common.{◌≡◌, ◌-◌, Some, None, option_map, sym, ap, ◌∙◌, arith}
use Rattle.json.specs.Json.{parse_map}
use Rattle.serde_json.specs.Data.{object}
use Rattle.scan_json.proofs.Parts.{object_none, of_object}
use Rattle.scan_request.specs.NodeForms.{node_form}
use Rattle.scan_request.specs.NodeMembers.{node_said}
use Rattle.scan_request.proofs.NodeMembers.{no_node, node_is}
use Rattle.scan_request.proofs.OtherKinds.{not_object}
use Rattle.scan_request.proofs.node_members.node_of.Goals as goal

pub returns-then-not-branch-clause-ok : goal.returns-then-not-branch-clause-ok
returns-then-not-branch-clause-ok c = not_object node_form None no_node c.args.depth c.args.reader.now c.object_begins.new.reader (c.in_ok-object_begins.ensures.past (grind arith))

pub returns-in-Ok-clause-ok : goal.returns-in-Ok-clause-ok
returns-in-Ok-clause-ok c =
    let inside = (c.in_ok-object_begins.ensures.inside (grind arith)).1 in
    let read = c.in-Ok.ensures.ok in
    of_object node_form c.args.depth (c.args.depth - 1) c.args.reader.now c.object_begins.new.reader inside ∙ ap (parse_map (λ ms. node_form (object ms))) read.1
    ∙ ap (λ o. Some (o, c.members_in.new.reader)) (sym (node_is read.0 read.2) ∙ ap node_said (sym read.3) ∙ sym c.into_node.ensures)

pub returns-in-Err-clause-refused : goal.returns-in-Err-clause-refused
returns-in-Err-clause-refused c invalid =
    object_none c.args.depth (c.args.depth - 1) c.args.reader.now c.object_begins.new.reader (c.in_ok-object_begins.ensures.inside (grind arith)).1 (c.members_in.ensures.refused (grind arith))
