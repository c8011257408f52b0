use Rattle.std.proofs.Common.{◌≡◌, [], ◌∷◌, Option, Some, None, List, map, option_map, subst, sym, arith}
use Rattle.json.specs.Json.{after_end_array}
use Rattle.vx_layout.specs.Nodes.{Node, node_data}
use Rattle.scan_json.specs.Reading.{reads}
use Rattle.scan_json.proofs.ListTurns.{IsListRead, item_joined, list_done, list_joined, list_refused}
use Rattle.scan_request.specs.NodeForms.{node_form}
use Rattle.scan_request.proofs.node_forms.nodes_in.Goals as goal

pub returns-in_err-item-clause-refused : goal.returns-in_err-item-clause-refused
returns-in_err-item-clause-refused c invalid =
    let going : (after_end_array c.items.reader ≡ None) × (c.take_end_array.new.self ≡ c.items.reader) = grind arith in
    let none = c.node_of.ensures.refused (grind arith) in
    list_refused node_form c.args.depth c.args.reader.now (option_map (λ v. map node_data v.items) c.items.made) c.items.reader c.items.invariant going.0 (rw (← going.1) none)

pub items-preserved : goal.items-preserved
items-preserved c =
    let going : (after_end_array c.items.reader ≡ None) × (c.take_end_array.new.self ≡ c.items.reader) = grind arith in
    let item = option_map node_data c.in_ok-item.item in
    let read : reads node_form c.args.depth c.items.reader ≡ Some (item, c.node_of.new.reader) = rw (← going.1) c.in_ok-item.ensures.ok in
    subst (λ (made : Option (List Node)). IsListRead node_form c.args.depth c.args.reader.now made c.node_of.new.reader) (sym (list_joined (λ v. v.items) node_data c.items.made _ c.in_ok-item.item c.in_ok-made.ensures))
    (item_joined node_form c.args.depth c.args.reader.now (option_map (λ v. map node_data v.items) c.items.made) c.items.reader c.items.invariant c.node_of.new.reader item going.0 read (rw (← going.1) c.in_ok-item.ensures.shorter))

pub returns-clause-ok : goal.returns-clause-ok
returns-clause-ok c =
    let over : after_end_array c.items.reader ≡ Some c.take_end_array.new.self = grind arith in
    list_done node_form c.args.depth c.args.reader.now (option_map (λ v. map node_data v.items) c.items.made) c.items.reader c.take_end_array.new.self c.items.invariant over
