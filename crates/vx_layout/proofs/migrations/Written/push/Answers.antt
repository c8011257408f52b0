use Rattle.std.proofs.Common.{◌≡◌, ◌+◌, List, Some, arith}
use Rattle.std.specs.List.{slice_get}
use Rattle.vx_layout.specs.Nodes.{Node, node_data}
use Rattle.vx_layout.specs.Migrations.{flats_before}
use Rattle.vx_layout.specs.Moving.{HasWritten, IsPushed}
use Rattle.vx_layout.proofs.MovedParts.{flat_counted, flat_leaf}
use Rattle.vx_layout.proofs.MovedSteps.{coding_there, flat_pushed, other_pushed, place_few, place_within, then_so}
use Rattle.vx_layout.proofs.Moving.{refused_flat}
use Rattle.vx_layout.proofs.migrations.Written.push.Goals as goal
use Rattle.vx_layout.proofs.migrations.Written.push.Goals.{After-push_flat}

pub coding_at-new-requires : goal.coding_at-new-requires
coding_at-new-requires c =
    let nodes : List Node = c.args.tree.now in
    let e : c.len-place.result ≡ flats_before nodes c.args.number = omega (arith, c.len-place.ensures, c.args.self.now.locations.ok.0, c.requires.so_far.segments) in
    place_within nodes c.args.codings.now c.args.number c.len-place.result (node_data c.node-node.result.now) c.in-Some.parts.0 c.in-Some.parts.1 e c.requires.codings c.requires.known c.node-node.ensures.at c.in-Some.ensures

pub push_flat-requires-clause-few : goal.push_flat-requires-clause-few
push_flat-requires-clause-few c = place_few c.args.tree.now c.args.number _ c.requires.so_far.segments c.requires.known c.requires.few

pub push_flat-requires-clause-leaf : goal.push_flat-requires-clause-leaf
push_flat-requires-clause-leaf c =
    flat_leaf c.args.tree.now c.args.number (node_data c.node-node.result.now) c.in-Some.parts.0 c.in-Some.parts.1 c.node-node.ensures.good c.requires.known c.node-node.ensures.at c.in-Some.ensures

pub push_flat-requires-clause-counted : goal.push_flat-requires-clause-counted
push_flat-requires-clause-counted c =
    flat_counted c.args.tree.now c.args.number (node_data c.node-node.result.now) c.in-Some.parts.0 c.in-Some.parts.1 c.requires.counted c.node-node.ensures.at c.in-Some.ensures

coded : (c : After-push_flat) → slice_get c.args.codings.now (flats_before c.args.tree.now c.args.number) ≡ Some c.coding_at-new.result
coded c =
    let nodes : List Node = c.args.tree.now in
    let e : c.len-place.result ≡ flats_before nodes c.args.number = omega (arith, c.len-place.ensures, c.args.self.now.locations.ok.0, c.requires.so_far.segments) in
    coding_there nodes c.args.codings.now c.args.number c.len-place.result c.coding_at-new.result e c.coding_at-new.ensures

pub returns-in-Some-clause-written : goal.returns-in-Some-clause-written
returns-in-Some-clause-written c =
    let nodes : List Node = c.args.tree.now in
    let node : Node = node_data c.node-node.result.now in
    let locations = c.args.locations.now in
    let file = c.args.file.now in
    let codings = c.args.codings.now in
    let before = c.args.self.now in
    let after = c.push_flat.new.self in
    let parts = c.in-Some.parts in
    let new = c.coding_at-new.result in
    then_so c.push_flat.result (IsPushed locations file node parts.0 parts.1 new before after) (HasWritten nodes locations file codings (c.args.number + 1) after)
    (flat_pushed nodes locations file codings c.args.number before after node parts.0 parts.1 new c.requires.so_far c.node-node.ensures.good c.requires.known c.node-node.ensures.at c.in-Some.ensures (coded c))
    c.push_flat.ensures.pushed

pub returns-in-Some-clause-refused : goal.returns-in-Some-clause-refused
returns-in-Some-clause-refused c =
    let before = c.args.self.now in
    let parts = c.in-Some.parts in
    refused_flat c.push_flat.result c.args.tree.now c.args.locations.now c.args.file.now c.args.codings.now c.args.number _ before.locations.items before.file.items (node_data c.node-node.result.now) parts.0 parts.1 c.coding_at-new.result
    c.requires.so_far c.node-node.ensures.at c.in-Some.ensures (coded c) c.push_flat.ensures.refused

pub returns-in-Ok-clause-written : goal.returns-in-Ok-clause-written
returns-in-Ok-clause-written c =
    other_pushed c.args.tree.now c.args.locations.now c.args.file.now c.args.codings.now c.args.number c.args.self.now c.push_node.new.self (node_data c.node-node.result.now)
    c.requires.so_far c.node-node.ensures.at c.in-None.ensures c.in-Ok.ensures.pushed c.in-Ok.ensures.locations c.in-Ok.ensures.file
