use Rattle.std.proofs.Common.{arith}
use Rattle.vx_layout.specs.declared.nodes.LayoutKind.TheVariants as kinds
use Rattle.vx_layout.specs.Nodes.{node_data}
use Rattle.vx_reads.proofs.NodeTrees.{chunk_parts, dict_count, dict_parts, leaf_parts, struct_parts, zoned_count, zoned_parts, IsNode}
use Rattle.vx_reads.proofs.parts.NodeParts.of.Goals as goal

pub returns-in-Flat : goal.returns-in-Flat
returns-in-Flat c =
    let is : IsNode c.args.tree.now c.args.node (node_data c.node-layout.result.now) (kinds.Flat c.in-Flat.segment c.in-Flat.coding) = record { good = c.node-layout.ensures.good; at = c.node-layout.ensures.at; later = c.node-layout.ensures.later; kind_is = c.in-Flat.is; known = c.requires.known } in
    leaf_parts c.args.tree.now c.args.node (node_data c.node-layout.result.now) c.in-Flat.segment c.in-Flat.coding is

pub returns-in-Chunked : goal.returns-in-Chunked
returns-in-Chunked c =
    let is : IsNode c.args.tree.now c.args.node (node_data c.node-layout.result.now) kinds.Chunked = record { good = c.node-layout.ensures.good; at = c.node-layout.ensures.at; later = c.node-layout.ensures.later; kind_is = c.in-Chunked.is; known = c.requires.known } in
    chunk_parts c.args.tree.now c.args.node (node_data c.node-layout.result.now) c.as_slice-children.result.now is c.as_slice-children.ensures.value

pub returns-in-Dict : goal.returns-in-Dict
returns-in-Dict c =
    let is : IsNode c.args.tree.now c.args.node (node_data c.node-layout.result.now) kinds.Dict = record { good = c.node-layout.ensures.good; at = c.node-layout.ensures.at; later = c.node-layout.ensures.later; kind_is = c.in-Dict.is; known = c.requires.known } in
    dict_parts c.args.tree.now c.args.node (node_data c.node-layout.result.now) c.as_slice-children.result.now is c.as_slice-children.ensures.value

pub bounds-children-1 : goal.bounds-children-1
bounds-children-1 c =
    let is : IsNode c.args.tree.now c.args.node (node_data c.node-layout.result.now) kinds.Dict = record { good = c.node-layout.ensures.good; at = c.node-layout.ensures.at; later = c.node-layout.ensures.later; kind_is = c.in-Dict.is; known = c.requires.known } in
    let two = dict_count c.args.tree.now c.args.node (node_data c.node-layout.result.now) c.as_slice-children.result.now is c.as_slice-children.ensures.value in
    omega arith

pub bounds-children-0 : goal.bounds-children-0
bounds-children-0 c =
    let is : IsNode c.args.tree.now c.args.node (node_data c.node-layout.result.now) kinds.Dict = record { good = c.node-layout.ensures.good; at = c.node-layout.ensures.at; later = c.node-layout.ensures.later; kind_is = c.in-Dict.is; known = c.requires.known } in
    let two = dict_count c.args.tree.now c.args.node (node_data c.node-layout.result.now) c.as_slice-children.result.now is c.as_slice-children.ensures.value in
    omega arith

pub bounds-children-0-in-Zoned : goal.bounds-children-0-in-Zoned
bounds-children-0-in-Zoned c =
    let is : IsNode c.args.tree.now c.args.node (node_data c.node-layout.result.now) (kinds.Zoned c.in-Zoned.zone_len c.in-Zoned.stats) = record { good = c.node-layout.ensures.good; at = c.node-layout.ensures.at; later = c.node-layout.ensures.later; kind_is = c.in-Zoned.is; known = c.requires.known } in
    let two = zoned_count c.args.tree.now c.args.node (node_data c.node-layout.result.now) c.in-Zoned.zone_len c.in-Zoned.stats c.as_slice-children.result.now is c.as_slice-children.ensures.value in
    omega arith

pub bounds-children-1-in-Zoned : goal.bounds-children-1-in-Zoned
bounds-children-1-in-Zoned c =
    let is : IsNode c.args.tree.now c.args.node (node_data c.node-layout.result.now) (kinds.Zoned c.in-Zoned.zone_len c.in-Zoned.stats) = record { good = c.node-layout.ensures.good; at = c.node-layout.ensures.at; later = c.node-layout.ensures.later; kind_is = c.in-Zoned.is; known = c.requires.known } in
    let two = zoned_count c.args.tree.now c.args.node (node_data c.node-layout.result.now) c.in-Zoned.zone_len c.in-Zoned.stats c.as_slice-children.result.now is c.as_slice-children.ensures.value in
    omega arith

pub returns-in-Zoned : goal.returns-in-Zoned
returns-in-Zoned c =
    let is : IsNode c.args.tree.now c.args.node (node_data c.node-layout.result.now) (kinds.Zoned c.in-Zoned.zone_len c.in-Zoned.stats) = record { good = c.node-layout.ensures.good; at = c.node-layout.ensures.at; later = c.node-layout.ensures.later; kind_is = c.in-Zoned.is; known = c.requires.known } in
    zoned_parts c.args.tree.now c.args.node (node_data c.node-layout.result.now) c.in-Zoned.zone_len c.in-Zoned.stats c.as_slice-children.result.now c.requires.readable is c.as_slice-children.ensures.value

pub returns-in-Struct : goal.returns-in-Struct
returns-in-Struct c =
    let is : IsNode c.args.tree.now c.args.node (node_data c.node-layout.result.now) kinds.Struct = record { good = c.node-layout.ensures.good; at = c.node-layout.ensures.at; later = c.node-layout.ensures.later; kind_is = c.in-Struct.is; known = c.requires.known } in
    struct_parts c.args.tree.now c.args.node (node_data c.node-layout.result.now) c.as_slice-children.result.now c.requires.readable is c.as_slice-children.ensures.value
