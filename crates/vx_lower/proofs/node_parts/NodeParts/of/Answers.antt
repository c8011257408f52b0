use Rattle.std.proofs.Common.{◌≡◌, ℕ, ◌-◌, List, Option, Some, length, get_or, take, drop, sym, ◌∙◌, subst, arith}
use Rattle.std.proofs.lemmas.List.{length-drop, take_all}
use Rattle.vx_layout.specs.declared.nodes.LayoutKind.TheVariants as kinds
use Rattle.vx_layout.specs.Nodes.{Node, node_data}
use Rattle.vx_lower.specs.NodeParts.{IsListNode, IsStructNode}
use Rattle.vx_lower.proofs.Parts.{chunk_parts, dict_count, dict_parts, leaf_parts, legacy_count, legacy_over, list_parts, nullable_parts, some_children, struct_parts, two_in_list, zoned_count, zoned_over, IsNode}
use Rattle.vx_lower.proofs.node_parts.NodeParts.of.Goals as goal

pub returns-in-Flat : goal.returns-in-Flat
returns-in-Flat c =
    let nodes : List Node = c.args.tree.now in
    let n : ℕ = c.args.node in
    let node : Node = node_data c.node-layout.result.now in
    let ns : List ℕ = c.as_slice-children.result.now in
    let these : ns ≡ node.children = c.as_slice-children.ensures.value in
    let is : IsNode nodes n node (kinds.Flat c.in-Flat.segment c.in-Flat.coding) = record { good = c.node-layout.ensures.good; at = c.node-layout.ensures.at; later = c.node-layout.ensures.later; kind_is = c.in-Flat.is; known = c.requires } in
    leaf_parts nodes n node c.in-Flat.segment c.in-Flat.coding is

pub returns-in-Chunked : goal.returns-in-Chunked
returns-in-Chunked c =
    let nodes : List Node = c.args.tree.now in
    let n : ℕ = c.args.node in
    let node : Node = node_data c.node-layout.result.now in
    let ns : List ℕ = c.as_slice-children.result.now in
    let these : ns ≡ node.children = c.as_slice-children.ensures.value in
    let is : IsNode nodes n node (kinds.Chunked) = record { good = c.node-layout.ensures.good; at = c.node-layout.ensures.at; later = c.node-layout.ensures.later; kind_is = c.in-Chunked.is; known = c.requires } in
    chunk_parts nodes n node ns is these

pub slice_bounds-result-count : goal.slice_bounds-result-count
slice_bounds-result-count c =
    let nodes : List Node = c.args.tree.now in
    let n : ℕ = c.args.node in
    let node : Node = node_data c.node-layout.result.now in
    let ns : List ℕ = c.as_slice-children.result.now in
    let these : ns ≡ node.children = c.as_slice-children.ensures.value in
    let is : IsNode nodes n node (kinds.Struct) = record { good = c.node-layout.ensures.good; at = c.node-layout.ensures.at; later = c.node-layout.ensures.later; kind_is = c.in-Struct.is; known = c.requires } in
    let some = some_children nodes n node ns is these (sym c.is_nullable.ensures ∙ c.if-is_nullable.true) in omega arith

pub slice_bounds-result-start : goal.slice_bounds-result-start
slice_bounds-result-start c =
    let nodes : List Node = c.args.tree.now in
    let n : ℕ = c.args.node in
    let node : Node = node_data c.node-layout.result.now in
    let ns : List ℕ = c.as_slice-children.result.now in
    let these : ns ≡ node.children = c.as_slice-children.ensures.value in
    let is : IsNode nodes n node (kinds.Struct) = record { good = c.node-layout.ensures.good; at = c.node-layout.ensures.at; later = c.node-layout.ensures.later; kind_is = c.in-Struct.is; known = c.requires } in
    let some = some_children nodes n node ns is these (sym c.is_nullable.ensures ∙ c.if-is_nullable.true) in omega arith

pub bounds-children-0 : goal.bounds-children-0
bounds-children-0 c =
    let nodes : List Node = c.args.tree.now in
    let n : ℕ = c.args.node in
    let node : Node = node_data c.node-layout.result.now in
    let ns : List ℕ = c.as_slice-children.result.now in
    let these : ns ≡ node.children = c.as_slice-children.ensures.value in
    let is : IsNode nodes n node (kinds.Struct) = record { good = c.node-layout.ensures.good; at = c.node-layout.ensures.at; later = c.node-layout.ensures.later; kind_is = c.in-Struct.is; known = c.requires } in
    some_children nodes n node ns is these (sym c.is_nullable.ensures ∙ c.if-is_nullable.true)

pub returns-then-is_nullable : goal.returns-then-is_nullable
returns-then-is_nullable c =
    let nodes : List Node = c.args.tree.now in
    let n : ℕ = c.args.node in
    let node : Node = node_data c.node-layout.result.now in
    let ns : List ℕ = c.as_slice-children.result.now in
    let these : ns ≡ node.children = c.as_slice-children.ensures.value in
    let is : IsNode nodes n node (kinds.Struct) = record { good = c.node-layout.ensures.good; at = c.node-layout.ensures.at; later = c.node-layout.ensures.later; kind_is = c.in-Struct.is; known = c.requires } in
    let parts : IsStructNode nodes n (drop 1 ns) (Some (get_or ns 0 0)) = nullable_parts nodes n node ns is these (sym c.is_nullable.ensures ∙ c.if-is_nullable.true) in
    let whole : take (length ns - 1) (drop 1 ns) ≡ drop 1 ns = take_all (length ns - 1) (drop 1 ns) (omega (arith, length-drop 1 ns)) in
    subst (λ (ms : List ℕ). IsStructNode nodes n ms (Some (get_or ns 0 0))) (sym whole) parts

pub returns-else-is_nullable : goal.returns-else-is_nullable
returns-else-is_nullable c =
    let nodes : List Node = c.args.tree.now in
    let n : ℕ = c.args.node in
    let node : Node = node_data c.node-layout.result.now in
    let ns : List ℕ = c.as_slice-children.result.now in
    let these : ns ≡ node.children = c.as_slice-children.ensures.value in
    let is : IsNode nodes n node (kinds.Struct) = record { good = c.node-layout.ensures.good; at = c.node-layout.ensures.at; later = c.node-layout.ensures.later; kind_is = c.in-Struct.is; known = c.requires } in
    struct_parts nodes n node ns is these (sym c.is_nullable.ensures ∙ c.if-is_nullable.false)

pub bounds-children-1 : goal.bounds-children-1
bounds-children-1 c =
    let nodes : List Node = c.args.tree.now in
    let n : ℕ = c.args.node in
    let node : Node = node_data c.node-layout.result.now in
    let ns : List ℕ = c.as_slice-children.result.now in
    let these : ns ≡ node.children = c.as_slice-children.ensures.value in
    let is : IsNode nodes n node (kinds.Dict) = record { good = c.node-layout.ensures.good; at = c.node-layout.ensures.at; later = c.node-layout.ensures.later; kind_is = c.in-Dict.is; known = c.requires } in
    let two = dict_count nodes n node ns is these in omega arith

pub bounds-children-0-in-Dict : goal.bounds-children-0-in-Dict
bounds-children-0-in-Dict c =
    let nodes : List Node = c.args.tree.now in
    let n : ℕ = c.args.node in
    let node : Node = node_data c.node-layout.result.now in
    let ns : List ℕ = c.as_slice-children.result.now in
    let these : ns ≡ node.children = c.as_slice-children.ensures.value in
    let is : IsNode nodes n node (kinds.Dict) = record { good = c.node-layout.ensures.good; at = c.node-layout.ensures.at; later = c.node-layout.ensures.later; kind_is = c.in-Dict.is; known = c.requires } in
    let two = dict_count nodes n node ns is these in omega arith

pub returns-in-Dict : goal.returns-in-Dict
returns-in-Dict c =
    let nodes : List Node = c.args.tree.now in
    let n : ℕ = c.args.node in
    let node : Node = node_data c.node-layout.result.now in
    let ns : List ℕ = c.as_slice-children.result.now in
    let these : ns ≡ node.children = c.as_slice-children.ensures.value in
    let is : IsNode nodes n node (kinds.Dict) = record { good = c.node-layout.ensures.good; at = c.node-layout.ensures.at; later = c.node-layout.ensures.later; kind_is = c.in-Dict.is; known = c.requires } in
    dict_parts nodes n node ns is these

pub bounds-children-0-in-List : goal.bounds-children-0-in-List
bounds-children-0-in-List c =
    let nodes : List Node = c.args.tree.now in
    let n : ℕ = c.args.node in
    let node : Node = node_data c.node-layout.result.now in
    let ns : List ℕ = c.as_slice-children.result.now in
    let these : ns ≡ node.children = c.as_slice-children.ensures.value in
    let is : IsNode nodes n node (kinds.List) = record { good = c.node-layout.ensures.good; at = c.node-layout.ensures.at; later = c.node-layout.ensures.later; kind_is = c.in-List.is; known = c.requires } in
    let two = two_in_list nodes n node ns is these in omega arith

pub bounds-children-1-in-List : goal.bounds-children-1-in-List
bounds-children-1-in-List c =
    let nodes : List Node = c.args.tree.now in
    let n : ℕ = c.args.node in
    let node : Node = node_data c.node-layout.result.now in
    let ns : List ℕ = c.as_slice-children.result.now in
    let these : ns ≡ node.children = c.as_slice-children.ensures.value in
    let is : IsNode nodes n node (kinds.List) = record { good = c.node-layout.ensures.good; at = c.node-layout.ensures.at; later = c.node-layout.ensures.later; kind_is = c.in-List.is; known = c.requires } in
    two_in_list nodes n node ns is these

pub returns-in-List : goal.returns-in-List
returns-in-List c =
    let nodes : List Node = c.args.tree.now in
    let n : ℕ = c.args.node in
    let node : Node = node_data c.node-layout.result.now in
    let ns : List ℕ = c.as_slice-children.result.now in
    let these : ns ≡ node.children = c.as_slice-children.ensures.value in
    let is : IsNode nodes n node (kinds.List) = record { good = c.node-layout.ensures.good; at = c.node-layout.ensures.at; later = c.node-layout.ensures.later; kind_is = c.in-List.is; known = c.requires } in
    subst (λ (v : Option ℕ). IsListNode nodes n (get_or ns 0 0) (get_or ns 1 0) v) (sym c.third.ensures) (list_parts nodes n node ns is these)

pub bounds-children-0-in-Zoned : goal.bounds-children-0-in-Zoned
bounds-children-0-in-Zoned c =
    let nodes : List Node = c.args.tree.now in
    let n : ℕ = c.args.node in
    let node : Node = node_data c.node-layout.result.now in
    let ns : List ℕ = c.as_slice-children.result.now in
    let these : ns ≡ node.children = c.as_slice-children.ensures.value in
    let is : IsNode nodes n node (kinds.Zoned c.in-Zoned.zone_len c.in-Zoned.stats) = record { good = c.node-layout.ensures.good; at = c.node-layout.ensures.at; later = c.node-layout.ensures.later; kind_is = c.in-Zoned.is; known = c.requires } in
    let two = zoned_count nodes n node c.in-Zoned.zone_len c.in-Zoned.stats ns is these in omega arith

pub bounds-children-1-in-Zoned : goal.bounds-children-1-in-Zoned
bounds-children-1-in-Zoned c =
    let nodes : List Node = c.args.tree.now in
    let n : ℕ = c.args.node in
    let node : Node = node_data c.node-layout.result.now in
    let ns : List ℕ = c.as_slice-children.result.now in
    let these : ns ≡ node.children = c.as_slice-children.ensures.value in
    let is : IsNode nodes n node (kinds.Zoned c.in-Zoned.zone_len c.in-Zoned.stats) = record { good = c.node-layout.ensures.good; at = c.node-layout.ensures.at; later = c.node-layout.ensures.later; kind_is = c.in-Zoned.is; known = c.requires } in
    let two = zoned_count nodes n node c.in-Zoned.zone_len c.in-Zoned.stats ns is these in omega arith

pub returns-in-Zoned : goal.returns-in-Zoned
returns-in-Zoned c =
    let nodes : List Node = c.args.tree.now in
    let n : ℕ = c.args.node in
    let node : Node = node_data c.node-layout.result.now in
    let ns : List ℕ = c.as_slice-children.result.now in
    let these : ns ≡ node.children = c.as_slice-children.ensures.value in
    let is : IsNode nodes n node (kinds.Zoned c.in-Zoned.zone_len c.in-Zoned.stats) = record { good = c.node-layout.ensures.good; at = c.node-layout.ensures.at; later = c.node-layout.ensures.later; kind_is = c.in-Zoned.is; known = c.requires } in
    c.zoned_parts.ensures nodes n (zoned_over nodes n node c.in-Zoned.zone_len c.in-Zoned.stats ns is these)

pub bounds-children-0-in-LegacyStats : goal.bounds-children-0-in-LegacyStats
bounds-children-0-in-LegacyStats c =
    let nodes : List Node = c.args.tree.now in
    let n : ℕ = c.args.node in
    let node : Node = node_data c.node-layout.result.now in
    let ns : List ℕ = c.as_slice-children.result.now in
    let these : ns ≡ node.children = c.as_slice-children.ensures.value in
    let is : IsNode nodes n node (kinds.LegacyStats c.in-LegacyStats.zone_len c.in-LegacyStats.stats) = record { good = c.node-layout.ensures.good; at = c.node-layout.ensures.at; later = c.node-layout.ensures.later; kind_is = c.in-LegacyStats.is; known = c.requires } in
    let two = legacy_count nodes n node c.in-LegacyStats.zone_len c.in-LegacyStats.stats ns is these in omega arith

pub bounds-children-1-in-LegacyStats : goal.bounds-children-1-in-LegacyStats
bounds-children-1-in-LegacyStats c =
    let nodes : List Node = c.args.tree.now in
    let n : ℕ = c.args.node in
    let node : Node = node_data c.node-layout.result.now in
    let ns : List ℕ = c.as_slice-children.result.now in
    let these : ns ≡ node.children = c.as_slice-children.ensures.value in
    let is : IsNode nodes n node (kinds.LegacyStats c.in-LegacyStats.zone_len c.in-LegacyStats.stats) = record { good = c.node-layout.ensures.good; at = c.node-layout.ensures.at; later = c.node-layout.ensures.later; kind_is = c.in-LegacyStats.is; known = c.requires } in
    let two = legacy_count nodes n node c.in-LegacyStats.zone_len c.in-LegacyStats.stats ns is these in omega arith

pub returns-in-LegacyStats : goal.returns-in-LegacyStats
returns-in-LegacyStats c =
    let nodes : List Node = c.args.tree.now in
    let n : ℕ = c.args.node in
    let node : Node = node_data c.node-layout.result.now in
    let ns : List ℕ = c.as_slice-children.result.now in
    let these : ns ≡ node.children = c.as_slice-children.ensures.value in
    let is : IsNode nodes n node (kinds.LegacyStats c.in-LegacyStats.zone_len c.in-LegacyStats.stats) = record { good = c.node-layout.ensures.good; at = c.node-layout.ensures.at; later = c.node-layout.ensures.later; kind_is = c.in-LegacyStats.is; known = c.requires } in
    c.zoned_parts-in-LegacyStats.ensures nodes n (legacy_over nodes n node c.in-LegacyStats.zone_len c.in-LegacyStats.stats ns is these)
