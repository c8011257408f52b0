use Rattle.std.proofs.Common.{ℕ, ◌+◌, List, [], ◌∷◌, ◌++◌, Option, map, take, sym, ap, ◌∙◌, subst, arith}
use Rattle.std.specs.Prelude.{true, option_map}
use Rattle.std.specs.Arc.{arc_value}
use Rattle.std.proofs.lemmas.List.{map-append}
use Rattle.vx_base.specs.Data.{DataType}
use Rattle.vx_base.specs.Views.{data_type}
use Rattle.vx_layout.specs.Kept.{all}
use Rattle.vx_rows.specs.Zones.{Zones}
use Rattle.vx_layout.specs.Trees.{subtree}
use Rattle.vx_plan.specs.Refs.{number_of}
use Rattle.vx_plan.specs.Rules.{concat_node, given_validity, list_node, nodes_at, packed_node, take_node, KeepsRules}
use Rattle.vx_plan.specs.Tables.{IsAdded}
use Rattle.vx_lower.specs.Lowered.{lowered}
use Rattle.vx_lower.specs.NodeParts.{lowered_each, packed_plan, tree_head, zones_at, zones_node, CanLowerEach}
use Rattle.vx_lower.specs.Numbered.{AddsPlan, AddsPlans}
use Rattle.vx_lower.proofs.Appending.{two_added}
use Rattle.vx_lower.proofs.Chunks.{chunked_adds, chunked_can, chunks_can, chunks_typed}
use Rattle.vx_lower.proofs.Nodes.{back_can, first_can, first_later, front_can, if_ok, place_added, place_can, rest_can, room_over}
use Rattle.vx_lower.proofs.Packs.{fields_can, packed_adds, packed_can, packed_known, struct_adds, struct_packed}
use Rattle.vx_lower.proofs.Pairs.{content_can, content_type, given_type, list_parts_can, listed_adds, listed_can, listed_known, look_up_can, plain_adds, plain_can, plain_later, plain_type, taken_adds, taken_can, told_adds, zone_table_can, zoned_keeps, zoned_known, zoned_room, zones_later}
use Rattle.vx_lower.proofs.lowering_whole.+whole.Goals as goal

-- ---- nodes in a row

pub lower_each-loop-child-preserved : goal.lower_each-loop-child-preserved
lower_each-loop-child-preserved g c =
    let nodes = c.args.tree.now in
    let ns : List ℕ = c.args.children.now in
    let i : ℕ = c.loop-child.child-index in
    let so_far : List ℕ = map number_of c.loop-child.plans.items in
    let next : AddsPlans c.args.table.now c.lower_whole.new.table (lowered_each nodes all (take (i + 1) ns)) (so_far ++ number_of c.in_ok-plan.plan ∷ []) = place_added nodes ns all c.args.table.now c.loop-child.table c.lower_whole.new.table i so_far (number_of c.in_ok-plan.plan) c.loop-child-test.true c.loop-child.invariant c.in_ok-plan.ensures in
    subst (λ (ms : List ℕ). AddsPlans c.args.table.now c.lower_whole.new.table (lowered_each nodes all (take (i + 1) ns)) ms) (sym (ap (map number_of) c.in_ok-push.ensures.items ∙ map-append number_of c.loop-child.plans.items (c.in_ok-plan.plan ∷ []))) next

pub lower_each-lower_whole-requires : goal.lower_each-lower_whole-requires
lower_each-lower_whole-requires g c =
    let i : ℕ = c.loop-child.child-index in
    let later = c.requires.can.later i 0 c.loop-child-test.true in
    (omega (arith, later.0, later.1), (place_can c.args.tree.now c.args.node c.args.children.now all c.args.table.now c.loop-child.table i (map number_of c.loop-child.plans.items) c.requires.can c.loop-child-test.true c.loop-child.invariant, c.requires.given i 0 c.loop-child-test.true))

-- ---- validities

pub lower_validity-lower_whole-requires : goal.lower_validity-lower_whole-requires
lower_validity-lower_whole-requires g c =
    let can : CanLowerEach c.args.tree.now c.args.node (c.in-Some.child ∷ []) all c.args.table.now = subst (λ (o : Option ℕ). CanLowerEach c.args.tree.now c.args.node (given_validity o) all c.args.table.now) c.in-Some.is c.requires in
    let later = first_later c.args.tree.now c.args.node c.in-Some.child [] all c.args.table.now can in
    (omega (arith, later.0, later.1), (first_can c.args.tree.now c.args.node c.in-Some.child [] all c.args.table.now can, tt))

-- ---- structs

pub lower_packed-lower_each-requires : goal.lower_packed-lower_each-requires
lower_packed-lower_each-requires g c = (omega arith, (front_can c.args.tree.now c.args.node c.args.fields.now (given_validity c.args.validity) all c.args.table.now c.requires.can, λ i d lt. tt))

pub lower_packed-lower_validity-requires : goal.lower_packed-lower_validity-requires
lower_packed-lower_validity-requires g c = (omega arith, back_can c.args.tree.now c.args.node c.args.fields.now (given_validity c.args.validity) all c.args.table.now c.lower_each.new.table c.in_ok-field_plans.field_plans c.requires.can c.in_ok-field_plans.ensures)

pub lower_packed-add_pack-requires-clause-room : goal.lower_packed-add_pack-requires-clause-room
lower_packed-add_pack-requires-clause-room g c =
    room_over c.args.tree.now c.args.node (given_validity c.args.validity) all c.lower_each.new.table c.lower_validity.new.table (given_validity (option_map number_of c.in_ok-validity.validity))
    (back_can c.args.tree.now c.args.node c.args.fields.now (given_validity c.args.validity) all c.args.table.now c.lower_each.new.table c.in_ok-field_plans.field_plans c.requires.can c.in_ok-field_plans.ensures) c.in_ok-validity.ensures.adds

pub lower_packed-add_pack-requires-clause-known : goal.lower_packed-add_pack-requires-clause-known
lower_packed-add_pack-requires-clause-known g c =
    packed_known c.args.tree.now c.args.table.now c.lower_each.new.table c.lower_validity.new.table c.args.fields.now c.args.validity c.in_ok-field_plans.field_plans (option_map number_of c.in_ok-validity.validity) c.in_ok-field_plans.ensures c.in_ok-validity.ensures.adds

pub lower_packed-add_pack-requires-clause-structs : goal.lower_packed-add_pack-requires-clause-structs
lower_packed-add_pack-requires-clause-structs g c = c.requires.packed.structs

pub lower_packed-add_pack-requires-clause-kept : goal.lower_packed-add_pack-requires-clause-kept
lower_packed-add_pack-requires-clause-kept g c =
    let t : DataType = data_type (arc_value c.args.dtype) in
    let w : Option ℕ = option_map number_of c.in_ok-validity.validity in
    let numbers : List ℕ = c.in_ok-field_plans.field_plans in
    subst (λ (rows : ℕ). KeepsRules (packed_node t rows numbers w) (nodes_at c.lower_validity.new.table (numbers ++ given_validity w))) (sym c.rows_at-row_count.ensures)
    (packed_can c.args.tree.now c.args.table.now c.lower_each.new.table c.lower_validity.new.table t (tree_head c.args.tree.now c.args.node).rows c.args.fields.now c.args.validity numbers w c.requires.packed c.in_ok-field_plans.ensures c.in_ok-validity.ensures.adds c.in_ok-validity.ensures.given)

pub lower_packed-returns : goal.lower_packed-returns
lower_packed-returns g c =
    let nodes = c.args.tree.now in
    let t : DataType = data_type (arc_value c.args.dtype) in
    let rows : ℕ = (tree_head nodes c.args.node).rows in
    let w : Option ℕ = option_map number_of c.in_ok-validity.validity in
    let numbers : List ℕ = c.in_ok-field_plans.field_plans in
    if_ok (λ plan. IsAdded c.lower_validity.new.table c.add_pack.new.table (packed_node t c.rows_at-row_count.result numbers w) (number_of plan)) (λ plan. (number : ℕ) → AddsPlan c.args.table.now c.add_pack.new.table (packed_plan nodes (record { number = number; dtype = t; rows = rows }) c.args.fields.now c.args.validity) (number_of plan))
    (λ plan added number. packed_adds nodes c.args.table.now c.lower_each.new.table c.lower_validity.new.table c.add_pack.new.table t rows c.args.fields.now c.args.validity numbers w (number_of plan) number c.in_ok-field_plans.ensures c.in_ok-validity.ensures.adds c.in_ok-validity.ensures.given
    (subst (λ (rows : ℕ). IsAdded c.lower_validity.new.table c.add_pack.new.table (packed_node t rows numbers w) (number_of plan)) c.rows_at-row_count.ensures added)) c.add_pack.result c.add_pack.ensures

pub lower_fields-lower_packed-requires : goal.lower_fields-lower_packed-requires
lower_fields-lower_packed-requires g c =
    let t : DataType = data_type (arc_value c.in_ok-dtype.dtype) in
    (omega arith, (c.requires.can.known, (fields_can c.args.tree.now c.args.node c.args.fields.now c.args.validity c.args.table.now c.requires.can c.requires.parts, struct_packed c.args.tree.now c.args.node c.args.fields.now c.args.validity c.args.table.now t c.requires.can c.requires.parts c.in_ok-dtype.ensures)))

pub lower_fields-returns : goal.lower_fields-returns
lower_fields-returns g c =
    let nodes = c.args.tree.now in
    let t : DataType = data_type (arc_value c.in_ok-dtype.dtype) in
    if_ok (λ plan. (number : ℕ) → AddsPlan c.args.table.now c.lower_packed.new.table (packed_plan nodes (record { number = number; dtype = t; rows = (tree_head nodes c.args.node).rows }) c.args.fields.now c.args.validity) (number_of plan)) (λ plan. AddsPlan c.args.table.now c.lower_packed.new.table (lowered (subtree nodes c.args.node) all) (number_of plan))
    (λ plan adds. struct_adds nodes c.args.node c.args.fields.now c.args.validity c.args.table.now c.lower_packed.new.table t (number_of plan) c.requires.can c.requires.parts c.in_ok-dtype.ensures adds) c.lower_packed.result c.lower_packed.ensures

-- ---- chunks

pub lower_chunks-lower_each-requires : goal.lower_chunks-lower_each-requires
lower_chunks-lower_each-requires g c =
    (omega arith, (chunks_can c.args.tree.now c.args.node c.args.chunks.now all c.args.table.now c.requires.can c.requires.parts, chunks_typed c.args.tree.now c.args.node c.args.chunks.now all c.args.table.now (data_type (arc_value c.in_ok-dtype.dtype)) c.requires.can c.requires.parts c.in_ok-dtype.ensures))

pub lower_chunks-add_concat-requires-clause-room : goal.lower_chunks-add_concat-requires-clause-room
lower_chunks-add_concat-requires-clause-room g c =
    room_over c.args.tree.now c.args.node c.args.chunks.now all c.args.table.now c.lower_each.new.table c.in_ok-plans.plans (chunks_can c.args.tree.now c.args.node c.args.chunks.now all c.args.table.now c.requires.can c.requires.parts) c.in_ok-plans.ensures

pub lower_chunks-add_concat-requires-clause-kept : goal.lower_chunks-add_concat-requires-clause-kept
lower_chunks-add_concat-requires-clause-kept g c =
    chunked_can c.args.tree.now c.args.node c.args.chunks.now all c.args.table.now c.lower_each.new.table c.in_ok-plans.plans (data_type (arc_value c.in_ok-dtype.dtype)) c.requires.can c.requires.parts c.in_ok-plans.ensures c.in_ok-dtype.ensures

pub lower_chunks-returns : goal.lower_chunks-returns
lower_chunks-returns g c =
    let t : DataType = data_type (arc_value c.in_ok-dtype.dtype) in
    if_ok (λ plan. IsAdded c.lower_each.new.table c.add_concat.new.table (concat_node c.lower_each.new.table t c.in_ok-plans.plans) (number_of plan)) (λ plan. AddsPlan c.args.table.now c.add_concat.new.table (lowered (subtree c.args.tree.now c.args.node) all) (number_of plan))
    (λ plan added. chunked_adds c.args.tree.now c.args.node c.args.chunks.now all c.args.table.now c.lower_each.new.table c.add_concat.new.table c.in_ok-plans.plans t (number_of plan) c.requires.can c.requires.parts c.in_ok-plans.ensures c.in_ok-dtype.ensures added) c.add_concat.result c.add_concat.ensures

-- ---- dictionaries

pub lower_look_up-lower_whole-requires : goal.lower_look_up-lower_whole-requires
lower_look_up-lower_whole-requires g c =
    let can : CanLowerEach c.args.tree.now c.args.node (c.args.codes ∷ c.args.values ∷ []) all c.args.table.now = look_up_can c.args.tree.now c.args.node c.args.codes c.args.values c.args.table.now c.requires.can c.requires.parts in
    let later = first_later c.args.tree.now c.args.node c.args.codes (c.args.values ∷ []) all c.args.table.now can in
    (omega (arith, later.0, later.1), (first_can c.args.tree.now c.args.node c.args.codes (c.args.values ∷ []) all c.args.table.now can, tt))

pub lower_look_up-lower_whole-requires-2 : goal.lower_look_up-lower_whole-requires-2
lower_look_up-lower_whole-requires-2 g c =
    let can : CanLowerEach c.args.tree.now c.args.node (c.args.values ∷ []) all c.lower_whole.new.table = rest_can c.args.tree.now c.args.node c.args.codes (c.args.values ∷ []) all c.args.table.now c.lower_whole.new.table (number_of c.in_ok-code_plan.code_plan) (look_up_can c.args.tree.now c.args.node c.args.codes c.args.values c.args.table.now c.requires.can c.requires.parts) c.in_ok-code_plan.ensures in
    let later = first_later c.args.tree.now c.args.node c.args.values [] all c.lower_whole.new.table can in
    (omega (arith, later.0, later.1), (first_can c.args.tree.now c.args.node c.args.values [] all c.lower_whole.new.table can, tt))

pub lower_look_up-add_take-requires-clause-room : goal.lower_look_up-add_take-requires-clause-room
lower_look_up-add_take-requires-clause-room g c =
    let can : CanLowerEach c.args.tree.now c.args.node (c.args.values ∷ []) all c.lower_whole.new.table = rest_can c.args.tree.now c.args.node c.args.codes (c.args.values ∷ []) all c.args.table.now c.lower_whole.new.table (number_of c.in_ok-code_plan.code_plan) (look_up_can c.args.tree.now c.args.node c.args.codes c.args.values c.args.table.now c.requires.can c.requires.parts) c.in_ok-code_plan.ensures in
    omega (arith, can.room, c.in_ok-value_plan.ensures.count)

pub lower_look_up-add_take-requires-clause-known : goal.lower_look_up-add_take-requires-clause-known
lower_look_up-add_take-requires-clause-known g c =
    (two_added c.args.table.now c.lower_whole.new.table c.lower_whole-2.new.table (lowered (subtree c.args.tree.now c.args.codes) all) (lowered (subtree c.args.tree.now c.args.values) all) (number_of c.in_ok-code_plan.code_plan) (number_of c.in_ok-value_plan.value_plan) c.in_ok-code_plan.ensures c.in_ok-value_plan.ensures).known

pub lower_look_up-add_take-requires-clause-kept : goal.lower_look_up-add_take-requires-clause-kept
lower_look_up-add_take-requires-clause-kept g c =
    taken_can c.args.tree.now c.args.node c.args.codes c.args.values c.args.table.now c.lower_whole.new.table c.lower_whole-2.new.table (number_of c.in_ok-code_plan.code_plan) (number_of c.in_ok-value_plan.value_plan) c.requires.can c.requires.parts c.in_ok-code_plan.ensures c.in_ok-value_plan.ensures

pub lower_look_up-returns : goal.lower_look_up-returns
lower_look_up-returns g c =
    if_ok (λ plan. IsAdded c.lower_whole-2.new.table c.add_take.new.table (take_node c.lower_whole-2.new.table (number_of c.in_ok-code_plan.code_plan) (number_of c.in_ok-value_plan.value_plan)) (number_of plan)) (λ plan. AddsPlan c.args.table.now c.add_take.new.table (lowered (subtree c.args.tree.now c.args.node) all) (number_of plan))
    (λ plan added. taken_adds c.args.tree.now c.args.node c.args.codes c.args.values c.args.table.now c.lower_whole.new.table c.lower_whole-2.new.table c.add_take.new.table (number_of c.in_ok-code_plan.code_plan) (number_of c.in_ok-value_plan.value_plan) (number_of plan) c.requires.can c.requires.parts c.in_ok-code_plan.ensures c.in_ok-value_plan.ensures added) c.add_take.result c.add_take.ensures

-- ---- lists

pub lower_lists-lower_whole-requires : goal.lower_lists-lower_whole-requires
lower_lists-lower_whole-requires g c =
    let rest : List ℕ = c.args.offsets ∷ given_validity c.args.validity in
    let can : CanLowerEach c.args.tree.now c.args.node (c.args.elements ∷ rest) all c.args.table.now = list_parts_can c.args.tree.now c.args.node c.args.elements c.args.offsets c.args.validity c.args.table.now c.requires.can c.requires.parts in
    let later = first_later c.args.tree.now c.args.node c.args.elements rest all c.args.table.now can in
    (omega (arith, later.0, later.1), (first_can c.args.tree.now c.args.node c.args.elements rest all c.args.table.now can, tt))

pub lower_lists-lower_whole-requires-2 : goal.lower_lists-lower_whole-requires-2
lower_lists-lower_whole-requires-2 g c =
    let last : List ℕ = given_validity c.args.validity in
    let can : CanLowerEach c.args.tree.now c.args.node (c.args.offsets ∷ last) all c.lower_whole.new.table = rest_can c.args.tree.now c.args.node c.args.elements (c.args.offsets ∷ last) all c.args.table.now c.lower_whole.new.table (number_of c.in_ok-element_plan.element_plan) (list_parts_can c.args.tree.now c.args.node c.args.elements c.args.offsets c.args.validity c.args.table.now c.requires.can c.requires.parts) c.in_ok-element_plan.ensures in
    let later = first_later c.args.tree.now c.args.node c.args.offsets last all c.lower_whole.new.table can in
    (omega (arith, later.0, later.1), (first_can c.args.tree.now c.args.node c.args.offsets last all c.lower_whole.new.table can, tt))

pub lower_lists-lower_validity-requires : goal.lower_lists-lower_validity-requires
lower_lists-lower_validity-requires g c =
    let last : List ℕ = given_validity c.args.validity in
    let can : CanLowerEach c.args.tree.now c.args.node (c.args.offsets ∷ last) all c.lower_whole.new.table = rest_can c.args.tree.now c.args.node c.args.elements (c.args.offsets ∷ last) all c.args.table.now c.lower_whole.new.table (number_of c.in_ok-element_plan.element_plan) (list_parts_can c.args.tree.now c.args.node c.args.elements c.args.offsets c.args.validity c.args.table.now c.requires.can c.requires.parts) c.in_ok-element_plan.ensures in
    (omega arith, rest_can c.args.tree.now c.args.node c.args.offsets last all c.lower_whole.new.table c.lower_whole-2.new.table (number_of c.in_ok-offset_plan.offset_plan) can c.in_ok-offset_plan.ensures)

pub lower_lists-add_list-requires-clause-room : goal.lower_lists-add_list-requires-clause-room
lower_lists-add_list-requires-clause-room g c =
    let last : List ℕ = given_validity c.args.validity in
    let can : CanLowerEach c.args.tree.now c.args.node (c.args.offsets ∷ last) all c.lower_whole.new.table = rest_can c.args.tree.now c.args.node c.args.elements (c.args.offsets ∷ last) all c.args.table.now c.lower_whole.new.table (number_of c.in_ok-element_plan.element_plan) (list_parts_can c.args.tree.now c.args.node c.args.elements c.args.offsets c.args.validity c.args.table.now c.requires.can c.requires.parts) c.in_ok-element_plan.ensures in
    room_over c.args.tree.now c.args.node last all c.lower_whole-2.new.table c.lower_validity.new.table (given_validity (option_map number_of c.in_ok-validity_plan.validity_plan))
    (rest_can c.args.tree.now c.args.node c.args.offsets last all c.lower_whole.new.table c.lower_whole-2.new.table (number_of c.in_ok-offset_plan.offset_plan) can c.in_ok-offset_plan.ensures) c.in_ok-validity_plan.ensures.adds

pub lower_lists-add_list-requires-clause-known : goal.lower_lists-add_list-requires-clause-known
lower_lists-add_list-requires-clause-known g c =
    listed_known c.args.tree.now c.args.node c.args.elements c.args.offsets c.args.validity c.args.table.now c.lower_whole.new.table c.lower_whole-2.new.table c.lower_validity.new.table (number_of c.in_ok-element_plan.element_plan) (number_of c.in_ok-offset_plan.offset_plan) (option_map number_of c.in_ok-validity_plan.validity_plan) c.requires.can c.requires.parts c.in_ok-element_plan.ensures c.in_ok-offset_plan.ensures c.in_ok-validity_plan.ensures.adds c.in_ok-validity_plan.ensures.given

pub lower_lists-add_list-requires-clause-kept : goal.lower_lists-add_list-requires-clause-kept
lower_lists-add_list-requires-clause-kept g c =
    listed_can c.args.tree.now c.args.node c.args.elements c.args.offsets c.args.validity c.args.table.now c.lower_whole.new.table c.lower_whole-2.new.table c.lower_validity.new.table (number_of c.in_ok-element_plan.element_plan) (number_of c.in_ok-offset_plan.offset_plan) (option_map number_of c.in_ok-validity_plan.validity_plan) c.nullability_at-nullability.result c.rows_at-row_count.result c.requires.can c.requires.parts c.in_ok-element_plan.ensures c.in_ok-offset_plan.ensures c.in_ok-validity_plan.ensures.adds c.in_ok-validity_plan.ensures.given c.nullability_at-nullability.ensures c.rows_at-row_count.ensures

pub lower_lists-returns : goal.lower_lists-returns
lower_lists-returns g c =
    let w : Option ℕ = option_map number_of c.in_ok-validity_plan.validity_plan in
    if_ok (λ plan. IsAdded c.lower_validity.new.table c.add_list.new.table (list_node c.lower_validity.new.table c.nullability_at-nullability.result c.rows_at-row_count.result (number_of c.in_ok-element_plan.element_plan) (number_of c.in_ok-offset_plan.offset_plan) w) (number_of plan)) (λ plan. AddsPlan c.args.table.now c.add_list.new.table (lowered (subtree c.args.tree.now c.args.node) all) (number_of plan))
    (λ plan added. listed_adds c.args.tree.now c.args.node c.args.elements c.args.offsets c.args.validity c.args.table.now c.lower_whole.new.table c.lower_whole-2.new.table c.lower_validity.new.table c.add_list.new.table (number_of c.in_ok-element_plan.element_plan) (number_of c.in_ok-offset_plan.offset_plan) w c.nullability_at-nullability.result c.rows_at-row_count.result (number_of plan) c.requires.can c.requires.parts c.in_ok-element_plan.ensures c.in_ok-offset_plan.ensures c.in_ok-validity_plan.ensures.adds c.in_ok-validity_plan.ensures.given c.nullability_at-nullability.ensures c.rows_at-row_count.ensures added) c.add_list.result c.add_list.ensures

-- ---- zones

pub lower_zoned-lower_whole-requires : goal.lower_zoned-lower_whole-requires
lower_zoned-lower_whole-requires g c =
    let zones : Zones = zones_at c.args.told in
    let later = zones_later c.args.tree.now c.args.node true zones c.args.told.content c.args.told.table all c.args.table.now c.requires.can c.requires.parts in
    (omega (arith, later.0, later.1), (content_can c.args.tree.now c.args.node zones c.args.told.content c.args.told.table all c.args.table.now c.requires.can c.requires.parts, given_type c.args.tree.now c.args.node c.args.told.content (option_map (λ dtype. data_type (arc_value dtype.now)) c.args.given) (content_type c.args.tree.now c.args.node true zones c.args.told.content c.args.told.table all c.args.table.now c.requires.can c.requires.parts) c.requires.given))

pub lower_zoned-lower_whole-requires-2 : goal.lower_zoned-lower_whole-requires-2
lower_zoned-lower_whole-requires-2 g c =
    let zones : Zones = zones_at c.args.told in
    let later = zones_later c.args.tree.now c.args.node true zones c.args.told.content c.args.told.table all c.args.table.now c.requires.can c.requires.parts in
    (omega (arith, later.2, later.3), (zone_table_can c.args.tree.now c.args.node zones c.args.told.content c.args.told.table all c.args.table.now c.lower_whole.new.table (number_of c.in_ok-content.content) c.requires.can c.requires.parts c.in_ok-content.ensures, tt))

pub lower_zoned-add_zoned-requires-clause-room : goal.lower_zoned-add_zoned-requires-clause-room
lower_zoned-add_zoned-requires-clause-room g c =
    zoned_room c.args.tree.now c.args.node (zones_at c.args.told) c.args.told.content c.args.told.table all c.args.table.now c.lower_whole.new.table c.lower_whole-2.new.table (number_of c.in_ok-content.content) (number_of c.in_ok-zones.zones) c.requires.can c.requires.parts c.in_ok-content.ensures c.in_ok-zones.ensures

pub lower_zoned-add_zoned-requires-clause-known : goal.lower_zoned-add_zoned-requires-clause-known
lower_zoned-add_zoned-requires-clause-known g c =
    zoned_known c.args.tree.now c.args.node (zones_at c.args.told) c.args.told.content c.args.told.table all c.args.table.now c.lower_whole.new.table c.lower_whole-2.new.table (number_of c.in_ok-content.content) (number_of c.in_ok-zones.zones) c.requires.can c.requires.parts c.in_ok-content.ensures c.in_ok-zones.ensures

pub lower_zoned-add_zoned-requires-clause-kept : goal.lower_zoned-add_zoned-requires-clause-kept
lower_zoned-add_zoned-requires-clause-kept g c =
    zoned_keeps c.args.tree.now c.args.node (zones_at c.args.told) c.args.told.content c.args.told.table all c.args.table.now c.lower_whole.new.table c.lower_whole-2.new.table (number_of c.in_ok-content.content) (number_of c.in_ok-zones.zones) c.requires.can c.requires.parts c.in_ok-content.ensures c.in_ok-zones.ensures

pub lower_zoned-returns : goal.lower_zoned-returns
lower_zoned-returns g c =
    let told = c.args.told in
    if_ok (λ plan. IsAdded c.lower_whole-2.new.table c.add_zoned.new.table (zones_node told.is_legacy c.lower_whole-2.new.table (number_of c.in_ok-content.content) (number_of c.in_ok-zones.zones) told.zone_len told.stats.now) (number_of plan)) (λ plan. AddsPlan c.args.table.now c.add_zoned.new.table (lowered (subtree c.args.tree.now c.args.node) all) (number_of plan))
    (λ plan added. told_adds c.args.tree.now c.args.node (zones_at told) told.content told.table all c.args.table.now c.lower_whole.new.table c.lower_whole-2.new.table c.add_zoned.new.table (number_of c.in_ok-content.content) (number_of c.in_ok-zones.zones) (number_of plan) c.requires.can c.requires.parts c.in_ok-content.ensures c.in_ok-zones.ensures added) c.add_zoned.result c.add_zoned.ensures

-- ---- any node

pub lower_whole-lower_whole-requires : goal.lower_whole-lower_whole-requires
lower_whole-lower_whole-requires g c =
    let later = plain_later c.args.tree.now c.args.node c.in-Plain.content all c.args.table.now c.requires.can c.in-Plain.ensures in
    (omega (arith, later.0, later.1), (plain_can c.args.tree.now c.args.node c.in-Plain.content all c.args.table.now c.requires.can c.in-Plain.ensures, given_type c.args.tree.now c.args.node c.in-Plain.content (option_map (λ dtype. data_type (arc_value dtype.now)) c.args.given) (plain_type c.args.tree.now c.args.node c.in-Plain.content all c.args.table.now c.requires.can c.in-Plain.ensures) c.requires.given))

pub lower_whole-returns-in-Plain : goal.lower_whole-returns-in-Plain
lower_whole-returns-in-Plain g c =
    if_ok (λ plan. AddsPlan c.args.table.now c.lower_whole.new.table (lowered (subtree c.args.tree.now c.in-Plain.content) all) (number_of plan)) (λ plan. AddsPlan c.args.table.now c.lower_whole.new.table (lowered (subtree c.args.tree.now c.args.node) all) (number_of plan))
    (λ plan adds. plain_adds c.args.tree.now c.args.node c.in-Plain.content all c.args.table.now c.lower_whole.new.table (number_of plan) c.in-Plain.ensures adds) c.lower_whole.result c.lower_whole.ensures
