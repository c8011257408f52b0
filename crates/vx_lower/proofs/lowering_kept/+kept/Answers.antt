use Rattle.std.proofs.Common.{ℕ, ◌+◌, true, ⊎_elim, List, [], ◌∷◌, ◌++◌, map, take, sym, ap, ◌∙◌, subst, arith}
use Rattle.std.specs.Arc.{arc_value}
use Rattle.std.proofs.lemmas.List.{map-append}
use Rattle.vx_base.specs.Data.{DataType}
use Rattle.vx_base.specs.Views.{data_type}
use Rattle.vx_layout.specs.Kept.{KeptFields}
use Rattle.vx_rows.specs.Zones.{Zones}
use Rattle.vx_layout.specs.Trees.{subtree}
use Rattle.vx_plan.specs.Refs.{number_of}
use Rattle.vx_plan.specs.Rules.{concat_node}
use Rattle.vx_plan.specs.Tables.{IsAdded}
use Rattle.vx_lower.specs.Keeping.{kept_of}
use Rattle.vx_lower.specs.Lowered.{lowered}
use Rattle.vx_lower.specs.NodeParts.{lowered_each, zones_at, zones_node, PartsOf}
use Rattle.vx_lower.specs.Numbered.{AddsPlan, AddsPlans}
use Rattle.vx_lower.proofs.Chunks.{chunked_adds, chunked_can, chunks_can}
use Rattle.vx_lower.proofs.KeptNodes.{chunks_keep, content_keeps, no_leaf, no_list}
use Rattle.vx_lower.proofs.Nodes.{if_ok, place_added, place_can, room_over}
use Rattle.vx_lower.proofs.Pairs.{content_can, content_type, plain_adds, plain_can, plain_later, plain_type, told_adds, zone_table_can, zoned_keeps, zoned_known, zoned_room, zones_later}
use Rattle.vx_lower.proofs.lowering_kept.+kept.Goals as goal

-- ---- nodes in a row

pub keep_each-loop-child-preserved : goal.keep_each-loop-child-preserved
keep_each-loop-child-preserved g c =
    let nodes = c.args.tree.now in
    let kept : KeptFields = kept_of c.args.keeping.now in
    let ns : List ℕ = c.args.children.now in
    let i : ℕ = c.loop-child.child-index in
    let so_far : List ℕ = map number_of c.loop-child.plans.items in
    let next : AddsPlans c.args.table.now c.lower_kept.new.table (lowered_each nodes kept (take (i + 1) ns)) (so_far ++ number_of c.in_ok-plan.plan ∷ []) = place_added nodes ns kept c.args.table.now c.loop-child.table c.lower_kept.new.table i so_far (number_of c.in_ok-plan.plan) c.loop-child-test.true c.loop-child.invariant c.in_ok-plan.ensures in
    subst (λ (ms : List ℕ). AddsPlans c.args.table.now c.lower_kept.new.table (lowered_each nodes kept (take (i + 1) ns)) ms) (sym (ap (map number_of) c.in_ok-push.ensures.items ∙ map-append number_of c.loop-child.plans.items (c.in_ok-plan.plan ∷ []))) next

pub keep_each-lower_kept-requires : goal.keep_each-lower_kept-requires
keep_each-lower_kept-requires g c =
    let i : ℕ = c.loop-child.child-index in
    let later = c.requires.can.later i 0 c.loop-child-test.true in
    (omega (arith, later.0, later.1), (place_can c.args.tree.now c.args.node c.args.children.now (kept_of c.args.keeping.now) c.args.table.now c.loop-child.table i (map number_of c.loop-child.plans.items) c.requires.can c.loop-child-test.true c.loop-child.invariant, c.requires.keeping i 0 c.loop-child-test.true))

-- ---- chunks

pub keep_chunks-keep_each-requires : goal.keep_chunks-keep_each-requires
keep_chunks-keep_each-requires g c =
    (omega arith, (chunks_can c.args.tree.now c.args.node c.args.chunks.now (kept_of c.args.keeping.now) c.args.table.now c.requires.can c.requires.parts, chunks_keep c.args.tree.now c.args.node c.args.chunks.now c.args.keeping.now c.args.table.now c.requires.can c.requires.parts c.requires.keeping))

pub keep_chunks-add_concat-requires-clause-room : goal.keep_chunks-add_concat-requires-clause-room
keep_chunks-add_concat-requires-clause-room g c =
    room_over c.args.tree.now c.args.node c.args.chunks.now (kept_of c.args.keeping.now) c.args.table.now c.keep_each.new.table c.in_ok-plans.plans (chunks_can c.args.tree.now c.args.node c.args.chunks.now (kept_of c.args.keeping.now) c.args.table.now c.requires.can c.requires.parts) c.in_ok-plans.ensures

pub keep_chunks-add_concat-requires-clause-kept : goal.keep_chunks-add_concat-requires-clause-kept
keep_chunks-add_concat-requires-clause-kept g c =
    let typed = ap data_type c.in_ok-dtype.ensures ∙ c.requires.keeping.dtype_is in
    chunked_can c.args.tree.now c.args.node c.args.chunks.now (kept_of c.args.keeping.now) c.args.table.now c.keep_each.new.table c.in_ok-plans.plans (data_type (arc_value c.in_ok-dtype.dtype)) c.requires.can c.requires.parts c.in_ok-plans.ensures typed

pub keep_chunks-returns : goal.keep_chunks-returns
keep_chunks-returns g c =
    let t : DataType = data_type (arc_value c.in_ok-dtype.dtype) in
    let typed = ap data_type c.in_ok-dtype.ensures ∙ c.requires.keeping.dtype_is in
    if_ok (λ plan. IsAdded c.keep_each.new.table c.add_concat.new.table (concat_node c.keep_each.new.table t c.in_ok-plans.plans) (number_of plan)) (λ plan. AddsPlan c.args.table.now c.add_concat.new.table (lowered (subtree c.args.tree.now c.args.node) (kept_of c.args.keeping.now)) (number_of plan))
    (λ plan added. chunked_adds c.args.tree.now c.args.node c.args.chunks.now (kept_of c.args.keeping.now) c.args.table.now c.keep_each.new.table c.add_concat.new.table c.in_ok-plans.plans t (number_of plan) c.requires.can c.requires.parts c.in_ok-plans.ensures typed added) c.add_concat.result c.add_concat.ensures

-- ---- zones

pub keep_zoned-lower_kept-requires : goal.keep_zoned-lower_kept-requires
keep_zoned-lower_kept-requires g c =
    let zones : Zones = zones_at c.args.told in
    let kept : KeptFields = kept_of c.args.keeping.now in
    let later = zones_later c.args.tree.now c.args.node true zones c.args.told.content c.args.told.table kept c.args.table.now c.requires.can c.requires.parts in
    (omega (arith, later.0, later.1), (content_can c.args.tree.now c.args.node zones c.args.told.content c.args.told.table kept c.args.table.now c.requires.can c.requires.parts, content_keeps c.args.tree.now c.args.node c.args.told.content c.args.keeping.now (content_type c.args.tree.now c.args.node true zones c.args.told.content c.args.told.table kept c.args.table.now c.requires.can c.requires.parts) c.requires.keeping))

pub keep_zoned-lower_whole-requires-clause-can : goal.keep_zoned-lower_whole-requires-clause-can
keep_zoned-lower_whole-requires-clause-can g c =
    zone_table_can c.args.tree.now c.args.node (zones_at c.args.told) c.args.told.content c.args.told.table (kept_of c.args.keeping.now) c.args.table.now c.lower_kept.new.table (number_of c.in_ok-content.content) c.requires.can c.requires.parts c.in_ok-content.ensures

pub keep_zoned-add_zoned-requires-clause-room : goal.keep_zoned-add_zoned-requires-clause-room
keep_zoned-add_zoned-requires-clause-room g c =
    zoned_room c.args.tree.now c.args.node (zones_at c.args.told) c.args.told.content c.args.told.table (kept_of c.args.keeping.now) c.args.table.now c.lower_kept.new.table c.lower_whole.new.table (number_of c.in_ok-content.content) (number_of c.in_ok-zones.zones) c.requires.can c.requires.parts c.in_ok-content.ensures c.in_ok-zones.ensures

pub keep_zoned-add_zoned-requires-clause-known : goal.keep_zoned-add_zoned-requires-clause-known
keep_zoned-add_zoned-requires-clause-known g c =
    zoned_known c.args.tree.now c.args.node (zones_at c.args.told) c.args.told.content c.args.told.table (kept_of c.args.keeping.now) c.args.table.now c.lower_kept.new.table c.lower_whole.new.table (number_of c.in_ok-content.content) (number_of c.in_ok-zones.zones) c.requires.can c.requires.parts c.in_ok-content.ensures c.in_ok-zones.ensures

pub keep_zoned-add_zoned-requires-clause-kept : goal.keep_zoned-add_zoned-requires-clause-kept
keep_zoned-add_zoned-requires-clause-kept g c =
    zoned_keeps c.args.tree.now c.args.node (zones_at c.args.told) c.args.told.content c.args.told.table (kept_of c.args.keeping.now) c.args.table.now c.lower_kept.new.table c.lower_whole.new.table (number_of c.in_ok-content.content) (number_of c.in_ok-zones.zones) c.requires.can c.requires.parts c.in_ok-content.ensures c.in_ok-zones.ensures

pub keep_zoned-returns : goal.keep_zoned-returns
keep_zoned-returns g c =
    let told = c.args.told in
    if_ok (λ plan. IsAdded c.lower_whole.new.table c.add_zoned.new.table (zones_node told.is_legacy c.lower_whole.new.table (number_of c.in_ok-content.content) (number_of c.in_ok-zones.zones) told.zone_len told.stats.now) (number_of plan)) (λ plan. AddsPlan c.args.table.now c.add_zoned.new.table (lowered (subtree c.args.tree.now c.args.node) (kept_of c.args.keeping.now)) (number_of plan))
    (λ plan added. told_adds c.args.tree.now c.args.node (zones_at told) told.content told.table (kept_of c.args.keeping.now) c.args.table.now c.lower_kept.new.table c.lower_whole.new.table c.add_zoned.new.table (number_of c.in_ok-content.content) (number_of c.in_ok-zones.zones) (number_of plan) c.requires.can c.requires.parts c.in_ok-content.ensures c.in_ok-zones.ensures added) c.add_zoned.result c.add_zoned.ensures

-- ---- any node

pub lower_kept-lower_kept-requires : goal.lower_kept-lower_kept-requires
lower_kept-lower_kept-requires g c =
    let kept : KeptFields = kept_of c.args.keeping.now in
    let later = plain_later c.args.tree.now c.args.node c.in-Plain.content kept c.args.table.now c.requires.can c.in-Plain.ensures in
    (omega (arith, later.0, later.1), (plain_can c.args.tree.now c.args.node c.in-Plain.content kept c.args.table.now c.requires.can c.in-Plain.ensures, content_keeps c.args.tree.now c.args.node c.in-Plain.content c.args.keeping.now (plain_type c.args.tree.now c.args.node c.in-Plain.content kept c.args.table.now c.requires.can c.in-Plain.ensures) c.requires.keeping))

pub lower_kept-returns-in-Plain : goal.lower_kept-returns-in-Plain
lower_kept-returns-in-Plain g c =
    if_ok (λ plan. AddsPlan c.args.table.now c.lower_kept.new.table (lowered (subtree c.args.tree.now c.in-Plain.content) (kept_of c.args.keeping.now)) (number_of plan)) (λ plan. AddsPlan c.args.table.now c.lower_kept.new.table (lowered (subtree c.args.tree.now c.args.node) (kept_of c.args.keeping.now)) (number_of plan))
    (λ plan adds. plain_adds c.args.tree.now c.args.node c.in-Plain.content (kept_of c.args.keeping.now) c.args.table.now c.lower_kept.new.table (number_of plan) c.in-Plain.ensures adds) c.lower_kept.result c.lower_kept.ensures

pub lower_kept-unreachable-requires : goal.lower_kept-unreachable-requires
lower_kept-unreachable-requires g c =
    let nodes = c.args.tree.now in
    ⊎_elim
    (λ leaf. no_leaf nodes c.args.node leaf.0 leaf.1 c.args.keeping.now c.args.table.now c.requires.can (subst (PartsOf nodes c.args.node) leaf.2 c.of.ensures) c.requires.keeping)
    (λ list. no_list nodes c.args.node list.0 list.1 list.2 c.args.keeping.now c.args.table.now c.requires.can (subst (PartsOf nodes c.args.node) list.3 c.of.ensures) c.requires.keeping)
    c.in-Leaf.is
