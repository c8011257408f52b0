use Rattle.std.proofs.Common.{◌≡◌, ℕ, ap, ◌∙◌}
use Rattle.std.specs.Arc.{arc_value}
use Rattle.vx_base.specs.Data.{DataType}
use Rattle.vx_base.specs.Views.{data_type}
use Rattle.vx_layout.specs.Trees.{subtree}
use Rattle.vx_plan.specs.Refs.{number_of}
use Rattle.vx_lower.specs.Keeping.{chosen, kept_of}
use Rattle.vx_lower.specs.KeptRows.{kept_type}
use Rattle.vx_lower.specs.Lowered.{lowered}
use Rattle.vx_lower.specs.NodeParts.{packed_plan, tree_head}
use Rattle.vx_lower.specs.Numbered.{AddsPlan}
use Rattle.vx_lower.proofs.KeptPacks.{flags_count, kept_adds, kept_are_packed, kept_can}
use Rattle.vx_lower.proofs.Nodes.{if_ok}
use Rattle.vx_lower.proofs.lowering_kept.keep_fields.Goals as goal

pub chosen-requires : goal.chosen-requires
chosen-requires c = flags_count c.args.tree.now c.args.node c.args.fields.now c.args.validity c.args.keeping.now c.args.table.now c.requires.can c.requires.parts c.requires.keeping

pub lower_packed-requires-clause-can : goal.lower_packed-requires-clause-can
lower_packed-requires-clause-can c =
    let these : c.deref.result.now ≡ chosen c.args.keeping.now.flags.items c.args.fields.now = c.deref.ensures.value ∙ c.in_ok-kept.ensures in
    kept_can c.args.tree.now c.args.node c.args.fields.now c.args.validity c.args.keeping.now c.args.table.now c.deref.result.now c.requires.can c.requires.parts c.requires.keeping these

pub lower_packed-requires-clause-packed : goal.lower_packed-requires-clause-packed
lower_packed-requires-clause-packed c =
    let these : c.deref.result.now ≡ chosen c.args.keeping.now.flags.items c.args.fields.now = c.deref.ensures.value ∙ c.in_ok-kept.ensures in
    let typed : data_type (arc_value c.in_ok-dtype.dtype) ≡ kept_type (kept_of c.args.keeping.now) (tree_head c.args.tree.now c.args.node).dtype = ap data_type c.in_ok-dtype.ensures ∙ c.requires.keeping.dtype_is in
    kept_are_packed c.args.tree.now c.args.node c.args.fields.now c.args.validity c.args.keeping.now c.args.table.now c.deref.result.now (data_type (arc_value c.in_ok-dtype.dtype)) c.requires.can c.requires.parts c.requires.keeping these typed

pub returns : goal.returns
returns c =
    let nodes = c.args.tree.now in
    let t : DataType = data_type (arc_value c.in_ok-dtype.dtype) in
    let these : c.deref.result.now ≡ chosen c.args.keeping.now.flags.items c.args.fields.now = c.deref.ensures.value ∙ c.in_ok-kept.ensures in
    let typed : t ≡ kept_type (kept_of c.args.keeping.now) (tree_head nodes c.args.node).dtype = ap data_type c.in_ok-dtype.ensures ∙ c.requires.keeping.dtype_is in
    if_ok (λ plan. (number : ℕ) → AddsPlan c.args.table.now c.lower_packed.new.table (packed_plan nodes (record { number = number; dtype = t; rows = (tree_head nodes c.args.node).rows }) c.deref.result.now c.args.validity) (number_of plan)) (λ plan. AddsPlan c.args.table.now c.lower_packed.new.table (lowered (subtree nodes c.args.node) (kept_of c.args.keeping.now)) (number_of plan))
    (λ plan adds. kept_adds nodes c.args.node c.args.fields.now c.args.validity c.args.keeping.now c.args.table.now c.lower_packed.new.table c.deref.result.now t (number_of plan) c.requires.can c.requires.parts c.requires.keeping these typed adds) c.lower_packed.result c.lower_packed.ensures
