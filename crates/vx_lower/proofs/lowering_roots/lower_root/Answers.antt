use Rattle.std.proofs.Common.{◌≡◌, sym, ap, ◌∙◌, subst}
use Rattle.std.specs.Prelude.{IfOk}
use Rattle.vx_base.specs.Data.{DataType}
use Rattle.vx_base.specs.Views.{data_type}
use Rattle.vx_layout.specs.Kept.{all, kept_data, only, KeptFields}
use Rattle.vx_layout.specs.Trees.{subtree}
use Rattle.vx_plan.specs.Refs.{number_of}
use Rattle.vx_lower.specs.Keeping.{kept_of, IsKeeping}
use Rattle.vx_lower.specs.KeptRows.{MayKeep}
use Rattle.vx_lower.specs.Lowered.{lowered}
use Rattle.vx_lower.specs.NodeParts.{CanLower}
use Rattle.vx_lower.specs.Numbered.{AddsPlan}
use Rattle.vx_lower.proofs.Roots.{root_may, root_names, root_type}
use Rattle.vx_lower.proofs.lowering_roots.lower_root.Goals as goal

pub lower_whole-requires-clause-can : goal.lower_whole-requires-clause-can
lower_whole-requires-clause-can c = subst (λ (kept : KeptFields). CanLower c.args.tree.now 0 kept c.args.table.now) (ap kept_data c.in-All.is) c.requires.can

pub returns-in-All : goal.returns-in-All
returns-in-All c =
    let e : all ≡ kept_data c.args.kept.now = sym (ap kept_data c.in-All.is) in
    subst (λ (kept : KeptFields). IfOk c.lower_whole.result (λ plan. AddsPlan c.args.table.now c.lower_whole.new.table (lowered (subtree c.args.tree.now 0) kept) (number_of plan))) e c.lower_whole.ensures

pub of-requires-clause-may : goal.of-requires-clause-may
of-requires-clause-may c =
    let e : kept_data c.args.kept.now ≡ only c.deref.result.now = ap kept_data c.in-Fields.is ∙ ap only (sym c.deref.ensures.value) in
    subst (λ (kept : KeptFields). MayKeep kept (data_type c.dtype.result.now)) e (root_may c.args.tree.now (kept_data c.args.kept.now) (data_type c.dtype.result.now) c.dtype.ensures c.requires.kept)

pub of-requires-clause-distinct : goal.of-requires-clause-distinct
of-requires-clause-distinct c = root_names c.args.tree.now c.requires.can.tree (data_type c.dtype.result.now) c.dtype.ensures

pub lower_kept-plan-requires-clause-can : goal.lower_kept-plan-requires-clause-can
lower_kept-plan-requires-clause-can c =
    let e : kept_data c.args.kept.now ≡ kept_of c.in_ok-keeping-in-Fields.keeping = ap kept_data c.in-Fields.is ∙ ap only (sym c.deref.ensures.value) ∙ sym c.in_ok-keeping-in-Fields.ensures.names in
    subst (λ (kept : KeptFields). CanLower c.args.tree.now 0 kept c.args.table.now) e c.requires.can

pub lower_kept-plan-requires-clause-keeping : goal.lower_kept-plan-requires-clause-keeping
lower_kept-plan-requires-clause-keeping c =
    subst (λ (t : DataType). IsKeeping t c.in_ok-keeping-in-Fields.keeping) (root_type c.args.tree.now c.requires.can.tree (data_type c.dtype.result.now) c.dtype.ensures) c.in_ok-keeping-in-Fields.ensures.keeping

pub returns-in_ok-keeping-in-Fields : goal.returns-in_ok-keeping-in-Fields
returns-in_ok-keeping-in-Fields c =
    let e : kept_data c.args.kept.now ≡ kept_of c.in_ok-keeping-in-Fields.keeping = ap kept_data c.in-Fields.is ∙ ap only (sym c.deref.ensures.value) ∙ sym c.in_ok-keeping-in-Fields.ensures.names in
    subst (λ (kept : KeptFields). IfOk c.lower_kept-plan.result (λ plan. AddsPlan c.args.table.now c.lower_kept-plan.new.table (lowered (subtree c.args.tree.now 0) kept) (number_of plan))) (sym e) c.lower_kept-plan.ensures
