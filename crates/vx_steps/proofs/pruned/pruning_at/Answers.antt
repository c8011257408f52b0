use Rattle.std.proofs.Common.{◌≡◌, false, true, sym, ap, subst}
use Rattle.vx_plan.specs.declared.children.PlanRef.{PlanRef}
use Rattle.vx_plan.specs.Kinds.{HasKind, IsZoned}
use Rattle.vx_plan.specs.Refs.{number_of}
use Rattle.vx_steps.proofs.PrunedRows.{pruning_zoned}
use Rattle.vx_steps.proofs.pruned.pruning_at.Goals as goal

not_some : false ≡ true → ⊥
not_some e = cc

pub unreachable-requires : goal.unreachable-requires
unreachable-requires c = not_some (c.in-None.ensures.exactly.1 (pruning_zoned c.args.table.now c.args.plan c.requires.pruning))

pub returns-clause-number : goal.returns-clause-number
returns-clause-number c = ap number_of c.in-Some.ensures.same

pub returns-clause-zoned : goal.returns-clause-zoned
returns-clause-zoned c =
    let F : PlanRef → Type 0 = λ plan. HasKind IsZoned c.args.table.now (number_of plan) in
    subst F (sym c.in-Some.ensures.same) (pruning_zoned c.args.table.now c.args.plan c.requires.pruning)
