use Rattle.std.proofs.Common.{◌≡◌, false, true, ap, ◌∙◌}
use Rattle.vx_plan.specs.declared.children.PlanRef.{PlanRef}
use Rattle.vx_plan.specs.Kinds.{proof_of, IsZoned}
use Rattle.vx_plan.specs.Refs.{number_of}
use Rattle.vx_plan.specs.Rules.{node_at}
use Rattle.vx_lower.proofs.Predicates.{kind_has, no_proof}
use Rattle.vx_lower.proofs.plan_extractors.proof_of.Goals as goal

not_some : false ≡ true → ⊥
not_some e = cc

pub returns-in-Some : goal.returns-in-Some
returns-in-Some c = c.pruning_proof.ensures ∙ ap (λ (plan : PlanRef). proof_of (node_at c.args.table.now (number_of plan)).kind) c.in-Some.ensures.same

pub returns-in-None : goal.returns-in-None
returns-in-None c =
    let n = number_of c.args.plan in
    no_proof (node_at c.args.table.now n).kind (λ is. not_some (c.in-None.ensures.exactly.1 (kind_has IsZoned c.args.table.now n c.requires is)))
