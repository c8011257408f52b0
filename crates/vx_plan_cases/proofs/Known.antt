-- One more plan of the table.
use Rattle.std.proofs.Common.{◌≡◌, ◌<◌, List, [], ◌∷◌, ◌++◌, length, map, sym, subst}
use Rattle.std.proofs.lemmas.List.{map-append}
use Rattle.std.proofs.lemmas.List.Elements.{All-append, All-cons, All-nil}
use Rattle.vx_plan.specs.declared.children.PlanRef.{PlanRef}
use Rattle.vx_plan.specs.Nodes.{Node}
use Rattle.vx_plan.specs.Refs.{number_of}
use Rattle.vx_plan.specs.Tables.{AreIn}

pub one_more_known : (nodes : List Node) (plans more : List PlanRef) (plan : PlanRef) → more ≡ plans ++ plan ∷ [] → number_of plan < length nodes → AreIn nodes (map number_of plans) → AreIn nodes (map number_of more)
one_more_known nodes plans more plan pushed lt known =
    subst (λ (ps : List PlanRef). AreIn nodes (map number_of ps)) (sym pushed)
    (subst (AreIn nodes) (sym (map-append number_of plans (plan ∷ [])))
    (All-append (λ n. n < length nodes) (map number_of plans) (number_of plan ∷ []) known (All-cons (λ n. n < length nodes) (number_of plan) [] lt (All-nil (λ n. n < length nodes)))))
