use Rattle.std.proofs.Common.{◌≡◌, ℕ, Some, None, ap, ◌∙◌}
use Rattle.vx_plan.specs.Kinds.{proof_of}
use Rattle.vx_plan.specs.Rules.{node_at}
use Rattle.vx_steps.proofs.PrunedRows.{proof_there}
use Rattle.vx_steps.proofs.pruned.proof_at.Goals as goal

pub unreachable-requires : goal.unreachable-requires
unreachable-requires c =
    let nodes = c.args.table.now in
    let there = proof_there nodes c.args.plan c.requires.pruning in
    let is : None ≡ proof_of (node_at nodes c.args.plan).kind = c.in-None.ensures ∙ ap (λ (n : ℕ). proof_of (node_at nodes n).kind) c.pruning_at-zoned.ensures.number in
    let same : None ≡ Some there.0 = is ∙ there.1 in
    cc

pub returns : goal.returns
returns c = c.in-Some.ensures ∙ ap (λ (n : ℕ). proof_of (node_at c.args.table.now n).kind) c.pruning_at-zoned.ensures.number
