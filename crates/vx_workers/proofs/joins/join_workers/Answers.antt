use Rattle.std.proofs.Common.{ℕ, subst}
use Rattle.vx_workers.specs.Merges.{Merges}
use Rattle.vx_workers.proofs.Finishing.{joins}
use Rattle.vx_workers.proofs.joins.join_workers.Goals as goal

pub returns : goal.returns
returns c =
    let merges = subst (λ (left : ℕ). Merges c.args.claims left c.args.worker_states.items c.merge_workers.new.seat c.merge_workers.new.joined) c.requires.left.parts c.merge_workers.ensures in
    joins c.args.claims _ c.close-word.result c.args.worker_states.items _ _ c.requires.few c.requires.parts merges c.close-word.ensures
