use Rattle.std.proofs.Common.{rules}
use Rattle.std.proofs.lemmas.List.Sorted.{IsNonDecreasingBy-from_sort_by_key}
use Rattle.vx_workers.specs.declared.worker_states.Piece.{Piece}
use Rattle.vx_execute.proofs.validating.sort.Goals as goal

pub returns-in-Ok-clause-sorted : goal.returns-in-Ok-clause-sorted
returns-in-Ok-clause-sorted c = IsNonDecreasingBy-from_sort_by_key (λ (piece : Piece). piece.chunk) _ c.in-Ok.ensures.sorted (λ a r q k. search rules)
