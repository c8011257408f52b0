use Rattle.std.proofs.Common.{rules}
use Rattle.std.proofs.lemmas.List.Sorted.{IsNonDecreasingBy-from_sort_by_key}
use Rattle.vx_steps.specs.declared.placed_reads.PlacedRead.{PlacedRead}
use Rattle.vx_steps.proofs.open_needs.sort_by_last.Goals as goal

pub returns-in-Ok-clause-order : goal.returns-in-Ok-clause-order
returns-in-Ok-clause-order c = IsNonDecreasingBy-from_sort_by_key (λ (need : PlacedRead). need.last) _ c.in-Ok.ensures.sorted (λ a r q k. search rules)
