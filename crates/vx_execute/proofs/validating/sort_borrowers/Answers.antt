use Rattle.std.proofs.Common.{rules}
use Rattle.std.proofs.lemmas.List.Sorted.{IsNonDecreasingBy-from_sort_by_key}
use Rattle.vx_workers.specs.declared.worker_states.Borrower.{Borrower}
use Rattle.vx_execute.proofs.validating.sort_borrowers.Goals as goal

pub returns-in-Ok : goal.returns-in-Ok
returns-in-Ok c = (search rules, IsNonDecreasingBy-from_sort_by_key (λ (borrower : Borrower). borrower.chunk) _ c.in-Ok.ensures.sorted (λ a r q k. search rules))
