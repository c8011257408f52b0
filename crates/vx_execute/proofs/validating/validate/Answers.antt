use Rattle.std.proofs.Common.{◌≡◌, [], Some, rules}
use Rattle.std.specs.List.Sorted.{IsPermutation}
use Rattle.std.proofs.lemmas.List.Sorted.{All-permutation}
use Rattle.vx_workers.specs.Merges.{no_memory}
use Rattle.vx_workers.specs.Borrowers.{IsBorrower}
use Rattle.vx_execute.proofs.ValidatedOutcome.{validates_sorted, validates_unordered, still_once}
use Rattle.vx_execute.proofs.validating.validate.Goals as goal
use Rattle.vx_execute.proofs.validating.validate.Goals.{then-not-sort, else-not-sort}

pub validate_all-requires-clause-borrowers : goal.validate_all-requires-clause-borrowers
validate_all-requires-clause-borrowers g c =
    let permutes : IsPermutation c.args.joined.borrowers.items c.sort_borrowers.new.borrowers.items = search rules in
    All-permutation (IsBorrower c.args.plans.now c.args.chunks.now) c.args.joined.borrowers.items c.sort_borrowers.new.borrowers.items permutes c.requires.borrowers

pub validate_all-requires-clause-once : goal.validate_all-requires-clause-once
validate_all-requires-clause-once g c =
    let permutes : IsPermutation c.args.joined.borrowers.items c.sort_borrowers.new.borrowers.items = search rules in
    still_once c.args.joined.borrowers.items c.sort_borrowers.new.borrowers.items permutes c.requires.once

pub returns : goal.returns
returns g c =
    let permutes : IsPermutation c.args.joined.borrowers.items c.sort_borrowers.new.borrowers.items = search rules in
    elim c.if-not-sort.branch [
      | then-not-sort w ↦
          let none : c.sort.new.pieces.items ≡ [] = search rules in
          let error : c.if-not-sort.error ≡ Some no_memory = search rules in
          rw error (validates_unordered _ _ _ _ _ _ _ _ _ permutes c.validate_all.ensures none c.sort.ensures.sorted)
      | else-not-sort w ↦
          let error : c.if-not-sort.error ≡ c.validate_all.new.validated.error = search rules in
          let moved : IsPermutation c.validate_all.new.validated.pieces.items c.sort.new.pieces.items = search rules in
          rw error (validates_sorted _ _ _ _ _ _ _ _ _ permutes c.validate_all.ensures moved c.sort.ensures.sorted)
    ]
