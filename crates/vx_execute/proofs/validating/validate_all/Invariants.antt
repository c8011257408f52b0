use Rattle.std.proofs.Common.{◌≡◌, ◌++◌}
use Rattle.vx_execute.proofs.ValidatingAll.{Validating}
use Rattle.vx_execute.proofs.validating.validate_all.Given as goal

abbrev pub invariant-loop-borrower : goal.invariant-loop-borrower
invariant-loop-borrower g l =
    Validating l.plans l.chunks l.fn.borrowers.items l.yielded l.fn.validated l.validated (g.S.SegmentSource.state l.fn.source) (g.S.SegmentSource.state l.source) × (l.yielded ++ l.borrower-iterator.rest.items ≡ l.fn.borrowers.items)
