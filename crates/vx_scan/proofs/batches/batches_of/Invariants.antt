use Rattle.std.proofs.Common.{◌≡◌, ◌++◌, map}
use Rattle.vx_workers.specs.declared.worker_states.Piece.{Piece}
use Rattle.vx_scan.proofs.batches.batches_of.Given as goal

-- the columns of the pieces so far
abbrev pub invariant-loop-piece : goal.invariant-loop-piece
invariant-loop-piece l = (l.batches.items ≡ map (λ (piece : Piece). piece.column) l.yielded) × (l.yielded ++ l.piece-iterator.rest.items ≡ l.fn.outcome.pieces.items)
