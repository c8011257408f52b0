-- Room in a worker's state for what comes of a further chunk.
use Rattle.std.specs.Prelude.{◌≡◌, ◌<◌, Bool, true, length}
use Rattle.vx_workers.specs.declared.worker_states.WorkerState.{WorkerState}

-- There is room for its number, for its piece, and for a borrower.
pub record HasRoom (worker : WorkerState) : Type 0 where
  pub claimed : length worker.claimed.items < worker.claimed.cap
  pub pieces : length worker.pieces.items < worker.pieces.cap
  pub borrowers : length worker.borrowers.items < worker.borrowers.cap

-- The lists have the elements that they had, and nothing else of the state changes. Where room was made, there is some.
pub record MakesRoom (made : Bool) (old new : WorkerState) : Type 0 where
  pub stays : new ≡ record old { claimed = new.claimed; pieces = new.pieces; borrowers = new.borrowers }
  pub claimed : new.claimed.items ≡ old.claimed.items
  pub pieces : new.pieces.items ≡ old.pieces.items
  pub borrowers : new.borrowers.items ≡ old.borrowers.items
  pub room : made ≡ true → HasRoom new
