-- The state of a worker, from chunk to chunk.
use Rattle.std.proofs.Common.{◌≡◌, ◌≢◌, ℕ, ◌≤◌, ◌⊎◌, inl, inr, Bool, true, false, List, [], ◌∷◌, ◌++◌, Option, Some, None, Result, Ok, Err, refl, sym, ◌∙◌, ap, subst, arith}
use Rattle.std.specs.Prelude.{IfErr}
use Rattle.std.specs.List.{slice_get}
use Rattle.std.proofs.lemmas.List.{map_push}
use Rattle.vx_splits.specs.declared.selected_rows.SelectedRows.{SelectedRows}
use Rattle.vx_claims.specs.declared.claims.Claims.{Claims}
use Rattle.vx_claims.specs.Apart.{times}
use Rattle.vx_claims.specs.Claims.{IsSeatOf, claimed, parts, was_told}
use Rattle.vx_claims.specs.Views.{above}
use Rattle.vx_claims.proofs.Numbers.{times_append}
use Rattle.vx_drive.specs.declared.errors.ScanError.{ScanError}
use Rattle.vx_drive.specs.declared.plans.ScanPlans.{ScanPlans}
use Rattle.vx_drive.specs.Plans.{IsChunkOf}
use Rattle.vx_chunks.specs.declared.outcomes.HandedOn.{HandedOn}
use Rattle.vx_chunks.specs.Outcomes.{data_of, told_by, AreAllThere, IsHandedBy}
use Rattle.vx_workers.specs.declared.borrowing.Shared.{Shared}
use Rattle.vx_workers.specs.declared.worker_states.ChunkError.{ChunkError}
use Rattle.vx_workers.specs.declared.worker_states.WorkerState.{WorkerState}
use Rattle.vx_workers.specs.declared.worker_states.Borrower.{Borrower}
use Rattle.vx_workers.specs.declared.worker_states.Piece.{Piece}
use Rattle.vx_workers.specs.Borrowing.{RecordsOutcome, RunsShared}
use Rattle.vx_workers.specs.Hindered.{IsRefused}
use Rattle.vx_workers.specs.Merges.{no_memory}
use Rattle.vx_workers.specs.Room.{MakesRoom}
use Rattle.vx_workers.specs.Borrowers.{borrower_chunks, FaultsBorrowing, IsBorrower, IsBorrowerBy, RestsOnValues}
use Rattle.vx_workers.specs.Unhindered.{IsUnhindered}
use Rattle.vx_workers.specs.Workers.{numbers_of, AreDone, Ends, Fails, IsFreshWorker, Worked}
use Rattle.vx_workers.proofs.Higher.{ascend_push}
use Rattle.vx_workers.proofs.BorrowerChunks.{ListsSoFar, given_stand, had_there, lists_none, borrower_by, borrower_is, borrower_listed, borrower_of, faults_borrowing, piece_listed, runs_alone, runs_sure, runs_with}
use Rattle.vx_workers.proofs.Working.{IsGoodPlans, RanSoFar, fails_now, ran_more, ran_none, source_more, told_before}
use Rattle.vx_base.specs.Columns.{ColumnData}
use Rattle.vx_base.specs.Sources.{SourceState}

-- A worker between two chunks: all that it claimed are done, or ran with borrowed values.
pub record Working (shares : Bool) (claims : Claims) (plans : ScanPlans) (chunks : List SelectedRows) (worker : WorkerState) (before now : SourceState) : Type 0 where
  pub own : IsSeatOf claims worker.seat
  pub parts : parts worker.seat ≡ 1
  pub claimed : worker.claimed.items ≡ claimed worker.seat
  pub done : AreDone worker.claimed.items (numbers_of worker.pieces.items) (borrower_chunks worker.borrowers.items)
  pub alone : shares ≡ false → worker.borrowers.items ≡ []
  pub error : worker.error ≡ None
  pub ran : RanSoFar shares plans chunks worker.claimed.items worker.handed before now
  pub lists : ListsSoFar plans chunks worker.pieces.items worker.borrowers.items before

none_done : (numbers : List ℕ) (pieces : List Piece) (borrowers : List Borrower) → numbers ≡ [] → pieces ≡ [] → borrowers ≡ [] → AreDone numbers (numbers_of pieces) (borrower_chunks borrowers)
none_done numbers pieces borrowers no_numbers no_pieces no_borrowers x = rw (no_numbers, no_pieces, no_borrowers) refl

pub works_none : (shares : Bool) (claims : Claims) (plans : ScanPlans) (chunks : List SelectedRows) (worker : WorkerState) (source : SourceState) → IsFreshWorker claims worker → Working shares claims plans chunks worker source source
works_none shares claims plans chunks worker source fresh = record {
  own = fresh.fresh.own;
  parts = fresh.fresh.parts;
  claimed = fresh.claimed ∙ sym fresh.fresh.claimed;
  done = none_done worker.claimed.items worker.pieces.items worker.borrowers.items fresh.claimed fresh.pieces fresh.borrowers;
  alone = λ off. fresh.borrowers;
  error = fresh.error;
  ran = ran_none shares plans chunks worker.claimed.items worker.handed source fresh.leaves fresh.made fresh.claimed;
  lists = lists_none plans chunks worker.pieces.items worker.borrowers.items source fresh.pieces fresh.borrowers;
}

-- room for a further chunk changes nothing of it
pub with_room : (shares : Bool) (claims : Claims) (plans : ScanPlans) (chunks : List SelectedRows) (made : Bool) (old worker : WorkerState) (before now : SourceState) → Working shares claims plans chunks old before now → MakesRoom made old worker → Working shares claims plans chunks worker before now
with_room shares claims plans chunks made old worker before now working room =
    subst (λ (one : WorkerState). Working shares claims plans chunks one before now) (sym room.stays) (record {
      own = working.own;
      parts = working.parts;
      claimed = room.claimed ∙ working.claimed;
      done = rw (room.claimed, room.pieces, room.borrowers) working.done;
      alone = λ off. room.borrowers ∙ working.alone off;
      error = working.error;
      ran = rw room.claimed working.ran;
      lists = rw (room.pieces, room.borrowers) working.lists;
    })

-- ---- one chunk more

-- The state with the number of a chunk more, and with what that handed on.
pub record TakesNumber (claims : Claims) (number : ℕ) (more : HandedOn) (old worker : WorkerState) : Type 0 where
  pub own : IsSeatOf claims worker.seat
  pub parts : parts worker.seat ≡ 1
  pub claimed : worker.claimed.items ≡ claimed worker.seat
  pub numbers : worker.claimed.items ≡ old.claimed.items ++ number ∷ []
  pub pieces : worker.pieces.items ≡ old.pieces.items
  pub borrowers : worker.borrowers.items ≡ old.borrowers.items
  pub handed : worker.handed ≡ more
  pub error : worker.error ≡ None

piece_done : (numbers : List ℕ) (pieces : List Piece) (borrowers : List Borrower) (piece : Piece) → AreDone numbers (numbers_of pieces) (borrower_chunks borrowers) → AreDone (numbers ++ piece.chunk ∷ []) (numbers_of (pieces ++ piece ∷ [])) (borrower_chunks borrowers)
piece_done numbers pieces borrowers piece done x =
    let all = done x in
    let ones = times_append x numbers (piece.chunk ∷ []) in
    let twos = ap (times x) (map_push (λ (one : Piece). one.chunk) pieces piece) ∙ times_append x (numbers_of pieces) (piece.chunk ∷ []) in
    omega (arith, all, ones, twos)

borrower_done : (numbers : List ℕ) (pieces : List Piece) (borrowers : List Borrower) (borrower : Borrower) → AreDone numbers (numbers_of pieces) (borrower_chunks borrowers) → AreDone (numbers ++ borrower.chunk ∷ []) (numbers_of pieces) (borrower_chunks (borrowers ++ borrower ∷ []))
borrower_done numbers pieces borrowers borrower done x =
    let all = done x in
    let ones = times_append x numbers (borrower.chunk ∷ []) in
    let twos = ap (times x) (map_push (λ (one : Borrower). one.chunk) borrowers borrower) ∙ times_append x (borrower_chunks borrowers) (borrower.chunk ∷ []) in
    omega (arith, all, ones, twos)

-- a piece is no error
ok_any : (P : ScanError → Type 0) (piece : Result ColumnData ScanError) (column : ColumnData) → piece ≡ Ok column → IfErr piece P
ok_any P (Ok one) column is = tt
ok_any P (Err error) column is = absurd cc

module _ (shares : Bool) (claims : Claims) (plans : ScanPlans) (chunks : List SelectedRows) (number : ℕ) (chunk : SelectedRows) (shared : Shared) (old worker next : WorkerState) (before now after : SourceState) (working : Working shares claims plans chunks old before now) (takes : TakesNumber claims number shared.ran.handed old worker)
    (good : IsGoodPlans plans) (is : IsChunkOf plans chunk) (here : slice_get chunks number ≡ Some chunk) (later : above old.claimed.items ≤ number) (runs : RunsShared shares plans chunk old.handed shared now after)
    (which : IsUnhindered plans chunk ⊎ IsRefused shared now after) where
  -- behind a chunk that is hindered the worker doesn't go on
  free_piece : (column : ColumnData) → shared.ran.piece ≡ Ok column → IsUnhindered plans chunk ⊎ IsRefused shared now after → IsUnhindered plans chunk
  free_piece column is (inl free) = free
  free_piece column is (inr refused) = let both : ◌≡◌ {A = Result ColumnData ScanError} (Ok column) (Err refused.error) = sym is ∙ refused.failed in absurd cc

  free_borrower : shared.borrowed.items ≢ [] → IsUnhindered plans chunk ⊎ IsRefused shared now after → IsUnhindered plans chunk
  free_borrower some (inl free) = free
  free_borrower some (inr refused) = absurd (some refused.alone)

  piece_goes : (column : ColumnData) → shared.borrowed.items ≡ [] → shared.ran.piece ≡ Ok column → next ≡ record worker { pieces = next.pieces } → next.pieces.items ≡ worker.pieces.items ++ record { chunk = number; column = column } ∷ [] → Working shares claims plans chunks next before after
  piece_goes column none piece_is same more =
      let alone = runs_alone plans chunk old.handed (data_of shared.borrowed.items) shared.ran now after (ap data_of none) runs.runs in
      let pieces : next.pieces.items ≡ old.pieces.items ++ record { chunk = number; column = column } ∷ [] = more ∙ ap (λ (ps : List Piece). ps ++ record { chunk = number; column = column } ∷ []) takes.pieces in
      subst (λ (one : WorkerState). Working shares claims plans chunks one before after) (sym same) (record {
        own = takes.own;
        parts = takes.parts;
        claimed = takes.claimed;
        done = rw (takes.numbers, pieces, takes.borrowers) (piece_done old.claimed.items old.pieces.items old.borrowers.items (record { chunk = number; column = column }) working.done);
        alone = λ off. takes.borrowers ∙ working.alone off;
        error = takes.error;
        ran = rw (takes.numbers, takes.handed) (ran_more shares plans chunks old.claimed.items number chunk old.handed [] runs.runs.all shared.ran before now after good is here later working.ran runs.runs.stand.has_made alone (ok_any RestsOnValues shared.ran.piece column piece_is)
            (ok_any (λ error. FaultsBorrowing shares plans chunks before number) shared.ran.piece column piece_is) (ok_any (λ error. AreAllThere plans runs.runs.all (data_of shared.ran.handed.made.items) chunk) shared.ran.piece column piece_is));
        lists = rw (pieces, takes.borrowers) (piece_listed plans chunks number chunk old.handed runs.runs.all shared.ran column old.pieces.items old.borrowers.items before now after here working.ran.lasts working.ran.handed_is working.lists alone piece_is (free_piece column piece_is which));
      })

  -- one that is alone borrows nothing
  are_shared : shared.borrowed.items ≢ [] → (does : Bool) → shares ≡ does → shares ≡ true
  are_shared some true is = is
  are_shared some false is = absurd (some (runs.alone is))

  borrower_goes : shared.borrowed.items ≢ [] → IfErr shared.ran.piece RestsOnValues → next ≡ record worker { borrowers = next.borrowers } → next.borrowers.items ≡ worker.borrowers.items ++ record { chunk = number; borrowed = shared.borrowed; result = shared.ran.piece } ∷ [] → Working shares claims plans chunks next before after
  borrower_goes some rests same more =
      let borrower : Borrower = borrower_of number shared.borrowed shared.ran.piece in
      let given = runs_with plans chunk old.handed (data_of shared.borrowed.items) shared.ran now after runs.borrowed.fit rests runs.runs in
      let borrowers : next.borrowers.items ≡ old.borrowers.items ++ borrower ∷ [] = more ∙ ap (λ (ls : List Borrower). ls ++ borrower ∷ []) takes.borrowers in
      let lent : IsBorrower plans chunks borrower = borrower_is plans chunks number chunk old.handed shared.borrowed runs.runs.all shared.ran now after here some runs.borrowed given rests (free_borrower some which) in
      let lent_by : told_by plans before (λ bytes. IsBorrowerBy bytes plans chunks borrower) = borrower_by plans chunks number chunk old.handed shared.borrowed runs.runs.all shared.ran before now after here working.ran.lasts working.ran.handed_is given rests in
      subst (λ (one : WorkerState). Working shares claims plans chunks one before after) (sym same) (record {
        own = takes.own;
        parts = takes.parts;
        claimed = takes.claimed;
        done = rw (takes.numbers, takes.pieces, borrowers) (borrower_done old.claimed.items old.pieces.items old.borrowers.items borrower working.done);
        alone = λ off. absurd (some (runs.alone off));
        error = takes.error;
        ran = rw (takes.numbers, takes.handed) (ran_more shares plans chunks old.claimed.items number chunk old.handed (data_of shared.borrowed.items) runs.runs.all shared.ran before now after good is here later working.ran runs.runs.stand.has_made given rests
            (faults_borrowing shares plans chunks number shared.borrowed shared.ran.piece before (are_shared some shares refl) lent lent_by)
            (had_there plans chunk (data_of shared.borrowed.items) runs.runs.all (data_of shared.ran.handed.made.items) shared.ran.piece (given_stand plans chunk old.handed (data_of shared.borrowed.items) shared.ran now after runs.borrowed.fit rests runs.runs) rests (runs.had some)));
        lists = rw (takes.pieces, borrowers) (borrower_listed plans chunks borrower old.pieces.items old.borrowers.items before working.lists lent lent_by);
      })

  -- the worker goes on
  pub goes_on : (goes : Bool) → goes ≡ true → RecordsOutcome number shared.ran.piece shared.borrowed goes worker next → Working shares claims plans chunks next before after
  goes_on goes further (inl (on, none, (column, piece_is, same, more))) = piece_goes column none piece_is same more
  goes_on goes further (inr (inl (on, some, rests, same, more))) = borrower_goes some rests same more
  goes_on goes further (inr (inr stop)) = let both : true ≡ false = sym further ∙ stop.0 in absurd cc

  -- what the state has once its worker stopped at the chunk
  stopped : (error : ScanError) → (shared.borrowed.items ≡ []) ⊎ (RestsOnValues error → ⊥) → shared.ran.piece ≡ Err error → next ≡ record worker { error = Some (record { chunk = number; error = error }) } → Worked shares claims plans chunks next before after
  stopped error which error_is same =
      let given = runs.runs.runs in
      let fails : Fails plans chunks (record { chunk = number; error = error }) before after = fails_now shares plans chunks old.claimed.items number chunk old.handed runs.runs.fitting runs.runs.all shared.ran error before now after here working.ran given error_is (runs_sure plans chunk old.handed shared.borrowed.items shared.ran error now after which runs.runs) in
      subst (λ (one : WorkerState). Worked shares claims plans chunks one before after) (sym same) (record {
        own = takes.own;
        parts = takes.parts;
        claimed = takes.claimed;
        ascend = rw takes.numbers (ascend_push old.claimed.items number working.ran.ascend later);
        content = rw takes.pieces working.lists.content;
        dtype = rw takes.pieces working.lists.dtype;
        rows = rw takes.pieces working.lists.rows;
        borrowers = rw takes.borrowers working.lists.lent;
        borrowers_by = rw takes.borrowers working.lists.lent_by;
        alone = λ off. takes.borrowers ∙ working.alone off;
        made = rw takes.handed given.more.can.made;
        made_by = rw takes.handed (λ file told. (told_before plans old.handed before now (IsHandedBy plans shared.ran.handed) working.ran.lasts working.ran.handed_is given.more.by_file file told).made_are);
        runs = rw takes.numbers (source_more shares plans chunks old.claimed.items number chunk old.handed runs.runs.fitting runs.runs.all shared.ran before now after good is here later working.ran runs.runs.stand.has_made given);
        faults = fails.faults;
        ends = inl (record {
          earlier = old.claimed.items;
          last = takes.numbers;
          all_done = rw (takes.pieces, takes.borrowers) working.done;
          fails = fails;
        });
      })

  pub stops : (goes : Bool) → goes ≡ false → RecordsOutcome number shared.ran.piece shared.borrowed goes worker next → Worked shares claims plans chunks next before after
  stops goes no_more (inl goes_further) = let both : false ≡ true = sym no_more ∙ goes_further.0 in absurd cc
  stops goes no_more (inr (inl goes_further)) = let both : false ≡ true = sym no_more ∙ goes_further.0 in absurd cc
  stops goes no_more (inr (inr (off, (error, error_is, which, same)))) = stopped error which error_is same

-- ---- the end

-- The state has what it had, and its worker claimed nothing more.
pub record StaysAsWas (claims : Claims) (old worker : WorkerState) : Type 0 where
  pub own : IsSeatOf claims worker.seat
  pub parts : parts worker.seat ≡ 1
  pub same_claimed : claimed worker.seat ≡ claimed old.seat
  pub numbers : worker.claimed.items ≡ old.claimed.items
  pub pieces : worker.pieces.items ≡ old.pieces.items
  pub borrowers : worker.borrowers.items ≡ old.borrowers.items
  pub handed : worker.handed ≡ old.handed

pub worked_up : (shares : Bool) (claims : Claims) (plans : ScanPlans) (chunks : List SelectedRows) (old worker : WorkerState) (before now : SourceState) → Working shares claims plans chunks old before now → StaysAsWas claims old worker →
    (AreDone old.claimed.items (numbers_of old.pieces.items) (borrower_chunks old.borrowers.items) → Ends plans chunks worker.error old.claimed.items (numbers_of old.pieces.items) (borrower_chunks old.borrowers.items) (was_told worker.seat) before now) → Worked shares claims plans chunks worker before now
worked_up shares claims plans chunks old worker before now working stays ends = record {
  own = stays.own;
  parts = stays.parts;
  claimed = stays.numbers ∙ working.claimed ∙ sym stays.same_claimed;
  ascend = rw stays.numbers working.ran.ascend;
  content = rw stays.pieces working.lists.content;
  dtype = rw stays.pieces working.lists.dtype;
  rows = rw stays.pieces working.lists.rows;
  borrowers = rw stays.borrowers working.lists.lent;
  borrowers_by = rw stays.borrowers working.lists.lent_by;
  alone = λ off. stays.borrowers ∙ working.alone off;
  made = rw stays.handed working.ran.can.made;
  made_by = rw stays.handed (λ file told. (working.ran.handed_is file told).made_are);
  runs = rw stays.numbers (record { reasons = working.ran.reasons; asks = working.ran.asks; lasts = working.ran.lasts; in_flight = working.ran.in_flight });
  faults = inl working.ran.faults;
  ends = rw (stays.numbers, stays.pieces, stays.borrowers) (ends working.done);
}

-- its worker was told that no chunk is left
pub told_end : (shares : Bool) (claims : Claims) (plans : ScanPlans) (chunks : List SelectedRows) (old worker : WorkerState) (before now : SourceState) → Working shares claims plans chunks old before now → StaysAsWas claims old worker → worker.error ≡ None → was_told worker.seat ≡ true → Worked shares claims plans chunks worker before now
told_end shares claims plans chunks old worker before now working stays none told =
    worked_up shares claims plans chunks old worker before now working stays
    (λ done. subst (λ (error : Option ChunkError). Ends plans chunks error old.claimed.items (numbers_of old.pieces.items) (borrower_chunks old.borrowers.items) (was_told worker.seat) before now) (sym none) (done, told))

-- there was no memory to claim a further chunk
pub lacks_memory : (shares : Bool) (claims : Claims) (plans : ScanPlans) (chunks : List SelectedRows) (old worker : WorkerState) (error : ChunkError) (before now : SourceState) → Working shares claims plans chunks old before now → StaysAsWas claims old worker → error ≡ no_memory → Worked shares claims plans chunks (record worker { error = Some error }) before now
lacks_memory shares claims plans chunks old worker error before now working stays is =
    worked_up shares claims plans chunks old (record worker { error = Some error }) before now working
    (record { own = stays.own; parts = stays.parts; same_claimed = stays.same_claimed; numbers = stays.numbers; pieces = stays.pieces; borrowers = stays.borrowers; handed = stays.handed })
    (λ done. inr (record { all = done; chunk = ap (λ (e : ChunkError). e.chunk) is; memory = ap (λ (e : ChunkError). e.error) is }))
