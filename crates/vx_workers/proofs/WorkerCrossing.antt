-- States may go to other threads, and what workers have in common may be shared among these.
use mathlib.Core.List.{[], ◌∷◌}
use mir.Syntax.{Sym}
use denote.Builtin.{bool}
use denote.RattleType.{RattleType}
use denote.Struct.Tuple.{TupleAt, type_at}
use denote.Struct.Field.{row_field, u64-field}
use denote.Ref.{NamedLft}
use denote.Param.Send.{IsSend, IsSync, plain_send, plain_sync, shr_slice_sync, shr_sync, view_send}
use denote.Param.SendFields.{as_row_send, as_row_sync, declared_send, declared_sync}
use Rattle.std.specs.contracts.alloc.Global as alloc
use Rattle.std.specs.contracts.impls.GlobalAllocator.TheImpl as impl
use Rattle.std.proofs.alloc.Global.TheSendSync as global
use Rattle.std.proofs.option.Option.TheSendSync as option
use Rattle.std.proofs.result.Result.TheSendSync as result
use Rattle.std.proofs.sync.Mutex.TheSendSync as mutex
use Rattle.std.proofs.vec.Vec.TheSendSync as vec
use Rattle.std.below.std_heap.proofs.GlobalAllocator.TheSendSync as heap
use Rattle.vx_plan.proofs.children.PlanRef.TheSendSync as refs
use Rattle.vx_plan.proofs.Crossing.{send_column, sync_table}
use Rattle.vx_steps.specs.contracts.kept.KeptValue as kept
use Rattle.vx_io.proofs.ranges.SegmentRanges.TheSendSync as ranges
use Rattle.vx_splits.proofs.selected_rows.SelectedRows.TheSendSync as selected
use Rattle.vx_claims.proofs.claims.Claims.TheSendSync as claims
use Rattle.vx_claims.proofs.claims.ClaimSeat.TheSendSync as seats
use Rattle.vx_drive.proofs.errors.ScanError.TheSendSync as scan_errors
use Rattle.vx_drive.specs.contracts.plans.ScanPlans as plans
use Rattle.vx_chunks.specs.contracts.outcomes.HandedOn as handed
use Rattle.vx_workers.proofs.worker_states.ChunkError.TheSendSync as errors
use Rattle.vx_workers.specs.contracts.books.Book as books
use Rattle.vx_workers.specs.contracts.books.Book.TheInside as inside_books
use Rattle.vx_workers.specs.contracts.books.ValueCache as caches
use Rattle.vx_workers.specs.contracts.commons.Common as commons
use Rattle.vx_workers.specs.contracts.worker_states.Borrower as borrowers
use Rattle.vx_workers.specs.contracts.worker_states.Piece as pieces
use Rattle.vx_workers.specs.contracts.worker_states.WorkerState as worker_states
use Rattle.vx_base.below.vx_outside.proofs.locations.SegmentLocation.TheSendSync as locations

send_piece : IsSend pieces.the_row
send_piece = declared_send pieces.the_type (as_row_send u64-field (plain_send _ _ _ _ _), (send_column, tt))

-- ---- whole values

send_kept : IsSend kept.the_row
send_kept = declared_send kept.the_type (refs.the_send, (send_column, tt))

send_handed : IsSend handed.the_row
send_handed = declared_send handed.the_type (
  vec.the_send kept.the_row alloc.the_row impl.ghosts send_kept global.the_send heap.the_frees,
  (
    vec.the_send kept.the_row alloc.the_row impl.ghosts send_kept global.the_send heap.the_frees,
    tt,
  ),
)

send_borrower : IsSend borrowers.the_row
send_borrower = declared_send borrowers.the_type (
  as_row_send u64-field (plain_send _ _ _ _ _),
  (
    vec.the_send kept.the_row alloc.the_row impl.ghosts send_kept global.the_send heap.the_frees,
    (result.the_send _ _ send_column scan_errors.the_send, tt),
  ),
)

send_book : IsSend books.the_row
send_book = view_send inside_books.the_row _ _ _ _ (declared_send inside_books.the_type (
  global.the_send,
  (
    vec.the_send kept.the_row alloc.the_row impl.ghosts send_kept global.the_send heap.the_frees,
    tt,
  ),
))

sync_cache : IsSync caches.the_row
sync_cache = declared_sync caches.the_type (mutex.the_sync books.the_row send_book, tt)

-- ---- states, and what workers share

sync_bool : IsSync bool
sync_bool = plain_sync _ _ _ _ _

pub send_worker : IsSend worker_states.the_row
send_worker = declared_send worker_states.the_type (
  global.the_send,
  (
    seats.the_send,
    (
      vec.the_send _ alloc.the_row impl.ghosts (plain_send _ _ _ _ _) global.the_send heap.the_frees,
      (
        vec.the_send pieces.the_row alloc.the_row impl.ghosts send_piece global.the_send heap.the_frees,
        (
          vec.the_send borrowers.the_row alloc.the_row impl.ghosts send_borrower global.the_send heap.the_frees,
          (
            send_handed,
            (
              option.the_send _ errors.the_send,
              tt,
            ),
          ),
        ),
      ),
    ),
  ),
)

sync_plans : IsSync plans.the_row
sync_plans = declared_sync plans.the_type (
  sync_table,
  (
    refs.the_sync,
    (
      vec.the_sync _ alloc.the_row impl.ghosts locations.the_sync global.the_sync,
      (
        ranges.the_sync,
        (
          as_row_sync u64-field (plain_sync _ _ _ _ _),
          (
            as_row_sync u64-field (plain_sync _ _ _ _ _),
            tt,
          ),
        ),
      ),
    ),
  ),
)

pub sync_common : (lent : NamedLft) → IsSync (commons.the_row lent)
sync_common lent = declared_sync (commons.the_type lent) (
  shr_sync _ _ _ sync_plans,
  (
    shr_slice_sync _ _ _ selected.the_sync,
    (
      shr_sync _ _ _ claims.the_sync,
      (
        shr_sync _ _ _ sync_cache,
        (sync_bool, tt),
      ),
    ),
  ),
)

-- a closure may go to another thread where all that it captured may
pub send_closure : (name : Sym) (A B C D : RattleType) → IsSend A → IsSend B → IsSend C → IsSend D → IsSend (TupleAt name (A ∷ B ∷ C ∷ D ∷ []))
send_closure name A B C D a b c d = declared_send (type_at name (A ∷ B ∷ C ∷ D ∷ [])) (as_row_send (row_field A) a, (as_row_send (row_field B) b, (as_row_send (row_field C) c, (as_row_send (row_field D) d, tt))))
