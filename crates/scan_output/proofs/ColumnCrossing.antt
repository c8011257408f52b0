-- Columns may be shared among threads.
use denote.Struct.Field.{row_field}
use denote.Param.Send.{IsSync, plain_sync, view_sync, sendable}
use denote.Param.SendFields.{as_row_sync, declared_sync, variants_sync}
use Rattle.std.specs.contracts.alloc.Global as alloc
use Rattle.std.specs.contracts.impls.GlobalAllocator.TheImpl as impl
use Rattle.std.proofs.Crossing.{crosses}
use Rattle.std.proofs.alloc.Global.TheSendSync as global
use Rattle.std.proofs.vec.Vec.TheSendSync as vec
use Rattle.vx_arrays.proofs.numbers.Numbers.TheSendSync as numbers
use Rattle.vx_arrays.proofs.texts.Texts.TheSendSync as packed_texts
use Rattle.vx_arrays.proofs.arrays.Array.TheLaws.TheKnot.{crosses as parts_cross}
use Rattle.vx_arrays.specs.contracts.arrays.Array as parts
use Rattle.vx_arrays.specs.contracts.arrays.shared.SharedArray as shared
use Rattle.vx_base.below.vx_types.proofs.dtypes.IntKind.TheSendSync as kinds
use Rattle.vx_base.below.vx_types.proofs.dtypes.Nullability.TheSendSync as nullable
use Rattle.vx_base.below.vx_types.proofs.texts.Text.TheSendSync as texts
use Rattle.vx_base.below.vx_types.proofs.dtypes.Element.TheLaws.TheKnot.{crosses as dtypes_cross}
use Rattle.vx_base.below.vx_types.specs.contracts.dtypes.DType as dtypes
use Rattle.vx_base.below.vx_masks.proofs.masks.Mask.TheSendSync as masks
use Rattle.vx_base.below.vx_columns.specs.contracts.run_rows.Runs as runs
use Rattle.vx_base.below.vx_columns.specs.contracts.run_rows.Runs.TheInside as inside_runs
use Rattle.vx_base.below.vx_columns.specs.contracts.stored_rows.Rows as stored
use Rattle.vx_base.below.vx_columns.specs.contracts.columns.Column as columns
use Rattle.vx_base.below.vx_columns.specs.contracts.columns.Column.TheInside as inside_columns

sync_dtype : IsSync dtypes.the_row
sync_dtype = search (dtypes_cross, crosses, nullable.the_send, kinds.the_send, texts.the_send, nullable.the_sync, kinds.the_sync, texts.the_sync, sendable) depth 60

sync_part : IsSync parts.the_row
sync_part = search (parts_cross, crosses, masks.the_sync, numbers.the_sync, packed_texts.the_sync, sendable) depth 60

sync_shared : IsSync shared.the_row
sync_shared = search (parts_cross, crosses, masks.the_send, numbers.the_send, packed_texts.the_send, masks.the_sync, numbers.the_sync, packed_texts.the_sync, sendable) depth 60

sync_runs : IsSync runs.the_row
sync_runs = view_sync inside_runs.the_row _ _ _ _ (declared_sync inside_runs.the_type (
  as_row_sync (row_field _) sync_part,
  (
    vec.the_sync _ alloc.the_row impl.ghosts (plain_sync _ _ _ _ _) global.the_sync,
    tt,
  ),
))

sync_rows : IsSync stored.the_row
sync_rows = variants_sync stored.enum (
  (as_row_sync (row_field _) sync_part, tt),
  (
    (as_row_sync (row_field _) sync_shared, tt),
    ((sync_runs, tt), tt),
  ),
)

pub sync_column : IsSync columns.the_row
sync_column = view_sync inside_columns.the_row _ _ _ _ (declared_sync inside_columns.the_type (sync_dtype, (sync_rows, tt)))
