-- Columns may go to other threads, and tables of plans may be shared among them.
use denote.Struct.Field.{row_field, bool-field, u32-field, u64-field}
use denote.Param.Send.{IsSend, IsSync, plain_send, plain_sync, view_send, view_sync, sendable}
use denote.Param.SendFields.{as_row_send, as_row_sync, declared_send, declared_sync, variants_send, variants_sync}
use Rattle.std.specs.contracts.alloc.Global as alloc
use Rattle.std.specs.contracts.impls.GlobalAllocator.TheImpl as impl
use Rattle.std.proofs.Crossing.{crosses}
use Rattle.std.proofs.alloc.Global.TheSendSync as global
use Rattle.std.proofs.boxed.Box.TheSendSync as boxed
use Rattle.std.proofs.sync.Arc.TheSendSync as arc
use Rattle.std.proofs.vec.Vec.TheSendSync as vec
use Rattle.std.below.std_heap.proofs.GlobalAllocator.TheSendSync as heap
use Rattle.vx_masks.proofs.Mask.TheSendSync as masks
use Rattle.vx_arrays.proofs.numbers.Numbers.TheSendSync as numbers
use Rattle.vx_arrays.proofs.texts.Texts.TheSendSync as packed_texts
use Rattle.vx_arrays.proofs.arrays.Array.TheLaws.TheKnot.{crosses as parts_cross}
use Rattle.vx_arrays.specs.contracts.arrays.Array as parts
use Rattle.vx_arrays.specs.contracts.arrays.shared.SharedArray as shared
use Rattle.vx_expr.below.vx_operators.proofs.operators.ArithOp.TheSendSync as ariths
use Rattle.vx_expr.below.vx_operators.proofs.operators.CompareOp.TheSendSync as compares
use Rattle.vx_expr.proofs.found.Found.TheSendSync as found
use Rattle.vx_expr.proofs.statistics.Statistics.TheSendSync as statistics
use Rattle.vx_expr.proofs.expressions.NamedExprs.TheLaws.TheKnot.{crosses as exprs_cross}
use Rattle.vx_expr.specs.contracts.expressions.Expr as exprs
use Rattle.vx_expr.specs.contracts.bound_expressions.BoundExpression as bounds
use Rattle.vx_expr.specs.contracts.bound_expressions.BoundExpression.TheInside as inside_bounds
use Rattle.vx_plan.proofs.children.PlanChildren.TheSendSync as children
use Rattle.vx_plan.specs.contracts.nodes.EvalExpression as evals
use Rattle.vx_plan.specs.contracts.nodes.EvalExpression.TheInside as inside_evals
use Rattle.vx_plan.specs.contracts.nodes.PruningProof as prunings
use Rattle.vx_plan.specs.contracts.nodes.PruningProof.TheInside as inside_prunings
use Rattle.vx_plan.specs.contracts.nodes.PlanKind as plan_kinds
use Rattle.vx_plan.specs.contracts.nodes.PlanNode as nodes
use Rattle.vx_plan.specs.contracts.tables.PlanTable as tables
use Rattle.vx_plan.specs.contracts.tables.PlanTable.TheInside as inside_tables
use Rattle.vx_zones.specs.contracts.zone_proofs.ZoneProof as proofs
use Rattle.vx_zones.specs.contracts.zone_proofs.ZoneProof.TheInside as inside_proofs
use Rattle.vx_base.below.vx_types.proofs.dtypes.IntKind.TheSendSync as kinds
use Rattle.vx_base.below.vx_types.proofs.dtypes.Nullability.TheSendSync as nullable
use Rattle.vx_base.below.vx_types.proofs.texts.Text.TheSendSync as texts
use Rattle.vx_base.below.vx_types.proofs.dtypes.Element.TheLaws.TheKnot.{crosses as dtypes_cross}
use Rattle.vx_base.below.vx_types.proofs.values.Values.TheLaws.TheKnot.{crosses as values_cross}
use Rattle.vx_base.below.vx_types.specs.contracts.dtypes.DType as dtypes
use Rattle.vx_base.below.vx_types.specs.contracts.values.Value as values
use Rattle.vx_base.below.vx_segments.proofs.codings.Coding.TheSendSync as coding
use Rattle.vx_base.below.vx_segments.specs.contracts.codings.Coding as codings
use Rattle.vx_base.below.vx_columns.specs.contracts.run_rows.Runs as runs
use Rattle.vx_base.below.vx_columns.specs.contracts.run_rows.Runs.TheInside as inside_runs
use Rattle.vx_base.below.vx_columns.specs.contracts.stored_rows.Rows as stored
use Rattle.vx_base.below.vx_columns.specs.contracts.columns.Column as columns
use Rattle.vx_base.below.vx_columns.specs.contracts.columns.Column.TheInside as inside_columns

pub send_dtype : IsSend dtypes.the_row
send_dtype = search (dtypes_cross, crosses, nullable.the_send, kinds.the_send, texts.the_send, nullable.the_sync, kinds.the_sync, texts.the_sync, sendable) depth 60

sync_dtype : IsSync dtypes.the_row
sync_dtype = search (dtypes_cross, crosses, nullable.the_send, kinds.the_send, texts.the_send, nullable.the_sync, kinds.the_sync, texts.the_sync, sendable) depth 60

-- ---- columns

send_part : IsSend parts.the_row
send_part = search (parts_cross, crosses, masks.the_send, numbers.the_send, packed_texts.the_send, sendable) depth 60

send_shared : IsSend shared.the_row
send_shared = search (parts_cross, crosses, masks.the_send, numbers.the_send, packed_texts.the_send, masks.the_sync, numbers.the_sync, packed_texts.the_sync, sendable) depth 60

send_runs : IsSend runs.the_row
send_runs = view_send inside_runs.the_row _ _ _ _ (declared_send inside_runs.the_type (
  as_row_send (row_field _) send_part,
  (
    vec.the_send _ alloc.the_row impl.ghosts (plain_send _ _ _ _ _) global.the_send heap.the_frees,
    tt,
  ),
))

send_rows : IsSend stored.the_row
send_rows = variants_send stored.enum (
  (as_row_send (row_field _) send_part, tt),
  (
    (as_row_send (row_field _) send_shared, tt),
    ((send_runs, tt), tt),
  ),
)

pub send_column : IsSend columns.the_row
send_column = view_send inside_columns.the_row _ _ _ _ (declared_send inside_columns.the_type (send_dtype, (send_rows, tt)))

-- ---- expressions

sync_value : IsSync values.the_row
sync_value = search (values_cross, crosses, texts.the_sync, sendable) depth 60

sync_value_field : IsSync (values.the_field).row
sync_value_field = search (values_cross, crosses, texts.the_sync, sendable) depth 60

sync_dtype_field : IsSync (dtypes.the_field).row
sync_dtype_field = search (dtypes_cross, crosses, nullable.the_send, kinds.the_send, texts.the_send, nullable.the_sync, kinds.the_sync, texts.the_sync, sendable) depth 60

sync_expr : IsSync exprs.the_row
sync_expr = search (exprs_cross, crosses, sync_value, sync_value_field, sync_dtype, sync_dtype_field, texts.the_sync, compares.the_field_sync, ariths.the_field_sync, compares.the_sync, ariths.the_sync, sendable) depth 60

sync_bound : IsSync bounds.the_row
sync_bound = view_sync inside_bounds.the_row _ _ _ _ (declared_sync inside_bounds.the_type (sync_expr, (sync_dtype, (sync_dtype, (vec.the_sync _ alloc.the_row impl.ghosts found.the_sync global.the_sync, tt)))))

-- ---- plans

sync_eval : IsSync evals.the_row
sync_eval = view_sync inside_evals.the_row _ _ _ _ (declared_sync inside_evals.the_type (boxed.the_sync bounds.the_row alloc.the_row impl.ghosts sync_bound global.the_sync, tt))

sync_proof : IsSync proofs.the_row
sync_proof = view_sync inside_proofs.the_row _ _ _ _ (declared_sync inside_proofs.the_type (sync_bound, tt))

sync_pruning : IsSync prunings.the_row
sync_pruning = view_sync inside_prunings.the_row _ _ _ _ (declared_sync inside_prunings.the_type (boxed.the_sync proofs.the_row alloc.the_row impl.ghosts sync_proof global.the_sync, tt))

sync_kind : IsSync plan_kinds.the_row
sync_kind = variants_sync plan_kinds.enum (
  tt,
  (
    (sync_eval, tt),
    (
      tt,
      (
        (as_row_sync bool-field (plain_sync _ _ _ _ _), tt),
        (
          tt,
          (
            tt,
            (
              (as_row_sync bool-field (plain_sync _ _ _ _ _), tt),
              (
                tt,
                (
                  (as_row_sync u32-field (plain_sync _ _ _ _ _), (as_row_sync codings.the_field coding.the_field_sync, tt)),
                  (
                    (as_row_sync u64-field (plain_sync _ _ _ _ _), (statistics.the_sync, tt)),
                    (
                      (as_row_sync u64-field (plain_sync _ _ _ _ _), (statistics.the_sync, tt)),
                      (
                        (as_row_sync u64-field (plain_sync _ _ _ _ _), (statistics.the_sync, (sync_pruning, tt))),
                        tt,
                      ),
                    ),
                  ),
                ),
              ),
            ),
          ),
        ),
      ),
    ),
  ),
)

sync_node : IsSync nodes.the_row
sync_node = declared_sync nodes.the_type (
  sync_kind,
  (
    arc.the_sync dtypes.the_row alloc.the_row impl.ghosts send_dtype global.the_send sync_dtype global.the_sync heap.the_frees,
    (
      as_row_sync u64-field (plain_sync _ _ _ _ _),
      (
        children.the_sync,
        (
          vec.the_sync _ alloc.the_row impl.ghosts (plain_sync _ _ _ _ _) global.the_sync,
          tt,
        ),
      ),
    ),
  ),
)

pub sync_table : IsSync tables.the_row
sync_table = view_sync inside_tables.the_row _ _ _ _ (declared_sync inside_tables.the_type (vec.the_sync nodes.the_row alloc.the_row impl.ghosts sync_node global.the_sync, tt))
