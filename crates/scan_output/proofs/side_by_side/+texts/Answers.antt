use Rattle.std.proofs.Common.{rules}
use Rattle.std.proofs.Crossing.{crosses}
use Rattle.std.proofs.alloc.Global.TheSendSync as global
use denote.Param.Send.{arg_send, mut_send, param_send, shr_send, shr_slice_send, sendable}
use Rattle.scan_output.proofs.ColumnCrossing.{sync_column}
use Rattle.scan_output.proofs.side_by_side.+texts.Goals as goal

pub make_both-join_mut-made_first-requires-send-F : goal.make_both-join_mut-made_first-requires-send-F
make_both-join_mut-made_first-requires-send-F g t c κs within = search (crosses, sendable, sync_column, global.the_sync, shr_slice_send, shr_send, mut_send, param_send, arg_send, rules) depth 60
