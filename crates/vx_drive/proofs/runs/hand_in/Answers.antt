use Rattle.vx_drive.specs.Adaptors.{adaptor_data}
use Rattle.vx_drive.proofs.SessionRuns.{not_refused}
use Rattle.vx_drive.proofs.runs.hand_in.Goals as goal

pub unreachable-requires : goal.unreachable-requires
unreachable-requires c = not_refused c.args.completion.request.0 c.args.completion.bytes.items (adaptor_data c.args.adaptor.now) (adaptor_data c.set_io_result.new.self) c.in-Err.field-0 c.requires c.in-Err.ensures.gives
