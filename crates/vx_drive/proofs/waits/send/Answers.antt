use Rattle.std.proofs.Common.{Ok, Err}
use Rattle.vx_io.specs.Tables.{session_state}
use Rattle.vx_io.specs.declared.requests.SubmitError.TheVariants as submit_errors
use Rattle.vx_io.proofs.Fetches.{fetches_give}
use Rattle.vx_drive.specs.Waits.{owner}
use Rattle.vx_drive.proofs.Sessions.{none_unknown}
use Rattle.vx_drive.proofs.waits.send.Goals as goal

pub unreachable-requires : goal.unreachable-requires
unreachable-requires g c =
    let gives = rw c.in-Err-UnknownRange.field-0-is at (c.in-Err-UnknownRange.ensures {u = tt}).gives in
    none_unknown c.args.session.now.ranges.now c.args.batch.items c.in-Err-UnknownRange.field-0-0 c.requires.known gives.0

pub returns-in-Ok-clause-gives : goal.returns-in-Ok-clause-gives
returns-in-Ok-clause-gives g c =
    let gives = (c.in-Ok.ensures {u = tt}).gives in (
      fetches_give c.args.session.now.ranges.now owner c.args.batch.items (Ok tt) (session_state c.args.session.now) (session_state c.submit.new.self) gives c.requires.fetches c.requires.nothing_waits,
      gives.2,
      gives.3,
    )

pub returns-in-Err-Source-clause-gives : goal.returns-in-Err-Source-clause-gives
returns-in-Err-Source-clause-gives g c =
    let gives = rw c.in-Err-Source.field-0-is at (c.in-Err-Source.ensures {u = tt}).gives in (
      fetches_give c.args.session.now.ranges.now owner c.args.batch.items (Err (submit_errors.Source c.in-Err-Source.field-0-0)) (session_state c.args.session.now) (session_state c.submit.new.self) gives c.requires.fetches c.requires.nothing_waits,
      gives.2,
      gives.3,
    )

pub returns-in-Err-Memory-clause-gives : goal.returns-in-Err-Memory-clause-gives
returns-in-Err-Memory-clause-gives g c =
    let gives = rw c.in-Err-Memory.field-0-is at (c.in-Err-Memory.ensures {u = tt}).gives in (
      fetches_give c.args.session.now.ranges.now owner c.args.batch.items (Err (submit_errors.Memory c.in-Err-Memory.field-0-0)) (session_state c.args.session.now) (session_state c.submit.new.self) gives c.requires.fetches c.requires.nothing_waits,
      gives.2,
      gives.3,
    )
