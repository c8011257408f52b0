use Rattle.std.proofs.Common.{inl}
use Rattle.vx_workers.proofs.RefusedRuns.{runs_refused}
use Rattle.vx_workers.proofs.refusing.run_unhindered.Goals as goal

pub returns-in_default : goal.returns-in_default
returns-in_default g c = record { runs = c.run_shared.ensures; unhindered = inl c.in_default.ensures }

pub returns : goal.returns
returns g c =
    runs_refused c.args.common.now.shares c.args.common.now.plans.now c.args.chosen.now c.args.handed c.refuse.result c.in-Some.error (g.S.SegmentSource.state c.args.source.now) (g.S.SegmentSource.state c.refuse.new.source)
    c.requires.handed c.in-Some.ensures c.refuse.ensures.ran c.refuse.ensures.borrowed c.refuse.ensures.cleared
