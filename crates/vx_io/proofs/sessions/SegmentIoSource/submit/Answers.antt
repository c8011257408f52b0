use Rattle.std.proofs.Common.{refl, ◌∙◌}
use Rattle.std.specs.List.{All}
use Rattle.vx_io.specs.Submits.{IsKnown}
use Rattle.vx_io.specs.Tables.{session_state}
use Rattle.vx_io.proofs.Submitting.{submit_none, submit_more, submit_failed, submit_unmade}
use Rattle.vx_io.proofs.sessions.SegmentIoSource.submit.Goals as goal

pub loop-request-init : goal.loop-request-init
loop-request-init g c =
    let known : All (IsKnown c.args.self.now.ranges.now) c.deref-request-items.result.now = rw c.deref-request-items.ensures.value (rw c.as_slice.ensures.value at c.in_default.ensures) in
    (submit_none c.args.self.now.ranges.now c.args.owner c.deref-request-items.result.now (session_state c.args.self.now) known, record { same_reference = refl; ranges = refl })

pub start-requires : goal.start-requires
start-requires g c = rw c.loop-request.invariant.1.ranges (c.loop-request.invariant.0.known c.loop-request.request-index _ c.loop-request-test.true)

pub returns-in-Err-Failed-clause-gives : goal.returns-in-Err-Failed-clause-gives
returns-in-Err-Failed-clause-gives g c =
    let gives = submit_failed c.args.self.now.ranges.now c.loop-request.self.ranges.now c.args.owner c.deref-request-items.result.now c.loop-request.request-index c.loop-request.taken _ (session_state c.args.self.now) (session_state c.loop-request.self) (session_state c.start.new.self)
    c.loop-request.invariant.1.ranges c.loop-request-test.true c.loop-request.invariant.0 (rw c.in-Err-Failed.field-0-is at c.in-Err-Failed.ensures.gives) in
    rw c.deref-request-items.ensures.value at gives

pub returns-in-Err-Memory-clause-gives : goal.returns-in-Err-Memory-clause-gives
returns-in-Err-Memory-clause-gives g c =
    let gives = submit_unmade c.args.self.now.ranges.now c.loop-request.self.ranges.now c.args.owner c.deref-request-items.result.now c.loop-request.request-index c.loop-request.taken _ (session_state c.args.self.now) (session_state c.loop-request.self) (session_state c.start.new.self)
    c.loop-request.invariant.1.ranges c.loop-request-test.true c.loop-request.invariant.0 (rw c.in-Err-Memory.field-0-is at c.in-Err-Memory.ensures.gives) in
    rw c.deref-request-items.ensures.value at gives

pub loop-request-preserved : goal.loop-request-preserved
loop-request-preserved g c = (
  submit_more c.args.self.now.ranges.now c.loop-request.self.ranges.now c.args.owner c.deref-request-items.result.now c.loop-request.request-index c.loop-request.taken _ (session_state c.args.self.now) (session_state c.loop-request.self) (session_state c.start.new.self)
      c.loop-request.invariant.1.ranges c.loop-request-test.true c.loop-request.invariant.0 c.in-Ok.ensures.gives,
  record {
    same_reference = c.start.ensures.loans.same_reference ∙ c.loop-request.invariant.1.same_reference;
    ranges = c.start.ensures.loans.ranges ∙ c.loop-request.invariant.1.ranges;
  },
)
