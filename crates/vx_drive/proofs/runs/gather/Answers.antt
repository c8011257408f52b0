use Rattle.std.proofs.Common.{◌≡◌, ◌≢◌, ◌∙◌, Ok, Err, refl, sym, subst, rules}
use Rattle.vx_io.specs.Tables.{session_state}
use Rattle.vx_drive.specs.declared.adaptors.State.TheVariants as states
use Rattle.vx_drive.specs.declared.adaptors.AdaptorStep.TheVariants.{Yield, NeedsIo, Piece}
use Rattle.vx_drive.specs.AdaptorData.{AdaptorData}
use Rattle.vx_drive.specs.Adaptors.{adaptor_data}
use Rattle.vx_drive.specs.Gathered.{GatherGives}
use Rattle.vx_drive.proofs.RunEnds.{run_full, run_returns, run_stalls, run_stops, run_unsent}
use Rattle.vx_drive.proofs.SessionRuns.{less_piece, needs_is_live, ready_of, run_begins, run_batch, run_piece, run_waits, run_result, was_outstanding, computes_live, batch_known, batch_fetches, some_in_flight, less_batch, less_result}
use Rattle.vx_drive.proofs.runs.gather.Goals as goal

pub turns-init : goal.turns-init
turns-init g c = (
  run_begins c.args.adaptor.now.locations.now (adaptor_data c.args.adaptor.now) (session_state c.args.session.now) c.args.outputs.now.items c.requires.none c.requires.start c.args.adaptor.now.ready c.requires.empty,
  record { same_reference = refl; ranges = refl },
  refl,
)

pub send-requires-clause-known : goal.send-requires-clause-known
send-requires-clause-known g c =
    let batched = computes_live c.args.adaptor.now.locations.now (Ok (NeedsIo c.in-Ok-NeedsIo.batch)) (adaptor_data c.turns.adaptor) (adaptor_data c.compute.new.self) c.turns.invariant.0.live (rw (c.in-Ok-NeedsIo.field-0-is, c.turns.invariant.2) at (c.in-Ok-NeedsIo.ensures {u = tt}).gives) in
    batch_known c.turns.session.ranges.now c.args.session.now.ranges.now c.args.adaptor.now.locations.now c.in-Ok-NeedsIo.batch.items (adaptor_data c.turns.adaptor) (adaptor_data c.compute.new.self) batched c.requires.ranges c.turns.invariant.1.ranges

pub send-requires-clause-fetches : goal.send-requires-clause-fetches
send-requires-clause-fetches g c =
    let batched = computes_live c.args.adaptor.now.locations.now (Ok (NeedsIo c.in-Ok-NeedsIo.batch)) (adaptor_data c.turns.adaptor) (adaptor_data c.compute.new.self) c.turns.invariant.0.live (rw (c.in-Ok-NeedsIo.field-0-is, c.turns.invariant.2) at (c.in-Ok-NeedsIo.ensures {u = tt}).gives) in
    batch_fetches c.args.adaptor.now.locations.now c.in-Ok-NeedsIo.batch.items (adaptor_data c.turns.adaptor) (adaptor_data c.compute.new.self) batched

pub turns-smaller-in-Ok : goal.turns-smaller-in-Ok
turns-smaller-in-Ok g c =
    let batched = computes_live c.args.adaptor.now.locations.now (Ok (NeedsIo c.in-Ok-NeedsIo.batch)) (adaptor_data c.turns.adaptor) (adaptor_data c.compute.new.self) c.turns.invariant.0.live (rw (c.in-Ok-NeedsIo.field-0-is, c.turns.invariant.2) at (c.in-Ok-NeedsIo.ensures {u = tt}).gives) in
    less_batch c.args.adaptor.now.locations.now c.in-Ok-NeedsIo.batch.items (adaptor_data c.turns.adaptor) (adaptor_data c.compute.new.self) batched

pub turns-preserved-in-Ok : goal.turns-preserved-in-Ok
turns-preserved-in-Ok g c =
    let batched = computes_live c.args.adaptor.now.locations.now (Ok (NeedsIo c.in-Ok-NeedsIo.batch)) (adaptor_data c.turns.adaptor) (adaptor_data c.compute.new.self) c.turns.invariant.0.live (rw (c.in-Ok-NeedsIo.field-0-is, c.turns.invariant.2) at (c.in-Ok-NeedsIo.ensures {u = tt}).gives) in
    let sent = c.in-Ok.ensures {u = tt} in (
      run_batch c.args.adaptor.now.locations.now (adaptor_data c.args.adaptor.now).scan (session_state c.args.session.now).source c.turns.outputs.items c.in-Ok-NeedsIo.batch.items (adaptor_data c.turns.adaptor) (adaptor_data c.compute.new.self) (session_state c.turns.session) (session_state c.send.new.session) c.turns.invariant.0 batched (ready_of c.args.adaptor.now.locations.now c.compute.new.self.locations.now (adaptor_data c.compute.new.self) c.compute.new.self.ready (c.compute.ensures.locations ∙ c.turns.invariant.2) (needs_is_live c.compute.new.self.state batched.state)) sent.gives,
      record { same_reference = sent.loans.same_reference ∙ c.turns.invariant.1.same_reference; ranges = sent.loans.ranges ∙ c.turns.invariant.1.ranges },
      c.compute.ensures.locations ∙ c.turns.invariant.2,
    )

pub returns-in-Err-send-clause-gives : goal.returns-in-Err-send-clause-gives
returns-in-Err-send-clause-gives g c =
    let batched = computes_live c.args.adaptor.now.locations.now (Ok (NeedsIo c.in-Ok-NeedsIo.batch)) (adaptor_data c.turns.adaptor) (adaptor_data c.compute.new.self) c.turns.invariant.0.live (rw (c.in-Ok-NeedsIo.field-0-is, c.turns.invariant.2) at (c.in-Ok-NeedsIo.ensures {u = tt}).gives) in
    run_unsent c.args.adaptor.now.locations.now c.args.idle_limit (adaptor_data c.args.adaptor.now).scan (session_state c.args.session.now).source c.turns.outputs.items c.in-Ok-NeedsIo.batch.items (adaptor_data c.turns.adaptor) (adaptor_data c.compute.new.self) (session_state c.turns.session) (session_state c.send.new.session) c.in-Err-send.error c.turns.invariant.0 batched (c.in-Err-send.ensures {u = tt}).gives

pub turns-smaller-else-is_err : goal.turns-smaller-else-is_err
turns-smaller-else-is_err g c =
    let hands = computes_live c.turns.adaptor.locations.now (Ok (Piece c.in-Ok-Piece.column)) (adaptor_data c.turns.adaptor) (adaptor_data c.compute.new.self) c.turns.invariant.0.live (rw c.in-Ok-Piece.field-0-is at (c.in-Ok-Piece.ensures {u = tt}).gives) in
    less_piece c.args.adaptor.now.locations.now c.in-Ok-Piece.column (adaptor_data c.turns.adaptor) (adaptor_data c.compute.new.self) hands

pub turns-preserved-else-is_err : goal.turns-preserved-else-is_err
turns-preserved-else-is_err g c =
    let hands = computes_live c.turns.adaptor.locations.now (Ok (Piece c.in-Ok-Piece.column)) (adaptor_data c.turns.adaptor) (adaptor_data c.compute.new.self) c.turns.invariant.0.live (rw c.in-Ok-Piece.field-0-is at (c.in-Ok-Piece.ensures {u = tt}).gives) in (
      run_piece c.args.adaptor.now.locations.now (adaptor_data c.args.adaptor.now).scan (session_state c.args.session.now).source c.turns.outputs.items c.push.new.self.items c.in-Ok-Piece.column (adaptor_data c.turns.adaptor) (adaptor_data c.compute.new.self) (session_state c.turns.session) c.turns.invariant.0 hands
          (ready_of c.args.adaptor.now.locations.now c.compute.new.self.locations.now (adaptor_data c.compute.new.self) c.compute.new.self.ready (c.compute.ensures.locations ∙ c.turns.invariant.2) (needs_is_live c.compute.new.self.state hands.state)) (search rules),
      c.turns.invariant.1,
      c.compute.ensures.locations ∙ c.turns.invariant.2,
    )

pub returns-then-is_err-clause-gives : goal.returns-then-is_err-clause-gives
returns-then-is_err-clause-gives g c =
    let hands = computes_live c.turns.adaptor.locations.now (Ok (Piece c.in-Ok-Piece.column)) (adaptor_data c.turns.adaptor) (adaptor_data c.compute.new.self) c.turns.invariant.0.live (rw c.in-Ok-Piece.field-0-is at (c.in-Ok-Piece.ensures {u = tt}).gives) in
    run_full c.args.adaptor.now.locations.now c.args.idle_limit (adaptor_data c.args.adaptor.now).scan (session_state c.args.session.now).source c.turns.outputs.items c.push.new.self.items c.in-Ok-Piece.column (adaptor_data c.turns.adaptor) (adaptor_data c.compute.new.self) (session_state c.turns.session) c.turns.invariant.0 hands

pub returns-then-eq-clause-gives : goal.returns-then-eq-clause-gives
returns-then-eq-clause-gives g c =
    let yields = computes_live c.turns.adaptor.locations.now (Ok Yield) (adaptor_data c.turns.adaptor) (adaptor_data c.compute.new.self) c.turns.invariant.0.live (rw c.in-Ok-Yield.field-0-is at (c.in-Ok-Yield.ensures {u = tt}).gives) in
    let finished : c.compute.new.self.state ≡ states.Done = search rules in
    run_returns c.args.adaptor.now.locations.now c.args.idle_limit (adaptor_data c.args.adaptor.now).scan (session_state c.args.session.now).source c.turns.outputs.items (adaptor_data c.turns.adaptor) (adaptor_data c.compute.new.self) (session_state c.turns.session) c.turns.invariant.0 yields finished

pub receive-requires-clause-some : goal.receive-requires-clause-some
receive-requires-clause-some g c =
    let yields = computes_live c.turns.adaptor.locations.now (Ok Yield) (adaptor_data c.turns.adaptor) (adaptor_data c.compute.new.self) c.turns.invariant.0.live (rw c.in-Ok-Yield.field-0-is at (c.in-Ok-Yield.ensures {u = tt}).gives) in
    let live : c.compute.new.self.state ≢ states.Done = search rules in
    let waits = run_waits c.args.adaptor.now.locations.now (adaptor_data c.args.adaptor.now).scan (session_state c.args.session.now).source c.turns.outputs.items (adaptor_data c.turns.adaptor) (adaptor_data c.compute.new.self) (session_state c.turns.session) c.turns.invariant.0 yields live (ready_of c.args.adaptor.now.locations.now c.compute.new.self.locations.now (adaptor_data c.compute.new.self) c.compute.new.self.ready (c.compute.ensures.locations ∙ c.turns.invariant.2) live) in
    some_in_flight c.args.adaptor.now.locations.now (adaptor_data c.args.adaptor.now).scan (session_state c.args.session.now).source c.turns.outputs.items (adaptor_data c.turns.adaptor) (adaptor_data c.compute.new.self) (session_state c.turns.session) waits yields live

pub receive-requires-clause-fetches : goal.receive-requires-clause-fetches
receive-requires-clause-fetches g c completion later ended =
    let yields = computes_live c.turns.adaptor.locations.now (Ok Yield) (adaptor_data c.turns.adaptor) (adaptor_data c.compute.new.self) c.turns.invariant.0.live (rw c.in-Ok-Yield.field-0-is at (c.in-Ok-Yield.ensures {u = tt}).gives) in
    let live : c.compute.new.self.state ≢ states.Done = search rules in
    let waits = run_waits c.args.adaptor.now.locations.now (adaptor_data c.args.adaptor.now).scan (session_state c.args.session.now).source c.turns.outputs.items (adaptor_data c.turns.adaptor) (adaptor_data c.compute.new.self) (session_state c.turns.session) c.turns.invariant.0 yields live (ready_of c.args.adaptor.now.locations.now c.compute.new.self.locations.now (adaptor_data c.compute.new.self) c.compute.new.self.ready (c.compute.ensures.locations ∙ c.turns.invariant.2) live) in
    was_outstanding c.args.adaptor.now.locations.now completion (adaptor_data c.compute.new.self) (session_state c.turns.session) later waits.ready waits.fetches ended

pub turns-smaller : goal.turns-smaller
turns-smaller g c =
    let yields = computes_live c.turns.adaptor.locations.now (Ok Yield) (adaptor_data c.turns.adaptor) (adaptor_data c.compute.new.self) c.turns.invariant.0.live (rw c.in-Ok-Yield.field-0-is at (c.in-Ok-Yield.ensures {u = tt}).gives) in
    let live : c.compute.new.self.state ≢ states.Done = search rules in
    let waits = run_waits c.args.adaptor.now.locations.now (adaptor_data c.args.adaptor.now).scan (session_state c.args.session.now).source c.turns.outputs.items (adaptor_data c.turns.adaptor) (adaptor_data c.compute.new.self) (session_state c.turns.session) c.turns.invariant.0 yields live (ready_of c.args.adaptor.now.locations.now c.compute.new.self.locations.now (adaptor_data c.compute.new.self) c.compute.new.self.ready (c.compute.ensures.locations ∙ c.turns.invariant.2) live) in
    let received = (c.in-Ok-receive.ensures {u = tt}).gives in
    let after = run_result c.args.adaptor.now.locations.now (adaptor_data c.args.adaptor.now).scan (session_state c.args.session.now).source c.turns.outputs.items received.completion (adaptor_data c.compute.new.self) (adaptor_data c.receive.new.adaptor) (session_state c.turns.session) (session_state c.receive.new.session) waits received.done received.takes
    (λ alive. ready_of c.args.adaptor.now.locations.now c.receive.new.adaptor.locations.now (adaptor_data c.receive.new.adaptor) c.receive.new.adaptor.ready ((c.in-Ok-receive.ensures {u = tt}).locations ∙ c.compute.ensures.locations ∙ c.turns.invariant.2) alive) in
    less_result c.args.adaptor.now.locations.now received.completion (adaptor_data c.turns.adaptor) (adaptor_data c.compute.new.self) (adaptor_data c.receive.new.adaptor) (session_state c.turns.session) (session_state c.receive.new.session) waits.fetches yields received.done.ended received.takes after.fetches

pub turns-preserved : goal.turns-preserved
turns-preserved g c =
    let yields = computes_live c.turns.adaptor.locations.now (Ok Yield) (adaptor_data c.turns.adaptor) (adaptor_data c.compute.new.self) c.turns.invariant.0.live (rw c.in-Ok-Yield.field-0-is at (c.in-Ok-Yield.ensures {u = tt}).gives) in
    let live : c.compute.new.self.state ≢ states.Done = search rules in
    let waits = run_waits c.args.adaptor.now.locations.now (adaptor_data c.args.adaptor.now).scan (session_state c.args.session.now).source c.turns.outputs.items (adaptor_data c.turns.adaptor) (adaptor_data c.compute.new.self) (session_state c.turns.session) c.turns.invariant.0 yields live (ready_of c.args.adaptor.now.locations.now c.compute.new.self.locations.now (adaptor_data c.compute.new.self) c.compute.new.self.ready (c.compute.ensures.locations ∙ c.turns.invariant.2) live) in
    let received = (c.in-Ok-receive.ensures {u = tt}).gives in
    let after = run_result c.args.adaptor.now.locations.now (adaptor_data c.args.adaptor.now).scan (session_state c.args.session.now).source c.turns.outputs.items received.completion (adaptor_data c.compute.new.self) (adaptor_data c.receive.new.adaptor) (session_state c.turns.session) (session_state c.receive.new.session) waits received.done received.takes
    (λ alive. ready_of c.args.adaptor.now.locations.now c.receive.new.adaptor.locations.now (adaptor_data c.receive.new.adaptor) c.receive.new.adaptor.ready ((c.in-Ok-receive.ensures {u = tt}).locations ∙ c.compute.ensures.locations ∙ c.turns.invariant.2) alive) in (
      after,
      record { same_reference = (c.in-Ok-receive.ensures {u = tt}).loans.same_reference ∙ c.turns.invariant.1.same_reference; ranges = (c.in-Ok-receive.ensures {u = tt}).loans.ranges ∙ c.turns.invariant.1.ranges },
      (c.in-Ok-receive.ensures {u = tt}).locations ∙ c.compute.ensures.locations ∙ c.turns.invariant.2,
    )

pub returns-in-Err-receive-clause-gives : goal.returns-in-Err-receive-clause-gives
returns-in-Err-receive-clause-gives g c =
    let yields = computes_live c.turns.adaptor.locations.now (Ok Yield) (adaptor_data c.turns.adaptor) (adaptor_data c.compute.new.self) c.turns.invariant.0.live (rw c.in-Ok-Yield.field-0-is at (c.in-Ok-Yield.ensures {u = tt}).gives) in
    let live : c.compute.new.self.state ≢ states.Done = search rules in
    let waits = run_waits c.args.adaptor.now.locations.now (adaptor_data c.args.adaptor.now).scan (session_state c.args.session.now).source c.turns.outputs.items (adaptor_data c.turns.adaptor) (adaptor_data c.compute.new.self) (session_state c.turns.session) c.turns.invariant.0 yields live (ready_of c.args.adaptor.now.locations.now c.compute.new.self.locations.now (adaptor_data c.compute.new.self) c.compute.new.self.ready (c.compute.ensures.locations ∙ c.turns.invariant.2) live) in
    let failed = (c.in-Err-receive.ensures {u = tt}).gives in
    subst (λ (adaptor : AdaptorData). GatherGives c.args.adaptor.now.locations.now c.args.idle_limit (adaptor_data c.args.adaptor.now).scan (Err c.in-Err-receive.error) c.turns.outputs.items adaptor.scan (session_state c.args.session.now).source (session_state c.receive.new.session).source) (sym failed.1) (run_stalls c.args.adaptor.now.locations.now c.args.idle_limit (adaptor_data c.args.adaptor.now).scan (session_state c.args.session.now).source c.turns.outputs.items (adaptor_data c.compute.new.self) (session_state c.turns.session) (session_state c.receive.new.session).source c.in-Err-receive.error waits failed.0)

pub returns-in-Err-clause-gives : goal.returns-in-Err-clause-gives
returns-in-Err-clause-gives g c =
    let stops = computes_live c.args.adaptor.now.locations.now (Err c.in-Err.error) (adaptor_data c.turns.adaptor) (adaptor_data c.compute.new.self) c.turns.invariant.0.live (rw c.turns.invariant.2 at (c.in-Err.ensures {u = tt}).gives) in
    rw c.refusal.ensures (run_stops c.args.adaptor.now.locations.now c.args.idle_limit (adaptor_data c.args.adaptor.now).scan (session_state c.args.session.now).source c.turns.outputs.items (adaptor_data c.turns.adaptor) (adaptor_data c.compute.new.self) (session_state c.turns.session) c.in-Err.error c.turns.invariant.0 stops)
