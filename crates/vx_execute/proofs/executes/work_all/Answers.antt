use Rattle.std.proofs.Common.{◌≡◌, ◌∙◌, ℕ, Bool, List, length, map, sym, ap, subst, arith}
use Rattle.std.specs.Prelude.{nat_lt}
use Rattle.std.proofs.lemmas.List.{length-map}
use Rattle.vx_claims.specs.Claims.{IsSeatOf, parts}
use Rattle.vx_workers.specs.declared.worker_states.WorkerState.{WorkerState}
use Rattle.vx_workers.specs.Joins.{Joins}
use Rattle.vx_workers.specs.Workers.{Worked}
use Rattle.vx_workers.proofs.JoinedWorkers.{joined}
use Rattle.vx_workers.proofs.WorkerFacts.{all_by, as_many_by}
use Rattle.vx_execute.proofs.executes.work_all.Goals as goal
use Rattle.vx_base.specs.Sources.{SourceState}

pub join_workers-requires : goal.join_workers-requires
join_workers-requires g c =
    let opened = c.requires.opened in
    let Works : WorkerState → SourceState → SourceState → Type 0 = Worked (nat_lt 1 (length c.args.sources.now)) c.args.opened.claims c.args.plans.now c.args.chunks.now in
    let befores : List SourceState = map g.S.SegmentSource.state c.args.sources.now in
    let afters : List SourceState = map g.S.SegmentSource.state c.run-worker_states.new.sources in
    let worker_states : List WorkerState = c.run-worker_states.result.items in
    let many : length worker_states ≡ length c.args.sources.now = as_many_by Works worker_states befores afters c.run-worker_states.ensures ∙ length-map c.args.sources.now g.S.SegmentSource.state in
    record {
      left = rw many opened.worker_states.left;
      few = let few = c.requires.workers in omega (arith, many, few);
      seats = all_by Works (λ worker. IsSeatOf c.args.opened.claims worker.seat) (λ worker before after worked. worked.own) worker_states befores afters c.run-worker_states.ensures;
      parts = all_by Works (λ worker. parts worker.seat ≡ 1) (λ worker before after worked. worked.parts) worker_states befores afters c.run-worker_states.ensures;
      empty = opened.lists;
      room = let room = opened.room in omega (arith, many, room);
    }

pub returns : goal.returns
returns g c =
    let shares : Bool = nat_lt 1 (length c.args.sources.now) in
    let befores : List SourceState = map g.S.SegmentSource.state c.args.sources.now in
    let afters : List SourceState = map g.S.SegmentSource.state c.run-worker_states.new.sources in
    let worker_states : List WorkerState = c.run-worker_states.result.items in
    let mapped = length-map c.args.sources.now g.S.SegmentSource.state in
    let many : length worker_states ≡ length c.args.sources.now = as_many_by (Worked shares c.args.opened.claims c.args.plans.now c.args.chunks.now) worker_states befores afters c.run-worker_states.ensures ∙ mapped in
    let some = c.requires.some in
    joined shares c.args.opened.claims c.args.plans.now c.args.chunks.now worker_states c.join_workers.result befores afters
    (ap (nat_lt 1) (sym mapped))
    (omega (arith, many, some)) c.run-worker_states.ensures
    (subst (λ (n : ℕ). Joins n worker_states c.join_workers.result) c.requires.opened.chunks c.join_workers.ensures)
