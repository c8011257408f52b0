use Rattle.std.proofs.Common.{◌≡◌, ◌≤◌, ◌∙◌, sym, ap, subst, List, ℕ, [], ◌∷◌, ◌++◌, Some, refl, rules, arith}
use Rattle.std.specs.Prelude.{slice_get}
use Rattle.vx_claims.specs.Views.{above}
use Rattle.vx_drive.specs.Plans.{IsChunkOf}
use Rattle.vx_chunks.specs.declared.outcomes.HandedOn.{HandedOn}
use Rattle.vx_chunks.specs.Outcomes.{CanHandOn}
use Rattle.vx_workers.specs.declared.worker_states.WorkerState.{WorkerState}
use Rattle.vx_workers.specs.Hindered.{RunsIfUnhindered}
use Rattle.vx_workers.proofs.WorkerStates.{goes_on, lacks_memory, stops, told_end, with_room, works_none}
use Rattle.vx_workers.proofs.workers.work.Goals as goal
use Rattle.vx_base.proofs.Got.{each_got, got_at}

pub working-init : goal.working-init
working-init g c = works_none c.args.common.now.shares c.args.common.now.claims.now c.args.common.now.plans.now c.args.common.now.chunks.now c.args.worker.now (g.S.SegmentSource.state c.args.source.now) c.requires.worker

pub push_reserved-requires : goal.push_reserved-requires
push_reserved-requires g c = omega (arith, (c.makes_room.ensures.room c.if-not-makes_room.false).claimed, c.makes_room.new.worker.claimed.ok.0)

pub record_outcome-requires-clause-pieces : goal.record_outcome-requires-clause-pieces
record_outcome-requires-clause-pieces g c = (c.makes_room.ensures.room c.if-not-makes_room.false).pieces

pub record_outcome-requires-clause-borrowers : goal.record_outcome-requires-clause-borrowers
record_outcome-requires-clause-borrowers g c = (c.makes_room.ensures.room c.if-not-makes_room.false).borrowers

pub working-preserved : goal.working-preserved
working-preserved g c =
    let number : ℕ = c.in-Some.number in
    let room : WorkerState = c.makes_room.new.worker in
    let working = with_room c.args.common.now.shares c.args.common.now.claims.now c.args.common.now.plans.now c.args.common.now.chunks.now c.makes_room.result c.working.worker room (g.S.SegmentSource.state c.args.source.now) (g.S.SegmentSource.state c.working.source) c.working.invariant c.makes_room.ensures in
    let worker : WorkerState = record { alloc = room.alloc; seat = c.claim.new.self; claimed = c.push_reserved.new.self; pieces = room.pieces; borrowers = room.borrowers; handed = c.run_unhindered-ran.result.ran.handed; error = room.error } in
    let numbers : c.push_reserved.new.self.items ≡ room.claimed.items ++ number ∷ [] = c.push_reserved.ensures.items in
    let here : slice_get c.args.common.now.chunks.now number ≡ Some c.index-chunks-number.result = got_at c.args.common.now.chunks.now number c.index-chunks-number.result (search rules) c.index-chunks-number.is in
    let one : IsChunkOf c.args.common.now.plans.now c.index-chunks-number.result = each_got (IsChunkOf c.args.common.now.plans.now) c.args.common.now.chunks.now number c.index-chunks-number.result here c.requires.common.chunks in
    let later : above room.claimed.items ≤ number = subst (λ (ns : List ℕ). above ns ≤ number) (sym working.claimed) c.in-Some.ensures.gives.behind in
    let runs = subst (λ (h : HandedOn). RunsIfUnhindered c.args.common.now.shares c.args.common.now.plans.now c.index-chunks-number.result h c.run_unhindered-ran.result (g.S.SegmentSource.state c.working.source) (g.S.SegmentSource.state c.run_unhindered-ran.new.source)) c.replace-handed.ensures.value c.run_unhindered-ran.ensures in
    goes_on c.args.common.now.shares c.args.common.now.claims.now c.args.common.now.plans.now c.args.common.now.chunks.now number c.index-chunks-number.result c.run_unhindered-ran.result room worker c.record_outcome.new.worker
    (g.S.SegmentSource.state c.args.source.now) (g.S.SegmentSource.state c.working.source) (g.S.SegmentSource.state c.run_unhindered-ran.new.source) working
    (record {
      own = c.in-Some.ensures.seat;
      parts = c.in-Some.ensures.parts ∙ working.parts;
      claimed = numbers ∙ ap (λ (ns : List ℕ). ns ++ number ∷ []) working.claimed ∙ sym c.in-Some.ensures.gives.claimed;
      numbers = numbers;
      pieces = refl;
      borrowers = refl;
      handed = refl;
      error = working.error;
    }) (record { good = c.keeps_rules.ensures; known = c.requires.common.plans.known }) one here later runs.runs runs.unhindered c.record_outcome.result c.if-not-record_outcome.false c.record_outcome.ensures

pub returns-then-not-record_outcome : goal.returns-then-not-record_outcome
returns-then-not-record_outcome g c =
    let number : ℕ = c.in-Some.number in
    let room : WorkerState = c.makes_room.new.worker in
    let working = with_room c.args.common.now.shares c.args.common.now.claims.now c.args.common.now.plans.now c.args.common.now.chunks.now c.makes_room.result c.working.worker room (g.S.SegmentSource.state c.args.source.now) (g.S.SegmentSource.state c.working.source) c.working.invariant c.makes_room.ensures in
    let worker : WorkerState = record { alloc = room.alloc; seat = c.claim.new.self; claimed = c.push_reserved.new.self; pieces = room.pieces; borrowers = room.borrowers; handed = c.run_unhindered-ran.result.ran.handed; error = room.error } in
    let numbers : c.push_reserved.new.self.items ≡ room.claimed.items ++ number ∷ [] = c.push_reserved.ensures.items in
    let here : slice_get c.args.common.now.chunks.now number ≡ Some c.index-chunks-number.result = got_at c.args.common.now.chunks.now number c.index-chunks-number.result (search rules) c.index-chunks-number.is in
    let one : IsChunkOf c.args.common.now.plans.now c.index-chunks-number.result = each_got (IsChunkOf c.args.common.now.plans.now) c.args.common.now.chunks.now number c.index-chunks-number.result here c.requires.common.chunks in
    let later : above room.claimed.items ≤ number = subst (λ (ns : List ℕ). above ns ≤ number) (sym working.claimed) c.in-Some.ensures.gives.behind in
    let runs = subst (λ (h : HandedOn). RunsIfUnhindered c.args.common.now.shares c.args.common.now.plans.now c.index-chunks-number.result h c.run_unhindered-ran.result (g.S.SegmentSource.state c.working.source) (g.S.SegmentSource.state c.run_unhindered-ran.new.source)) c.replace-handed.ensures.value c.run_unhindered-ran.ensures in
    stops c.args.common.now.shares c.args.common.now.claims.now c.args.common.now.plans.now c.args.common.now.chunks.now number c.index-chunks-number.result c.run_unhindered-ran.result room worker c.record_outcome.new.worker
    (g.S.SegmentSource.state c.args.source.now) (g.S.SegmentSource.state c.working.source) (g.S.SegmentSource.state c.run_unhindered-ran.new.source) working
    (record {
      own = c.in-Some.ensures.seat;
      parts = c.in-Some.ensures.parts ∙ working.parts;
      claimed = numbers ∙ ap (λ (ns : List ℕ). ns ++ number ∷ []) working.claimed ∙ sym c.in-Some.ensures.gives.claimed;
      numbers = numbers;
      pieces = refl;
      borrowers = refl;
      handed = refl;
      error = working.error;
    }) (record { good = c.keeps_rules.ensures; known = c.requires.common.plans.known }) one here later runs.runs runs.unhindered c.record_outcome.result c.if-not-record_outcome.true c.record_outcome.ensures

pub run_unhindered-ran-requires-clause-handed : goal.run_unhindered-ran-requires-clause-handed
run_unhindered-ran-requires-clause-handed g c =
    let working = with_room c.args.common.now.shares c.args.common.now.claims.now c.args.common.now.plans.now c.args.common.now.chunks.now c.makes_room.result c.working.worker c.makes_room.new.worker (g.S.SegmentSource.state c.args.source.now) (g.S.SegmentSource.state c.working.source) c.working.invariant c.makes_room.ensures in
    subst (CanHandOn c.args.common.now.plans.now) (sym c.replace-handed.ensures.value) working.ran.can

pub returns-in_default : goal.returns-in_default
returns-in_default g c =
    let room : WorkerState = c.makes_room.new.worker in
    let working = with_room c.args.common.now.shares c.args.common.now.claims.now c.args.common.now.plans.now c.args.common.now.chunks.now c.makes_room.result c.working.worker room (g.S.SegmentSource.state c.args.source.now) (g.S.SegmentSource.state c.working.source) c.working.invariant c.makes_room.ensures in
    let worker : WorkerState = record { alloc = room.alloc; seat = c.claim.new.self; claimed = room.claimed; pieces = room.pieces; borrowers = room.borrowers; handed = room.handed; error = room.error } in
    told_end c.args.common.now.shares c.args.common.now.claims.now c.args.common.now.plans.now c.args.common.now.chunks.now room worker (g.S.SegmentSource.state c.args.source.now) (g.S.SegmentSource.state c.working.source) working
    (record {
      own = c.in_default.ensures.seat;
      parts = c.in_default.ensures.parts ∙ working.parts;
      same_claimed = c.in_default.ensures.gives.claimed;
      numbers = refl;
      pieces = refl;
      borrowers = refl;
      handed = refl;
    }) working.error c.in_default.ensures.gives.told

pub returns-then-not-makes_room : goal.returns-then-not-makes_room
returns-then-not-makes_room g c =
    let room : WorkerState = c.makes_room.new.worker in
    let working = with_room c.args.common.now.shares c.args.common.now.claims.now c.args.common.now.plans.now c.args.common.now.chunks.now c.makes_room.result c.working.worker room (g.S.SegmentSource.state c.args.source.now) (g.S.SegmentSource.state c.working.source) c.working.invariant c.makes_room.ensures in
    lacks_memory c.args.common.now.shares c.args.common.now.claims.now c.args.common.now.plans.now c.args.common.now.chunks.now room room c.want_of_memory.result (g.S.SegmentSource.state c.args.source.now) (g.S.SegmentSource.state c.working.source) working
    (record { own = working.own; parts = working.parts; same_claimed = refl; numbers = refl; pieces = refl; borrowers = refl; handed = refl }) c.want_of_memory.ensures
