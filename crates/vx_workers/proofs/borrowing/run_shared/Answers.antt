use Rattle.std.proofs.Common.{Bool, ℕ, List, [], ap, map, refl, subst, sym}
use Rattle.vx_plan.specs.declared.children.PlanRef.{PlanRef}
use Rattle.vx_plan.specs.Refs.{number_of}
use Rattle.vx_steps.specs.declared.kept.KeptValue.{KeptValue}
use Rattle.vx_chunks.specs.declared.outcomes.Ran.{Ran}
use Rattle.vx_chunks.specs.Outcomes.{data_of}
use Rattle.vx_chunks.proofs.HandedRuns.{lacks_on}
use Rattle.vx_workers.specs.declared.borrowing.Shared.{Shared}
use Rattle.vx_workers.specs.Borrowing.{RestsOn, RunsShared}
use Rattle.vx_workers.proofs.Borrowed.{shared_none, shared_some}
use Rattle.vx_workers.proofs.borrowing.run_shared.Goals as goal

pub returns-then-not-common : goal.returns-then-not-common
returns-then-not-common g c =
    shared_none c.args.common.now.shares c.args.common.now.plans.now c.args.chosen.now c.args.handed (data_of c.new.result.items) (record { ran = c.run_on-ran.result; borrowed = c.new-then-not-common.result }) (g.S.SegmentSource.state c.args.source.now) (g.S.SegmentSource.state c.run_on-ran.new.source)
    (ap data_of c.new.ensures.items) c.new-then-not-common.ensures.items c.run_on-ran.ensures.runs

pub returns-in_default : goal.returns-in_default
returns-in_default g c =
    let before = g.S.SegmentSource.state c.args.source.now in
    let after = g.S.SegmentSource.state c.refuse.new.source in
    shared_none c.args.common.now.shares c.args.common.now.plans.now c.args.chosen.now c.args.handed [] c.refuse.result before after refl c.refuse.ensures.borrowed
    (lacks_on c.args.common.now.plans.now c.args.chosen.now c.args.handed [] c.refuse.result.ran before after c.requires.handed (ap (λ (ran : Ran). ran.piece) c.refuse.ensures.ran) (ap (λ (ran : Ran). ran.handed) c.refuse.ensures.ran) c.refuse.ensures.cleared)

pub returns : goal.returns
returns g c =
    let shared : Shared = record { ran = c.run_on-ran-2.result; borrowed = c.rested_on-borrowed.result } in
    let asked : List ℕ = map number_of c.in-Ok.borrowed.asked.items in
    let rests : RestsOn shared.ran.piece asked (data_of shared.ran.handed.made.items) c.in-Ok.borrowed.kept.items shared.borrowed.items =
    subst (λ (made : List KeptValue). RestsOn shared.ran.piece asked (data_of made) c.in-Ok.borrowed.kept.items shared.borrowed.items) c.as_slice-made-2.ensures.value
    (subst (λ (plans : List PlanRef). RestsOn shared.ran.piece (map number_of plans) (data_of c.as_slice-made-2.result.now) c.in-Ok.borrowed.kept.items shared.borrowed.items) c.as_slice-2.ensures.value c.rested_on-borrowed.ensures) in
    subst (λ (shares : Bool). RunsShared shares c.args.common.now.plans.now c.args.chosen.now c.args.handed shared (g.S.SegmentSource.state c.args.source.now) (g.S.SegmentSource.state c.run_on-ran-2.new.source)) (sym c.if-not-common.false)
    (shared_some c.args.common.now.plans.now c.args.chosen.now c.args.handed asked (data_of c.in-Ok.borrowed.given.items) c.in-Ok.borrowed.kept.items shared (g.S.SegmentSource.state c.args.source.now) (g.S.SegmentSource.state c.run_on-ran-2.new.source) c.keeps_rules.ensures c.requires.plans.known c.in-Ok.ensures.asked c.in-Ok.ensures.known c.in-Ok.ensures.borrowed c.in-Ok.ensures.kept c.run_on-ran-2.ensures rests)
