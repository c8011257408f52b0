use Rattle.std.proofs.Common.{◌≤◌, Bool, add-one, arith, get_or, length, subst}
use Rattle.std.specs.Bool.{MatchBool}
use Rattle.vx_plan.specs.declared.children.PlanRef.{PlanRef}
use Rattle.vx_plan.specs.Refs.{number_of}
use Rattle.vx_chunks.specs.Outcomes.{data_of, IsGivenOrMade}
use Rattle.vx_workers.proofs.Borrowed.{among_at, had_end, had_more}
use Rattle.vx_workers.proofs.borrowing.are_had.Goals as goal

pub returns-then-not-is_had : goal.returns-then-not-is_had
returns-then-not-is_had c =
    let plan : PlanRef = get_or c.args.asked.now c.loop-plan.plan-index (record { 0 = 0 }) in
    let Had : Type 0 = IsGivenOrMade (data_of c.args.given.now) (data_of c.args.made.now) (number_of plan) in
    let lacks : Had → ⊥ = subst (λ (b : Bool). MatchBool b Had (Had → ⊥)) c.if-not-is_had.true c.is_had.ensures in
    λ had. lacks (had (number_of plan) (among_at c.args.asked.now c.loop-plan.plan-index c.loop-plan-test.true))

pub loop-plan-preserved : goal.loop-plan-preserved
loop-plan-preserved c =
    let plan : PlanRef = get_or c.args.asked.now c.loop-plan.plan-index (record { 0 = 0 }) in
    let Had : Type 0 = IsGivenOrMade (data_of c.args.given.now) (data_of c.args.made.now) (number_of plan) in
    let has : Had = subst (λ (b : Bool). MatchBool b Had (Had → ⊥)) c.if-not-is_had.false c.is_had.ensures in
    rw add-one (had_more (data_of c.args.given.now) (data_of c.args.made.now) c.args.asked.now c.loop-plan.plan-index c.loop-plan-test.true c.loop-plan.invariant has)

pub returns : goal.returns
returns c =
    let less = c.loop-plan-test.false in
    let end : length c.args.asked.now ≤ c.loop-plan.plan-index = omega (arith, less) in
    had_end (data_of c.args.given.now) (data_of c.args.made.now) c.args.asked.now c.loop-plan.plan-index end c.loop-plan.invariant
