use Rattle.std.proofs.Common.{[], List, ℕ, map, sym, subst}
use Rattle.std.proofs.lemmas.Result.{IfOk-weaker}
use Rattle.vx_plan.specs.Refs.{number_of}
use Rattle.vx_plan.specs.Tables.{AreIn}
use Rattle.vx_steps.specs.Asked.{AreAskedPlans, AreSame}
use Rattle.vx_steps.specs.Needs.{Adds}
use Rattle.vx_steps.specs.Wholes.{Asks}
use Rattle.vx_steps.proofs.AskedKnown.{are_known}
use Rattle.vx_steps.proofs.AskedPlans.{are_asked}
use Rattle.vx_steps.proofs.asked.asked_wholes.Goals as goal

pub returns-clause-asked : goal.returns-clause-asked
returns-clause-asked c =
    let F : List ℕ → Type 0 = λ ns. Adds (Asks c.args.table.now [] (number_of c.args.plan) c.args.start c.args.mask.now) [] ns in
    let added : F c.deref.result.now = subst F (sym c.deref.ensures.value) (rw c.new-numbers.ensures.items at c.in_ok-add_asked.ensures) in
    IfOk-weaker c.plans_of.result (λ plans. AreSame (map number_of plans.items) c.deref.result.now) (λ plans. AreAskedPlans c.args.table.now (number_of c.args.plan) c.args.start c.args.mask.now (map number_of plans.items))
    (λ plans same. are_asked c.args.table.now (number_of c.args.plan) c.args.start c.args.mask.now c.deref.result.now (map number_of plans.items) added same) c.plans_of.ensures.same

pub returns-clause-known : goal.returns-clause-known
returns-clause-known c =
    IfOk-weaker c.plans_of.result (λ plans. AreAskedPlans c.args.table.now (number_of c.args.plan) c.args.start c.args.mask.now (map number_of plans.items)) (λ plans. AreIn c.args.table.now (map number_of plans.items))
    (λ plans are. are_known c.args.table.now c.keeps_rules.ensures (number_of c.args.plan) c.args.start c.args.mask.now (map number_of plans.items) c.requires.known are) (returns-clause-asked c)
