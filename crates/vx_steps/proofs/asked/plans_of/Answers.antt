use Rattle.std.proofs.Common.{arith, map, refl, sym, ◌∙◌}
use Rattle.std.specs.BTreeSet.{contains}
use Rattle.std.specs.Ordering.{nat_cmp}
use Rattle.vx_plan.specs.Refs.{number_of}
use Rattle.vx_steps.proofs.EachOnce.{known_more, listed_same, new_more, none_listed}
use Rattle.vx_steps.proofs.asked.plans_of.Goals as goal
use Rattle.vx_steps.proofs.asked.plans_of.Goals.{then-branch+in_ok-push, else-branch}

pub loop-number-init : goal.loop-number-init
loop-number-init c = rw c.new-plans.ensures.items (none_listed c.args.numbers.now (contains nat_cmp c.new-known.result) (λ q. rw c.new-known.ensures.empty refl))

pub loop-number-preserved : goal.loop-number-preserved
loop-number-preserved c =
    elim c.if-branch.branch [
      | then-branch+in_ok-push w ↦ rw (w.plans-is, w.in_ok-push.ensures.items) (new_more c.args.numbers.now c.loop-number.plans.items (contains nat_cmp c.loop-number.known) (contains nat_cmp c.insert.new.self) c.loop-number.number-index c.loop-number-test.true c.loop-number.invariant (sym w.if-branch.true ∙ c.in_ok-insert.ensures.added) c.in_ok-insert.ensures.updates.0)
      | else-branch w ↦ rw w.plans-is (known_more c.args.numbers.now (map number_of c.loop-number.plans.items) (contains nat_cmp c.loop-number.known) (contains nat_cmp c.insert.new.self) c.loop-number.number-index c.loop-number-test.true c.loop-number.invariant (sym w.if-branch.false ∙ c.in_ok-insert.ensures.added) c.in_ok-insert.ensures.updates.0)
    ]

pub returns-clause-same : goal.returns-clause-same
returns-clause-same c = listed_same c.args.numbers.now (map number_of c.loop-number.plans.items) (contains nat_cmp c.loop-number.known) c.loop-number.number-index (omega arith) c.loop-number.invariant
