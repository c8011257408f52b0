use Rattle.std.proofs.Common.{get_or}
use Rattle.vx_plan.specs.declared.children.PlanRef.{PlanRef}
use Rattle.vx_chunks.specs.Outcomes.{data_of}
use Rattle.vx_workers.proofs.Borrowed.{among_at, borrows_more}
use Rattle.vx_workers.proofs.borrowing.borrow.Goals as goal
use Rattle.vx_workers.proofs.borrowing.borrow.Goals.{then-is_none+in_ok-borrow_or_lack, else-is_none}

pub loop-plan-preserved : goal.loop-plan-preserved
loop-plan-preserved g c =
    let plan : PlanRef = get_or c.args.asked.now c.loop-plan.plan-index (record { 0 = 0 }) in
    elim c.if-is_none.branch [
      | then-is_none+in_ok-borrow_or_lack w ↦ rw w.borrowed-is (borrows_more c.args.table.now c.args.asked.now plan (data_of c.loop-plan.borrowed.given.items) (data_of w.borrow_or_lack.new.borrowed.given.items) (among_at c.args.asked.now c.loop-plan.plan-index c.loop-plan-test.true) c.loop-plan.invariant w.borrow_or_lack.ensures)
      | else-is_none w ↦ rw w.borrowed-is c.loop-plan.invariant
    ]
