use Rattle.std.proofs.Common.{arith, ◌<◌, subst}
use Rattle.vx_plan.specs.declared.parts.Part.TheVariants as parts
use Rattle.vx_plan.specs.Parts.{parts_left, parts_of, AreRowsOf, IsPartOf}
use Rattle.vx_steps.specs.declared.leavings.Sieve.{Sieve}
use Rattle.vx_steps.specs.Leavings.{Meets}
use Rattle.vx_steps.proofs.LeavingRows.{leaf_rows, next_met, parts_met, parts_rows, rows_met, whole_met, zones_met, PartsRead}
use Rattle.vx_steps.proofs.Shaping.{leaf_plan}
use Rattle.vx_steps.proofs.leavings.+leavings.Goals.{in-All, in-Rows, in-Whole}
use Rattle.vx_steps.proofs.leavings.+leavings.Goals as goal

pub returns-in-Leaf : goal.returns-in-Leaf
returns-in-Leaf t c =
    let some : 0 < c.args.count = grind arith in
    leaf_rows c.args.table.now c.args.plan c.in-Leaf.field-0 c.args.start c.args.count c.args.sieve.now c.meet.new.self (leaf_plan c.args.table.now c.args.plan c.in-Leaf.field-0 c.requires.known c.in-Leaf.ensures.shape) some c.meet.ensures

pub loop-next-preserved : goal.loop-next-preserved
loop-next-preserved t c =
    let nodes = c.args.table.now in
    let left = parts_left nodes c.args.plan c.args.start c.args.count c.loop-next.place in
    let behind = parts_left nodes c.args.plan c.args.start c.args.count c.in-Some.next.behind in
    let Goal : Sieve → Type 0 = λ new. Meets (PartsRead nodes c.args.count (parts_of nodes c.args.plan c.args.start c.args.count)) c.args.sieve.now new in
    elim c.match-next.branch [
      | in-Rows w ↦
          let is : AreRowsOf nodes c.args.plan c.args.start c.args.count w.in-Rows.rows = subst (IsPartOf nodes c.args.plan c.args.start c.args.count) w.in-Rows.is c.in-Some.ensures.part in
          rw w.sieve-is (next_met nodes c.args.count left behind c.in-Some.next.part (parts.Rows w.in-Rows.rows) c.in-Some.ensures.left w.in-Rows.is Goal c.loop-next.sieve w.meet_rows.new.sieve c.loop-next.invariant (rows_met nodes c.args.count w.in-Rows.rows c.loop-next.sieve w.meet_rows.new.sieve is.forwards is.asked w.meet_rows.ensures))
      | in-All w ↦
          rw w.sieve-is (next_met nodes c.args.count left behind c.in-Some.next.part (parts.All w.in-All.child) c.in-Some.ensures.left w.in-All.is Goal c.loop-next.sieve w.meet_rows-in-All.new.sieve c.loop-next.invariant (zones_met nodes c.args.count w.in-All.child w.row_count-in-All.result c.loop-next.sieve w.meet_rows-in-All.new.sieve w.row_count-in-All.ensures w.meet_rows-in-All.ensures))
      | in-Whole w ↦
          rw w.sieve-is (next_met nodes c.args.count left behind c.in-Some.next.part (parts.Whole w.in-Whole.field-0 w.in-Whole.child) c.in-Some.ensures.left w.in-Whole.is Goal c.loop-next.sieve w.meet_rows-in-Whole.new.sieve c.loop-next.invariant (whole_met nodes c.args.count w.in-Whole.field-0 w.in-Whole.child w.row_count.result c.loop-next.sieve w.meet_rows-in-Whole.new.sieve w.row_count.ensures w.meet_rows-in-Whole.ensures))
    ]

pub returns : goal.returns
returns t c =
    let some : 0 < c.args.count = grind arith in
    let nodes = c.args.table.now in
    let Goal : Sieve → Type 0 = λ new. Meets (PartsRead nodes c.args.count (parts_of nodes c.args.plan c.args.start c.args.count)) c.args.sieve.now new in
    parts_rows nodes c.shape.ensures.good c.args.plan c.requires.known c.shape.result c.shape.ensures.shape c.in_default.not-Leaf c.args.start c.args.count some c.args.sieve.now c.loop-next.sieve
    (parts_met nodes c.args.count (parts_left nodes c.args.plan c.args.start c.args.count c.loop-next.place) c.in_default-next_part.ensures Goal c.loop-next.sieve c.loop-next.invariant)
