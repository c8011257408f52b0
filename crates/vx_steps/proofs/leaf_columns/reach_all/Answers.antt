use Rattle.std.proofs.Common.{List, add-one, arith, map, sym, subst}
use Rattle.vx_plan.specs.Refs.{number_of}
use Rattle.vx_steps.specs.declared.kept.KeptValue.{KeptValue}
use Rattle.vx_steps.specs.Kept.{kept_data}
use Rattle.vx_steps.specs.KeptData.{Kept}
use Rattle.vx_steps.specs.NumberTable.{IsReached}
use Rattle.vx_steps.specs.PlanMarks.{HasRoom}
use Rattle.vx_steps.proofs.Indexing.{all_taken}
use Rattle.vx_steps.proofs.Storing.{marks_none, marks_then, room_none, room_reached}
use Rattle.vx_steps.proofs.leaf_columns.reach_all.Goals as goal

pub loop-place-init : goal.loop-place-init
loop-place-init c = record { room = room_none c.args.gone.now (map kept_data c.args.columns.now); marks = marks_none c.args.gone.now }

pub loop-place-preserved : goal.loop-place-preserved
loop-place-preserved c =
    let x = c.index-columns-place.result in
    let T : KeptValue → Type 0 = λ v. IsReached c.reach.new.self.numbers (number_of v.node) in
    let there : T x = subst T (sym c.index-columns-place.is) c.in_ok-reach.ensures.there in
    record {
      room = rw add-one (room_reached c.loop-place.gone c.reach.new.self c.args.columns.now c.loop-place.place x c.loop-place-test.true c.index-columns-place.is c.in_ok-reach.ensures.kept there c.loop-place.invariant.room);
      marks = marks_then c.args.gone.now c.loop-place.gone c.reach.new.self c.loop-place.invariant.marks c.in_ok-reach.ensures.kept;
    }

pub returns-in_err-reach-clause-marks : goal.returns-in_err-reach-clause-marks
returns-in_err-reach-clause-marks c = marks_then c.args.gone.now c.loop-place.gone c.reach.new.self c.loop-place.invariant.marks c.in_err-reach.ensures.kept

pub returns-clause-room : goal.returns-clause-room
returns-clause-room c =
    let R : List Kept → Type 0 = λ kept. HasRoom c.loop-place.gone kept in
    subst R (all_taken c.args.columns.now c.loop-place.place (omega arith)) c.loop-place.invariant.room
