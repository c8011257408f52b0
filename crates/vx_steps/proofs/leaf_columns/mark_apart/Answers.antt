use Rattle.std.proofs.Common.{add-one, ap, arith, map, subst, sym, take, ◌+◌, ◌∙◌}
use Rattle.vx_plan.specs.Refs.{number_of}
use Rattle.vx_steps.specs.declared.kept.KeptValue.{KeptValue}
use Rattle.vx_steps.specs.declared.plan_marks.PlanMarks.{PlanMarks}
use Rattle.vx_steps.specs.Kept.{kept_data}
use Rattle.vx_steps.specs.LeafColumns.{MarksApart}
use Rattle.vx_steps.specs.NumberTable.{IsReached}
use Rattle.vx_steps.proofs.Dropping.{apart_all, apart_next, apart_none, apart_passed, room_at}
use Rattle.vx_steps.proofs.leaf_columns.mark_apart.Goals as goal
use Rattle.vx_steps.proofs.leaf_columns.mark_apart.Goals.{then-has, else-has}

pub loop-place-init : goal.loop-place-init
loop-place-init c = apart_none c.args.apart.now c.args.gone.now (map kept_data c.args.columns.now)

pub mark-requires : goal.mark-requires
mark-requires c =
    let x = c.index-columns-place.result in
    let R : KeptValue → Type 0 = λ v. IsReached c.loop-place.gone.numbers (number_of v.node) in
    subst R c.index-columns-place.is (c.loop-place.invariant.wide (number_of x.node) (room_at c.args.gone.now c.args.columns.now c.loop-place.place x c.loop-place-test.true c.index-columns-place.is c.requires))

pub loop-place-preserved : goal.loop-place-preserved
loop-place-preserved c =
    let x = c.index-columns-place.result in
    let same = ap (λ (v : KeptValue). number_of v.node) c.index-columns-place.is in
    let M : PlanMarks → Type 0 = λ gone. MarksApart c.args.apart.now (take (c.loop-place.place + 1) (map kept_data c.args.columns.now)) c.args.gone.now gone in
    elim c.if-has.branch [
      | then-has w ↦ subst M (sym w.gone-is) (rw add-one (apart_next c.args.apart.now c.args.gone.now c.loop-place.gone w.mark.new.self c.args.columns.now c.loop-place.place _ x c.loop-place-test.true c.index-columns-place.is same (sym c.has.ensures ∙ w.if-has.true) w.mark.ensures c.loop-place.invariant))
      | else-has w ↦ subst M (sym w.gone-is) (rw add-one (apart_passed c.args.apart.now c.args.gone.now c.loop-place.gone c.args.columns.now c.loop-place.place _ x c.loop-place-test.true c.index-columns-place.is same (sym c.has.ensures ∙ w.if-has.false) c.loop-place.invariant))
    ]

pub returns : goal.returns
returns c = apart_all c.args.apart.now c.args.gone.now c.loop-place.gone c.args.columns.now c.loop-place.place (omega arith) c.loop-place.invariant
