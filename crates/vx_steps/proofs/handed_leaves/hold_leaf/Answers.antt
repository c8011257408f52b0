use Rattle.std.proofs.Common.{rules, ◌≡◌, ◌∙◌, false, sym, subst}
use Rattle.vx_steps.specs.declared.jobs.Progress.{Progress}
use Rattle.vx_steps.specs.Needed.{LeafIsAhead, SegmentIsAhead}
use Rattle.vx_steps.specs.Places.{place_in}
use Rattle.vx_steps.proofs.HoldingOne.{holds_none, holds_segment, leaf_goes, leaf_stays, said_false, said_true, some_there, HoldsSegment}
use Rattle.vx_steps.proofs.handed_leaves.hold_leaf.Goals as goal
use Rattle.vx_steps.proofs.handed_leaves.hold_leaf.Goals.{then-is_ahead+then-is_segment_ahead+in_ok-make_room, else-is_ahead}

pub returns-then-has-clause-holds : goal.returns-then-has-clause-holds
returns-then-has-clause-holds c =
    let old = c.args.progress.now in
    let mid = c.if-is_ahead.progress in
    let leaf = c.args.leaf in
    let segment = c.args.segment in
    let splits = c.args.splits in
    let P : Progress → Type 0 = HoldsSegment segment splits old in
    let first : HoldsSegment segment splits old mid = elim c.if-is_ahead.branch [
      | then-is_ahead+then-is_segment_ahead+in_ok-make_room w ↦ subst P (sym w.progress-is) (holds_segment segment splits old w.make_room.new.self w.insert.new.self w.make_room.ensures.held w.make_room.ensures.kept w.insert.ensures.held w.insert.ensures.kept (λ still later by. said_true w.is_segment_ahead.result (SegmentIsAhead still later old.next splits segment) (SegmentIsAhead still later old.next splits segment → ⊥) (w.is_segment_ahead.ensures still later by) w.if-is_segment_ahead.true))
      | else-is_ahead w ↦ subst P (sym w.progress-is) (holds_none segment splits old)
    ] in
    let not_ahead : c.is_leaf_ahead-is_ahead.result ≡ false = search rules in
    leaf_goes leaf segment splits old mid c.forget.new.self first c.forget.ensures (some_there (place_in mid.needed.apart.places leaf) (sym c.has.ensures ∙ c.if-has.true)) (λ still later by. said_false c.is_leaf_ahead-is_ahead.result (LeafIsAhead still later old.next splits leaf) (LeafIsAhead still later old.next splits leaf → ⊥) (c.is_leaf_ahead-is_ahead.ensures still later by) not_ahead)

pub returns-else-not-is_ahead-clause-holds : goal.returns-else-not-is_ahead-clause-holds
returns-else-not-is_ahead-clause-holds c =
    let old = c.args.progress.now in
    let segment = c.args.segment in
    let splits = c.args.splits in
    let P : Progress → Type 0 = HoldsSegment segment splits old in
    let first : HoldsSegment segment splits old c.if-is_ahead.progress = elim c.if-is_ahead.branch [
      | then-is_ahead+then-is_segment_ahead+in_ok-make_room w ↦ subst P (sym w.progress-is) (holds_segment segment splits old w.make_room.new.self w.insert.new.self w.make_room.ensures.held w.make_room.ensures.kept w.insert.ensures.held w.insert.ensures.kept (λ still later by. said_true w.is_segment_ahead.result (SegmentIsAhead still later old.next splits segment) (SegmentIsAhead still later old.next splits segment → ⊥) (w.is_segment_ahead.ensures still later by) w.if-is_segment_ahead.true))
      | else-is_ahead w ↦ subst P (sym w.progress-is) (holds_none segment splits old)
    ] in
    leaf_stays c.args.leaf segment splits old c.if-is_ahead.progress first
