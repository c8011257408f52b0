use Rattle.std.proofs.Common.{arith, ◌≡◌, ℕ, ◌∷◌, ◌<◌, ◌∙◌, Some, Err, true, length, replicate, refl, sym, ap, subst}
use Rattle.std.specs.Prelude.{slice_range}
use Rattle.std.proofs.lemmas.List.{length-replicate}
use Rattle.vx_plan.specs.declared.parts.Part.TheVariants as parts
use Rattle.vx_plan.specs.Parts.{parts_left, parts_of, AreRowsOf, IsPartOf}
use Rattle.vx_plan.specs.Reaches.{all_rows}
use Rattle.vx_plan.specs.Rules.{node_at}
use Rattle.vx_steps.specs.Wholes.{held_with, AreReadyInside, IsThere}
use Rattle.vx_steps.proofs.Parts.{all_rows_taken}
use Rattle.vx_steps.proofs.PartsAsking.{part_asked, part_up, whole_part, PartAsks}
use Rattle.vx_steps.proofs.WholeAsking.{all_there, asked_by, asked_then, last_behind, next_among, next_there}
use Rattle.vx_steps.proofs.WholeFaults.{inside_by, inside_ready_by, still_inside, whole_fails, whole_inside, whole_ready}
use Rattle.vx_steps.proofs.WholeMaking.{computed_by, error_by, held_by, keeps_then, uses_then}
use Rattle.vx_steps.proofs.wholes.+wholes.Goals.{ready_wholes-in-Rows+in-Ok, ready_wholes-in-All+in-Ok-ready_zones, ready_wholes-in-Whole+in-Ok-ready_whole}
use Rattle.vx_steps.proofs.wholes.+wholes.Goals as goal

pub ready_wholes-ready_child_rows-requires : goal.ready_wholes-ready_child_rows-requires
ready_wholes-ready_child_rows-requires g c =
    let first : parts_left c.args.grounds.table.now c.args.plan c.args.start (length c.args.mask.now) c.loop-next.place ≡ c.in-Some.next.part ∷ parts_left c.args.grounds.table.now c.args.plan c.args.start (length c.args.mask.now) c.in-Some.next.behind = rw c.len.ensures at c.in-Some.ensures.left in
    let among = next_among (parts_of c.args.grounds.table.now c.args.plan c.args.start (length c.args.mask.now)) (parts_left c.args.grounds.table.now c.args.plan c.args.start (length c.args.mask.now) c.loop-next.place) (parts_left c.args.grounds.table.now c.args.plan c.args.start (length c.args.mask.now) c.in-Some.next.behind) c.in-Some.next.part (parts.Rows c.in-Rows.rows) first c.in-Rows.is c.loop-next.invariant.last in
    let is : AreRowsOf c.args.grounds.table.now c.args.plan c.args.start (length c.args.mask.now) c.in-Rows.rows = subst (IsPartOf c.args.grounds.table.now c.args.plan c.args.start (length c.args.mask.now)) c.in-Rows.is (rw c.len.ensures at c.in-Some.ensures.part) in
    let lt : c.in-Rows.rows.child < c.args.plan = is.lower in
    (omega arith, (is.known, (is.forwards, (is.asked, (is.inside, (held_by c.args.grounds.table.now c.args.grounds.leaves.now.here (Some c.args.grounds.given.now) c.args.grounds.offset c.args.wholes.now.made c.loop-next.wholes.made c.loop-next.invariant.made c.requires.held, inside_ready_by (held_with c.args.grounds c.args.wholes.now) c.in-Rows.rows.child c.in-Rows.rows.start (slice_range c.args.mask.now c.in-Rows.rows.from c.in-Rows.rows.to) c.args.plan c.args.start c.args.mask.now (part_up c.args.grounds.table.now c.shape.ensures.good (Some c.args.grounds.given.now) c.args.plan c.requires.known c.shape.result c.shape.ensures.shape c.args.start c.args.mask.now c.if-selects_none.ensures (parts.Rows c.in-Rows.rows) among) c.requires.ready))))))

pub ready_wholes-ready_zones-requires : goal.ready_wholes-ready_zones-requires
ready_wholes-ready_zones-requires g c =
    let first : parts_left c.args.grounds.table.now c.args.plan c.args.start (length c.args.mask.now) c.loop-next.place ≡ c.in-Some.next.part ∷ parts_left c.args.grounds.table.now c.args.plan c.args.start (length c.args.mask.now) c.in-Some.next.behind = rw c.len.ensures at c.in-Some.ensures.left in
    let among = next_among (parts_of c.args.grounds.table.now c.args.plan c.args.start (length c.args.mask.now)) (parts_left c.args.grounds.table.now c.args.plan c.args.start (length c.args.mask.now) c.loop-next.place) (parts_left c.args.grounds.table.now c.args.plan c.args.start (length c.args.mask.now) c.in-Some.next.behind) c.in-Some.next.part (parts.All c.in-All.child) first c.in-All.is c.loop-next.invariant.last in
    let is : IsPartOf c.args.grounds.table.now c.args.plan c.args.start (length c.args.mask.now) (parts.All c.in-All.child) = subst (IsPartOf c.args.grounds.table.now c.args.plan c.args.start (length c.args.mask.now)) c.in-All.is (rw c.len.ensures at c.in-Some.ensures.part) in
    let lt : c.in-All.child < c.args.plan = is.0 in
    (omega arith, (is.1, (held_by c.args.grounds.table.now c.args.grounds.leaves.now.here (Some c.args.grounds.given.now) c.args.grounds.offset c.args.wholes.now.made c.loop-next.wholes.made c.loop-next.invariant.made c.requires.held, inside_ready_by (held_with c.args.grounds c.args.wholes.now) c.in-All.child 0 (all_rows (node_at c.args.grounds.table.now c.in-All.child).rows) c.args.plan c.args.start c.args.mask.now (part_up c.args.grounds.table.now c.shape.ensures.good (Some c.args.grounds.given.now) c.args.plan c.requires.known c.shape.result c.shape.ensures.shape c.args.start c.args.mask.now c.if-selects_none.ensures (parts.All c.in-All.child) among) c.requires.ready)))

pub ready_wholes-ready_whole-requires-clause-same : goal.ready_wholes-ready_whole-requires-clause-same
ready_wholes-ready_whole-requires-clause-same g c =
    let first : parts_left c.args.grounds.table.now c.args.plan c.args.start (length c.args.mask.now) c.loop-next.place ≡ c.in-Some.next.part ∷ parts_left c.args.grounds.table.now c.args.plan c.args.start (length c.args.mask.now) c.in-Some.next.behind = rw c.len.ensures at c.in-Some.ensures.left in
    let among = next_among (parts_of c.args.grounds.table.now c.args.plan c.args.start (length c.args.mask.now)) (parts_left c.args.grounds.table.now c.args.plan c.args.start (length c.args.mask.now) c.loop-next.place) (parts_left c.args.grounds.table.now c.args.plan c.args.start (length c.args.mask.now) c.in-Some.next.behind) c.in-Some.next.part (parts.Whole c.in-Whole.number c.in-Whole.child) first c.in-Whole.is c.loop-next.invariant.last in
    whole_part c.args.grounds.table.now c.shape.ensures.good c.args.plan c.requires.known c.shape.result c.shape.ensures.shape c.args.start c.args.mask.now c.if-selects_none.ensures c.in-Whole.number c.in-Whole.child among

pub ready_wholes-ready_whole-requires-clause-held : goal.ready_wholes-ready_whole-requires-clause-held
ready_wholes-ready_whole-requires-clause-held g c =
    held_by c.args.grounds.table.now c.args.grounds.leaves.now.here (Some c.args.grounds.given.now) c.args.grounds.offset c.args.wholes.now.made c.loop-next.wholes.made c.loop-next.invariant.made c.requires.held

pub ready_wholes-ready_whole-requires-clause-ready : goal.ready_wholes-ready_whole-requires-clause-ready
ready_wholes-ready_whole-requires-clause-ready g c =
    let first : parts_left c.args.grounds.table.now c.args.plan c.args.start (length c.args.mask.now) c.loop-next.place ≡ c.in-Some.next.part ∷ parts_left c.args.grounds.table.now c.args.plan c.args.start (length c.args.mask.now) c.in-Some.next.behind = rw c.len.ensures at c.in-Some.ensures.left in
    let among = next_among (parts_of c.args.grounds.table.now c.args.plan c.args.start (length c.args.mask.now)) (parts_left c.args.grounds.table.now c.args.plan c.args.start (length c.args.mask.now) c.loop-next.place) (parts_left c.args.grounds.table.now c.args.plan c.args.start (length c.args.mask.now) c.in-Some.next.behind) c.in-Some.next.part (parts.Whole c.in-Whole.number c.in-Whole.child) first c.in-Whole.is c.loop-next.invariant.last in
    whole_ready (held_with c.args.grounds c.args.wholes.now) c.in-Whole.number c.in-Whole.child c.args.plan c.args.start c.args.mask.now (part_up c.args.grounds.table.now c.shape.ensures.good (Some c.args.grounds.given.now) c.args.plan c.requires.known c.shape.result c.shape.ensures.shape c.args.start c.args.mask.now c.if-selects_none.ensures (parts.Whole c.in-Whole.number c.in-Whole.child) among) c.requires.ready

pub ready_wholes-returns-in-Err-clause-made : goal.ready_wholes-returns-in-Err-clause-made
ready_wholes-returns-in-Err-clause-made g c =
    keeps_then c.args.grounds.table.now c.args.grounds.leaves.now.here c.args.grounds.offset c.args.wholes.now.made c.loop-next.wholes.made c.ready_child_rows.new.wholes.made c.loop-next.invariant.made c.ready_child_rows.ensures.made

pub ready_wholes-returns-in-Err-clause-cause : goal.ready_wholes-returns-in-Err-clause-cause
ready_wholes-returns-in-Err-clause-cause g c =
    let first : parts_left c.args.grounds.table.now c.args.plan c.args.start (length c.args.mask.now) c.loop-next.place ≡ c.in-Some.next.part ∷ parts_left c.args.grounds.table.now c.args.plan c.args.start (length c.args.mask.now) c.in-Some.next.behind = rw c.len.ensures at c.in-Some.ensures.left in
    let among = next_among (parts_of c.args.grounds.table.now c.args.plan c.args.start (length c.args.mask.now)) (parts_left c.args.grounds.table.now c.args.plan c.args.start (length c.args.mask.now) c.loop-next.place) (parts_left c.args.grounds.table.now c.args.plan c.args.start (length c.args.mask.now) c.in-Some.next.behind) c.in-Some.next.part (parts.Rows c.in-Rows.rows) first c.in-Rows.is c.loop-next.invariant.last in
    computed_by c.args.grounds.table.now c.args.grounds.leaves.now.here (Some c.args.grounds.given.now) c.args.grounds.offset c.args.wholes.now.made c.loop-next.wholes.made c.loop-next.invariant.made c.args.plan c.args.start c.args.mask.now (Err c.in-Err.error) (error_by (held_with c.args.grounds c.loop-next.wholes) c.in-Rows.rows.child c.in-Rows.rows.start (slice_range c.args.mask.now c.in-Rows.rows.from c.in-Rows.rows.to) c.args.plan c.args.start c.args.mask.now (part_up c.args.grounds.table.now c.shape.ensures.good (Some c.args.grounds.given.now) c.args.plan c.requires.known c.shape.result c.shape.ensures.shape c.args.start c.args.mask.now c.if-selects_none.ensures (parts.Rows c.in-Rows.rows) among) c.in-Err.error c.in-Err.ensures.cause)

pub ready_wholes-returns-in-Err-clause-inside : goal.ready_wholes-returns-in-Err-clause-inside
ready_wholes-returns-in-Err-clause-inside g c =
    let first : parts_left c.args.grounds.table.now c.args.plan c.args.start (length c.args.mask.now) c.loop-next.place ≡ c.in-Some.next.part ∷ parts_left c.args.grounds.table.now c.args.plan c.args.start (length c.args.mask.now) c.in-Some.next.behind = rw c.len.ensures at c.in-Some.ensures.left in
    let among = next_among (parts_of c.args.grounds.table.now c.args.plan c.args.start (length c.args.mask.now)) (parts_left c.args.grounds.table.now c.args.plan c.args.start (length c.args.mask.now) c.loop-next.place) (parts_left c.args.grounds.table.now c.args.plan c.args.start (length c.args.mask.now) c.in-Some.next.behind) c.in-Some.next.part (parts.Rows c.in-Rows.rows) first c.in-Rows.is c.loop-next.invariant.last in
    still_inside c.args.grounds.table.now c.args.grounds.leaves.now.here (Some c.args.grounds.given.now) c.args.grounds.offset c.args.wholes.now.made c.loop-next.wholes.made c.loop-next.invariant.made c.args.plan c.args.start c.args.mask.now c.in-Err.error (inside_by (held_with c.args.grounds c.loop-next.wholes) c.in-Rows.rows.child c.in-Rows.rows.start (slice_range c.args.mask.now c.in-Rows.rows.from c.in-Rows.rows.to) c.args.plan c.args.start c.args.mask.now (part_up c.args.grounds.table.now c.shape.ensures.good (Some c.args.grounds.given.now) c.args.plan c.requires.known c.shape.result c.shape.ensures.shape c.args.start c.args.mask.now c.if-selects_none.ensures (parts.Rows c.in-Rows.rows) among) c.in-Err.error c.in-Err.ensures.inside)

pub ready_wholes-returns-in-Err-clause-asked : goal.ready_wholes-returns-in-Err-clause-asked
ready_wholes-returns-in-Err-clause-asked g c =
    let first : parts_left c.args.grounds.table.now c.args.plan c.args.start (length c.args.mask.now) c.loop-next.place ≡ c.in-Some.next.part ∷ parts_left c.args.grounds.table.now c.args.plan c.args.start (length c.args.mask.now) c.in-Some.next.behind = rw c.len.ensures at c.in-Some.ensures.left in
    let among = next_among (parts_of c.args.grounds.table.now c.args.plan c.args.start (length c.args.mask.now)) (parts_left c.args.grounds.table.now c.args.plan c.args.start (length c.args.mask.now) c.loop-next.place) (parts_left c.args.grounds.table.now c.args.plan c.args.start (length c.args.mask.now) c.in-Some.next.behind) c.in-Some.next.part (parts.Rows c.in-Rows.rows) first c.in-Rows.is c.loop-next.invariant.last in
    asked_then c.args.grounds.table.now c.args.grounds.given.now c.args.plan c.args.start c.args.mask.now c.args.wholes.now c.loop-next.wholes c.ready_child_rows.new.wholes c.loop-next.invariant.asked (asked_by c.args.grounds.table.now c.args.grounds.given.now c.args.plan c.args.start c.args.mask.now (PartAsks c.args.grounds.table.now c.args.grounds.given.now c.args.mask.now (parts.Rows c.in-Rows.rows)) (part_asked c.args.grounds.table.now c.shape.ensures.good c.args.grounds.given.now c.args.plan c.requires.known c.shape.result c.shape.ensures.shape c.args.start c.args.mask.now c.if-selects_none.ensures (parts.Rows c.in-Rows.rows) among) c.loop-next.wholes c.ready_child_rows.new.wholes c.ready_child_rows.ensures.asked.used c.ready_child_rows.ensures.asked.made)

pub ready_wholes-returns-in-Err-ready_zones-clause-made : goal.ready_wholes-returns-in-Err-ready_zones-clause-made
ready_wholes-returns-in-Err-ready_zones-clause-made g c =
    keeps_then c.args.grounds.table.now c.args.grounds.leaves.now.here c.args.grounds.offset c.args.wholes.now.made c.loop-next.wholes.made c.ready_zones.new.wholes.made c.loop-next.invariant.made c.ready_zones.ensures.made

pub ready_wholes-returns-in-Err-ready_zones-clause-cause : goal.ready_wholes-returns-in-Err-ready_zones-clause-cause
ready_wholes-returns-in-Err-ready_zones-clause-cause g c =
    let first : parts_left c.args.grounds.table.now c.args.plan c.args.start (length c.args.mask.now) c.loop-next.place ≡ c.in-Some.next.part ∷ parts_left c.args.grounds.table.now c.args.plan c.args.start (length c.args.mask.now) c.in-Some.next.behind = rw c.len.ensures at c.in-Some.ensures.left in
    let among = next_among (parts_of c.args.grounds.table.now c.args.plan c.args.start (length c.args.mask.now)) (parts_left c.args.grounds.table.now c.args.plan c.args.start (length c.args.mask.now) c.loop-next.place) (parts_left c.args.grounds.table.now c.args.plan c.args.start (length c.args.mask.now) c.in-Some.next.behind) c.in-Some.next.part (parts.All c.in-All.child) first c.in-All.is c.loop-next.invariant.last in
    computed_by c.args.grounds.table.now c.args.grounds.leaves.now.here (Some c.args.grounds.given.now) c.args.grounds.offset c.args.wholes.now.made c.loop-next.wholes.made c.loop-next.invariant.made c.args.plan c.args.start c.args.mask.now (Err c.in-Err-ready_zones.error) (error_by (held_with c.args.grounds c.loop-next.wholes) c.in-All.child 0 (all_rows (node_at c.args.grounds.table.now c.in-All.child).rows) c.args.plan c.args.start c.args.mask.now (part_up c.args.grounds.table.now c.shape.ensures.good (Some c.args.grounds.given.now) c.args.plan c.requires.known c.shape.result c.shape.ensures.shape c.args.start c.args.mask.now c.if-selects_none.ensures (parts.All c.in-All.child) among) c.in-Err-ready_zones.error c.in-Err-ready_zones.ensures.cause)

pub ready_wholes-returns-in-Err-ready_zones-clause-inside : goal.ready_wholes-returns-in-Err-ready_zones-clause-inside
ready_wholes-returns-in-Err-ready_zones-clause-inside g c =
    let first : parts_left c.args.grounds.table.now c.args.plan c.args.start (length c.args.mask.now) c.loop-next.place ≡ c.in-Some.next.part ∷ parts_left c.args.grounds.table.now c.args.plan c.args.start (length c.args.mask.now) c.in-Some.next.behind = rw c.len.ensures at c.in-Some.ensures.left in
    let among = next_among (parts_of c.args.grounds.table.now c.args.plan c.args.start (length c.args.mask.now)) (parts_left c.args.grounds.table.now c.args.plan c.args.start (length c.args.mask.now) c.loop-next.place) (parts_left c.args.grounds.table.now c.args.plan c.args.start (length c.args.mask.now) c.in-Some.next.behind) c.in-Some.next.part (parts.All c.in-All.child) first c.in-All.is c.loop-next.invariant.last in
    still_inside c.args.grounds.table.now c.args.grounds.leaves.now.here (Some c.args.grounds.given.now) c.args.grounds.offset c.args.wholes.now.made c.loop-next.wholes.made c.loop-next.invariant.made c.args.plan c.args.start c.args.mask.now c.in-Err-ready_zones.error (inside_by (held_with c.args.grounds c.loop-next.wholes) c.in-All.child 0 (all_rows (node_at c.args.grounds.table.now c.in-All.child).rows) c.args.plan c.args.start c.args.mask.now (part_up c.args.grounds.table.now c.shape.ensures.good (Some c.args.grounds.given.now) c.args.plan c.requires.known c.shape.result c.shape.ensures.shape c.args.start c.args.mask.now c.if-selects_none.ensures (parts.All c.in-All.child) among) c.in-Err-ready_zones.error c.in-Err-ready_zones.ensures.inside)

pub ready_wholes-returns-in-Err-ready_zones-clause-asked : goal.ready_wholes-returns-in-Err-ready_zones-clause-asked
ready_wholes-returns-in-Err-ready_zones-clause-asked g c =
    let first : parts_left c.args.grounds.table.now c.args.plan c.args.start (length c.args.mask.now) c.loop-next.place ≡ c.in-Some.next.part ∷ parts_left c.args.grounds.table.now c.args.plan c.args.start (length c.args.mask.now) c.in-Some.next.behind = rw c.len.ensures at c.in-Some.ensures.left in
    let among = next_among (parts_of c.args.grounds.table.now c.args.plan c.args.start (length c.args.mask.now)) (parts_left c.args.grounds.table.now c.args.plan c.args.start (length c.args.mask.now) c.loop-next.place) (parts_left c.args.grounds.table.now c.args.plan c.args.start (length c.args.mask.now) c.in-Some.next.behind) c.in-Some.next.part (parts.All c.in-All.child) first c.in-All.is c.loop-next.invariant.last in
    asked_then c.args.grounds.table.now c.args.grounds.given.now c.args.plan c.args.start c.args.mask.now c.args.wholes.now c.loop-next.wholes c.ready_zones.new.wholes c.loop-next.invariant.asked (asked_by c.args.grounds.table.now c.args.grounds.given.now c.args.plan c.args.start c.args.mask.now (PartAsks c.args.grounds.table.now c.args.grounds.given.now c.args.mask.now (parts.All c.in-All.child)) (part_asked c.args.grounds.table.now c.shape.ensures.good c.args.grounds.given.now c.args.plan c.requires.known c.shape.result c.shape.ensures.shape c.args.start c.args.mask.now c.if-selects_none.ensures (parts.All c.in-All.child) among) c.loop-next.wholes c.ready_zones.new.wholes c.ready_zones.ensures.asked.used c.ready_zones.ensures.asked.made)

pub ready_wholes-returns-in-Err-ready_whole-clause-made : goal.ready_wholes-returns-in-Err-ready_whole-clause-made
ready_wholes-returns-in-Err-ready_whole-clause-made g c =
    keeps_then c.args.grounds.table.now c.args.grounds.leaves.now.here c.args.grounds.offset c.args.wholes.now.made c.loop-next.wholes.made c.ready_whole.new.wholes.made c.loop-next.invariant.made c.ready_whole.ensures.made

pub ready_wholes-returns-in-Err-ready_whole-clause-cause : goal.ready_wholes-returns-in-Err-ready_whole-clause-cause
ready_wholes-returns-in-Err-ready_whole-clause-cause g c =
    let first : parts_left c.args.grounds.table.now c.args.plan c.args.start (length c.args.mask.now) c.loop-next.place ≡ c.in-Some.next.part ∷ parts_left c.args.grounds.table.now c.args.plan c.args.start (length c.args.mask.now) c.in-Some.next.behind = rw c.len.ensures at c.in-Some.ensures.left in
    let among = next_among (parts_of c.args.grounds.table.now c.args.plan c.args.start (length c.args.mask.now)) (parts_left c.args.grounds.table.now c.args.plan c.args.start (length c.args.mask.now) c.loop-next.place) (parts_left c.args.grounds.table.now c.args.plan c.args.start (length c.args.mask.now) c.in-Some.next.behind) c.in-Some.next.part (parts.Whole c.in-Whole.number c.in-Whole.child) first c.in-Whole.is c.loop-next.invariant.last in
    computed_by c.args.grounds.table.now c.args.grounds.leaves.now.here (Some c.args.grounds.given.now) c.args.grounds.offset c.args.wholes.now.made c.loop-next.wholes.made c.loop-next.invariant.made c.args.plan c.args.start c.args.mask.now (Err c.in-Err-ready_whole.error) (whole_fails (held_with c.args.grounds c.loop-next.wholes) c.in-Whole.number c.in-Whole.child c.args.plan c.args.start c.args.mask.now (part_up c.args.grounds.table.now c.shape.ensures.good (Some c.args.grounds.given.now) c.args.plan c.requires.known c.shape.result c.shape.ensures.shape c.args.start c.args.mask.now c.if-selects_none.ensures (parts.Whole c.in-Whole.number c.in-Whole.child) among) c.in-Err-ready_whole.error c.in-Err-ready_whole.ensures.cause)

pub ready_wholes-returns-in-Err-ready_whole-clause-inside : goal.ready_wholes-returns-in-Err-ready_whole-clause-inside
ready_wholes-returns-in-Err-ready_whole-clause-inside g c =
    let first : parts_left c.args.grounds.table.now c.args.plan c.args.start (length c.args.mask.now) c.loop-next.place ≡ c.in-Some.next.part ∷ parts_left c.args.grounds.table.now c.args.plan c.args.start (length c.args.mask.now) c.in-Some.next.behind = rw c.len.ensures at c.in-Some.ensures.left in
    let among = next_among (parts_of c.args.grounds.table.now c.args.plan c.args.start (length c.args.mask.now)) (parts_left c.args.grounds.table.now c.args.plan c.args.start (length c.args.mask.now) c.loop-next.place) (parts_left c.args.grounds.table.now c.args.plan c.args.start (length c.args.mask.now) c.in-Some.next.behind) c.in-Some.next.part (parts.Whole c.in-Whole.number c.in-Whole.child) first c.in-Whole.is c.loop-next.invariant.last in
    still_inside c.args.grounds.table.now c.args.grounds.leaves.now.here (Some c.args.grounds.given.now) c.args.grounds.offset c.args.wholes.now.made c.loop-next.wholes.made c.loop-next.invariant.made c.args.plan c.args.start c.args.mask.now c.in-Err-ready_whole.error (whole_inside (held_with c.args.grounds c.loop-next.wholes) c.in-Whole.number c.in-Whole.child c.args.plan c.args.start c.args.mask.now (part_up c.args.grounds.table.now c.shape.ensures.good (Some c.args.grounds.given.now) c.args.plan c.requires.known c.shape.result c.shape.ensures.shape c.args.start c.args.mask.now c.if-selects_none.ensures (parts.Whole c.in-Whole.number c.in-Whole.child) among) c.in-Err-ready_whole.error c.in-Err-ready_whole.ensures.cause)

pub ready_wholes-returns-in-Err-ready_whole-clause-asked : goal.ready_wholes-returns-in-Err-ready_whole-clause-asked
ready_wholes-returns-in-Err-ready_whole-clause-asked g c =
    let first : parts_left c.args.grounds.table.now c.args.plan c.args.start (length c.args.mask.now) c.loop-next.place ≡ c.in-Some.next.part ∷ parts_left c.args.grounds.table.now c.args.plan c.args.start (length c.args.mask.now) c.in-Some.next.behind = rw c.len.ensures at c.in-Some.ensures.left in
    let among = next_among (parts_of c.args.grounds.table.now c.args.plan c.args.start (length c.args.mask.now)) (parts_left c.args.grounds.table.now c.args.plan c.args.start (length c.args.mask.now) c.loop-next.place) (parts_left c.args.grounds.table.now c.args.plan c.args.start (length c.args.mask.now) c.in-Some.next.behind) c.in-Some.next.part (parts.Whole c.in-Whole.number c.in-Whole.child) first c.in-Whole.is c.loop-next.invariant.last in
    asked_then c.args.grounds.table.now c.args.grounds.given.now c.args.plan c.args.start c.args.mask.now c.args.wholes.now c.loop-next.wholes c.ready_whole.new.wholes c.loop-next.invariant.asked (asked_by c.args.grounds.table.now c.args.grounds.given.now c.args.plan c.args.start c.args.mask.now (PartAsks c.args.grounds.table.now c.args.grounds.given.now c.args.mask.now (parts.Whole c.in-Whole.number c.in-Whole.child)) (part_asked c.args.grounds.table.now c.shape.ensures.good c.args.grounds.given.now c.args.plan c.requires.known c.shape.result c.shape.ensures.shape c.args.start c.args.mask.now c.if-selects_none.ensures (parts.Whole c.in-Whole.number c.in-Whole.child) among) c.loop-next.wholes c.ready_whole.new.wholes c.ready_whole.ensures.one.used c.ready_whole.ensures.one.made)

pub ready_wholes-loop-next-preserved : goal.ready_wholes-loop-next-preserved
ready_wholes-loop-next-preserved g c =
    let first : parts_left c.args.grounds.table.now c.args.plan c.args.start (length c.args.mask.now) c.loop-next.place ≡ c.in-Some.next.part ∷ parts_left c.args.grounds.table.now c.args.plan c.args.start (length c.args.mask.now) c.in-Some.next.behind = rw c.len.ensures at c.in-Some.ensures.left in
    elim c.match-next.branch [
      | ready_wholes-in-Rows+in-Ok w ↦
          let among = next_among (parts_of c.args.grounds.table.now c.args.plan c.args.start (length c.args.mask.now)) (parts_left c.args.grounds.table.now c.args.plan c.args.start (length c.args.mask.now) c.loop-next.place) (parts_left c.args.grounds.table.now c.args.plan c.args.start (length c.args.mask.now) c.in-Some.next.behind) c.in-Some.next.part (parts.Rows w.in-Rows.rows) first w.in-Rows.is c.loop-next.invariant.last in
          rw w.wholes-is (record {
            made = keeps_then c.args.grounds.table.now c.args.grounds.leaves.now.here c.args.grounds.offset c.args.wholes.now.made c.loop-next.wholes.made w.ready_child_rows.new.wholes.made c.loop-next.invariant.made w.ready_child_rows.ensures.made;
            used = uses_then c.args.grounds.given.now c.args.wholes.now.used c.loop-next.wholes.used w.ready_child_rows.new.wholes.used c.loop-next.invariant.used w.ready_child_rows.ensures.used;
            last = last_behind (parts_of c.args.grounds.table.now c.args.plan c.args.start (length c.args.mask.now)) (parts_left c.args.grounds.table.now c.args.plan c.args.start (length c.args.mask.now) c.loop-next.place) (parts_left c.args.grounds.table.now c.args.plan c.args.start (length c.args.mask.now) c.in-Some.next.behind) c.in-Some.next.part first c.loop-next.invariant.last;
            there = next_there c.args.grounds.table.now c.args.grounds.leaves.now.here c.args.grounds.offset c.args.grounds.given.now c.args.mask.now c.loop-next.wholes w.ready_child_rows.new.wholes w.ready_child_rows.ensures.made w.ready_child_rows.ensures.used (parts_of c.args.grounds.table.now c.args.plan c.args.start (length c.args.mask.now)) (parts_left c.args.grounds.table.now c.args.plan c.args.start (length c.args.mask.now) c.loop-next.place) (parts_left c.args.grounds.table.now c.args.plan c.args.start (length c.args.mask.now) c.in-Some.next.behind) c.in-Some.next.part (parts.Rows w.in-Rows.rows) first w.in-Rows.is c.loop-next.invariant.there w.in-Ok.ensures.there;
            asked = asked_then c.args.grounds.table.now c.args.grounds.given.now c.args.plan c.args.start c.args.mask.now c.args.wholes.now c.loop-next.wholes w.ready_child_rows.new.wholes c.loop-next.invariant.asked (asked_by c.args.grounds.table.now c.args.grounds.given.now c.args.plan c.args.start c.args.mask.now (PartAsks c.args.grounds.table.now c.args.grounds.given.now c.args.mask.now (parts.Rows w.in-Rows.rows)) (part_asked c.args.grounds.table.now c.shape.ensures.good c.args.grounds.given.now c.args.plan c.requires.known c.shape.result c.shape.ensures.shape c.args.start c.args.mask.now c.if-selects_none.ensures (parts.Rows w.in-Rows.rows) among) c.loop-next.wholes w.ready_child_rows.new.wholes w.ready_child_rows.ensures.asked.used w.ready_child_rows.ensures.asked.made);
          })
      | ready_wholes-in-Whole+in-Ok-ready_whole w ↦
          let among = next_among (parts_of c.args.grounds.table.now c.args.plan c.args.start (length c.args.mask.now)) (parts_left c.args.grounds.table.now c.args.plan c.args.start (length c.args.mask.now) c.loop-next.place) (parts_left c.args.grounds.table.now c.args.plan c.args.start (length c.args.mask.now) c.in-Some.next.behind) c.in-Some.next.part (parts.Whole w.in-Whole.number w.in-Whole.child) first w.in-Whole.is c.loop-next.invariant.last in
          rw w.wholes-is (record {
            made = keeps_then c.args.grounds.table.now c.args.grounds.leaves.now.here c.args.grounds.offset c.args.wholes.now.made c.loop-next.wholes.made w.ready_whole.new.wholes.made c.loop-next.invariant.made w.ready_whole.ensures.made;
            used = uses_then c.args.grounds.given.now c.args.wholes.now.used c.loop-next.wholes.used w.ready_whole.new.wholes.used c.loop-next.invariant.used w.ready_whole.ensures.used;
            last = last_behind (parts_of c.args.grounds.table.now c.args.plan c.args.start (length c.args.mask.now)) (parts_left c.args.grounds.table.now c.args.plan c.args.start (length c.args.mask.now) c.loop-next.place) (parts_left c.args.grounds.table.now c.args.plan c.args.start (length c.args.mask.now) c.in-Some.next.behind) c.in-Some.next.part first c.loop-next.invariant.last;
            there = next_there c.args.grounds.table.now c.args.grounds.leaves.now.here c.args.grounds.offset c.args.grounds.given.now c.args.mask.now c.loop-next.wholes w.ready_whole.new.wholes w.ready_whole.ensures.made w.ready_whole.ensures.used (parts_of c.args.grounds.table.now c.args.plan c.args.start (length c.args.mask.now)) (parts_left c.args.grounds.table.now c.args.plan c.args.start (length c.args.mask.now) c.loop-next.place) (parts_left c.args.grounds.table.now c.args.plan c.args.start (length c.args.mask.now) c.in-Some.next.behind) c.in-Some.next.part (parts.Whole w.in-Whole.number w.in-Whole.child) first w.in-Whole.is c.loop-next.invariant.there (λ m same. subst (IsThere c.args.grounds.given.now w.ready_whole.new.wholes) same w.in-Ok-ready_whole.ensures.there);
            asked = asked_then c.args.grounds.table.now c.args.grounds.given.now c.args.plan c.args.start c.args.mask.now c.args.wholes.now c.loop-next.wholes w.ready_whole.new.wholes c.loop-next.invariant.asked (asked_by c.args.grounds.table.now c.args.grounds.given.now c.args.plan c.args.start c.args.mask.now (PartAsks c.args.grounds.table.now c.args.grounds.given.now c.args.mask.now (parts.Whole w.in-Whole.number w.in-Whole.child)) (part_asked c.args.grounds.table.now c.shape.ensures.good c.args.grounds.given.now c.args.plan c.requires.known c.shape.result c.shape.ensures.shape c.args.start c.args.mask.now c.if-selects_none.ensures (parts.Whole w.in-Whole.number w.in-Whole.child) among) c.loop-next.wholes w.ready_whole.new.wholes w.ready_whole.ensures.one.used w.ready_whole.ensures.one.made);
          })
      | ready_wholes-in-All+in-Ok-ready_zones w ↦
          let among = next_among (parts_of c.args.grounds.table.now c.args.plan c.args.start (length c.args.mask.now)) (parts_left c.args.grounds.table.now c.args.plan c.args.start (length c.args.mask.now) c.loop-next.place) (parts_left c.args.grounds.table.now c.args.plan c.args.start (length c.args.mask.now) c.in-Some.next.behind) c.in-Some.next.part (parts.All w.in-All.child) first w.in-All.is c.loop-next.invariant.last in
          rw w.wholes-is (record {
            made = keeps_then c.args.grounds.table.now c.args.grounds.leaves.now.here c.args.grounds.offset c.args.wholes.now.made c.loop-next.wholes.made w.ready_zones.new.wholes.made c.loop-next.invariant.made w.ready_zones.ensures.made;
            used = uses_then c.args.grounds.given.now c.args.wholes.now.used c.loop-next.wholes.used w.ready_zones.new.wholes.used c.loop-next.invariant.used w.ready_zones.ensures.used;
            last = last_behind (parts_of c.args.grounds.table.now c.args.plan c.args.start (length c.args.mask.now)) (parts_left c.args.grounds.table.now c.args.plan c.args.start (length c.args.mask.now) c.loop-next.place) (parts_left c.args.grounds.table.now c.args.plan c.args.start (length c.args.mask.now) c.in-Some.next.behind) c.in-Some.next.part first c.loop-next.invariant.last;
            there = next_there c.args.grounds.table.now c.args.grounds.leaves.now.here c.args.grounds.offset c.args.grounds.given.now c.args.mask.now c.loop-next.wholes w.ready_zones.new.wholes w.ready_zones.ensures.made w.ready_zones.ensures.used (parts_of c.args.grounds.table.now c.args.plan c.args.start (length c.args.mask.now)) (parts_left c.args.grounds.table.now c.args.plan c.args.start (length c.args.mask.now) c.loop-next.place) (parts_left c.args.grounds.table.now c.args.plan c.args.start (length c.args.mask.now) c.in-Some.next.behind) c.in-Some.next.part (parts.All w.in-All.child) first w.in-All.is c.loop-next.invariant.there w.in-Ok-ready_zones.ensures.there;
            asked = asked_then c.args.grounds.table.now c.args.grounds.given.now c.args.plan c.args.start c.args.mask.now c.args.wholes.now c.loop-next.wholes w.ready_zones.new.wholes c.loop-next.invariant.asked (asked_by c.args.grounds.table.now c.args.grounds.given.now c.args.plan c.args.start c.args.mask.now (PartAsks c.args.grounds.table.now c.args.grounds.given.now c.args.mask.now (parts.All w.in-All.child)) (part_asked c.args.grounds.table.now c.shape.ensures.good c.args.grounds.given.now c.args.plan c.requires.known c.shape.result c.shape.ensures.shape c.args.start c.args.mask.now c.if-selects_none.ensures (parts.All w.in-All.child) among) c.loop-next.wholes w.ready_zones.new.wholes w.ready_zones.ensures.asked.used w.ready_zones.ensures.asked.made);
          })
    ]

pub ready_wholes-returns-clause-there : goal.ready_wholes-returns-clause-there
ready_wholes-returns-clause-there g c =
    all_there c.args.grounds.table.now c.shape.ensures.good c.args.grounds.given.now c.args.plan c.requires.known c.shape.result c.shape.ensures.shape c.args.start c.args.mask.now c.if-selects_none.ensures c.loop-next.wholes (parts_left c.args.grounds.table.now c.args.plan c.args.start (length c.args.mask.now) c.loop-next.place) (rw c.len.ensures at c.in_default-next_part.ensures) c.loop-next.invariant.there

pub ready_child_rows-ready_wholes-requires : goal.ready_child_rows-ready_wholes-requires
ready_child_rows-ready_wholes-requires g c =
    let same : slice_range c.args.mask.now c.args.rows.from c.args.rows.to ≡ c.args.mask.now = sym (all_rows_taken c.args.mask.now c.args.rows.from c.args.rows.to (omega arith) (omega arith)) in
    (omega arith, (c.requires.known, (omega arith, (c.requires.held, rw same at c.requires.ready))))

pub ready_child_rows-returns-then-rows-len-clause-there : goal.ready_child_rows-returns-then-rows-len-clause-there
ready_child_rows-returns-then-rows-len-clause-there g c =
    let same : slice_range c.args.mask.now c.args.rows.from c.args.rows.to ≡ c.args.mask.now = sym (all_rows_taken c.args.mask.now c.args.rows.from c.args.rows.to (omega arith) (omega arith)) in
    rw same c.ready_wholes.ensures.there

pub ready_child_rows-returns-then-rows-len-clause-asked : goal.ready_child_rows-returns-then-rows-len-clause-asked
ready_child_rows-returns-then-rows-len-clause-asked g c =
    let same : slice_range c.args.mask.now c.args.rows.from c.args.rows.to ≡ c.args.mask.now = sym (all_rows_taken c.args.mask.now c.args.rows.from c.args.rows.to (omega arith) (omega arith)) in
    rw same c.ready_wholes.ensures.asked

pub ready_child_rows-returns-then-rows-len-clause-cause : goal.ready_child_rows-returns-then-rows-len-clause-cause
ready_child_rows-returns-then-rows-len-clause-cause g c =
    let same : slice_range c.args.mask.now c.args.rows.from c.args.rows.to ≡ c.args.mask.now = sym (all_rows_taken c.args.mask.now c.args.rows.from c.args.rows.to (omega arith) (omega arith)) in
    rw same c.ready_wholes.ensures.cause

pub ready_child_rows-returns-then-rows-len-clause-inside : goal.ready_child_rows-returns-then-rows-len-clause-inside
ready_child_rows-returns-then-rows-len-clause-inside g c =
    let same : slice_range c.args.mask.now c.args.rows.from c.args.rows.to ≡ c.args.mask.now = sym (all_rows_taken c.args.mask.now c.args.rows.from c.args.rows.to (omega arith) (omega arith)) in
    rw same c.ready_wholes.ensures.inside

pub ready_child_rows-returns-then-asks_none-clause-there : goal.ready_child_rows-returns-then-asks_none-clause-there
ready_child_rows-returns-then-asks_none-clause-there g c =
    λ n asks. absurd (c.if-asks_none.ensures refl c.args.grounds.given.now c.args.rows.start (slice_range c.args.mask.now c.args.rows.from c.args.rows.to) n asks)

pub ready_zones-ready_wholes-requires : goal.ready_zones-ready_wholes-requires
ready_zones-ready_wholes-requires g c =
    let bits : c.in_ok-all.all ≡ all_rows (node_at c.args.grounds.table.now c.args.plan).rows = c.in_ok-all.ensures ∙ ap (λ (rows : ℕ). replicate rows true) c.row_count.ensures in
    let long : length c.in_ok-all.all ≡ (node_at c.args.grounds.table.now c.args.plan).rows = ap length bits ∙ length-replicate (node_at c.args.grounds.table.now c.args.plan).rows true in
    (omega arith, (c.requires.known, (omega arith, (c.requires.held, subst (AreReadyInside (held_with c.args.grounds c.args.wholes.now) c.args.plan 0) (sym bits) c.requires.ready))))

pub ready_zones-returns-then-asks_none-clause-there : goal.ready_zones-returns-then-asks_none-clause-there
ready_zones-returns-then-asks_none-clause-there g c =
    λ n asks. absurd (c.if-asks_none.ensures refl c.args.grounds.given.now 0 (all_rows (node_at c.args.grounds.table.now c.args.plan).rows) n asks)

pub ready_zones-returns-clause-there : goal.ready_zones-returns-clause-there
ready_zones-returns-clause-there g c =
    let bits : c.in_ok-all.all ≡ all_rows (node_at c.args.grounds.table.now c.args.plan).rows = c.in_ok-all.ensures ∙ ap (λ (rows : ℕ). replicate rows true) c.row_count.ensures in
    rw (← bits) c.ready_wholes.ensures.there

pub ready_zones-returns-clause-asked : goal.ready_zones-returns-clause-asked
ready_zones-returns-clause-asked g c =
    let bits : c.in_ok-all.all ≡ all_rows (node_at c.args.grounds.table.now c.args.plan).rows = c.in_ok-all.ensures ∙ ap (λ (rows : ℕ). replicate rows true) c.row_count.ensures in
    rw (← bits) c.ready_wholes.ensures.asked

pub ready_zones-returns-clause-cause : goal.ready_zones-returns-clause-cause
ready_zones-returns-clause-cause g c =
    let bits : c.in_ok-all.all ≡ all_rows (node_at c.args.grounds.table.now c.args.plan).rows = c.in_ok-all.ensures ∙ ap (λ (rows : ℕ). replicate rows true) c.row_count.ensures in
    rw (← bits) c.ready_wholes.ensures.cause

pub ready_zones-returns-clause-inside : goal.ready_zones-returns-clause-inside
ready_zones-returns-clause-inside g c =
    let bits : c.in_ok-all.all ≡ all_rows (node_at c.args.grounds.table.now c.args.plan).rows = c.in_ok-all.ensures ∙ ap (λ (rows : ℕ). replicate rows true) c.row_count.ensures in
    rw (← bits) c.ready_wholes.ensures.inside
