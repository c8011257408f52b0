use Rattle.std.proofs.Common.{◌≡◌, ℕ, ◌+◌, ◌∷◌, ◌∙◌, List, Bool, true, length, replicate, ap, subst, arith}
use Rattle.std.specs.Prelude.{slice_range}
use Rattle.std.proofs.lemmas.Result.{on_ok_weaker}
use Rattle.vx_plan.specs.declared.parts.Part.{Part}
use Rattle.vx_plan.specs.Parts.{parts_left, parts_of, IsPartOf}
use Rattle.vx_plan.specs.Reaches.{all_rows}
use Rattle.vx_plan.specs.Rules.{node_at}
use Rattle.vx_steps.specs.declared.placed_reads.Ends.{Ends}
use Rattle.vx_steps.specs.declared.placed_reads.Spot.{Spot}
use Rattle.vx_steps.specs.declared.placed_reads.Spot.TheVariants.{Whichever}
use Rattle.vx_steps.specs.Placed.{moved, AddsPlaced, AddsUnder, AskForNone}
use Rattle.vx_steps.proofs.PlacedAsking.{all_ask_none, all_rows_ask_none, leaf_asks_none, leaf_under_asks_none, none_ask_none, rows_ask_none, zones_ask_none}
use Rattle.vx_steps.proofs.PlacedLeaves.{all_placed, ends_placed}
use Rattle.vx_steps.proofs.Placing.{placed_done, rows_so_far, whole_so_far, zones_so_far}
use Rattle.vx_steps.proofs.placed_reads.+placed_reads.Goals.{add_placed-in-All+in_ok-add_placed_zones-in-All, add_placed-in-Rows+in_ok-add_placed_rows-in-Rows, add_placed-in-Whole+in_ok-add_under-in-Whole}
use Rattle.vx_steps.proofs.placed_reads.+placed_reads.Goals as goal

pub add_placed-returns-in-None-clause-asks : goal.add_placed-returns-in-None-clause-asks
add_placed-returns-in-None-clause-asks t c = λ is. (is, none_ask_none c.args.table.now c.args.given.now c.args.plan c.args.start c.args.mask.now c.in-None.ensures)

pub add_placed-returns-in-Leaf-clause-added : goal.add_placed-returns-in-Leaf-clause-added
add_placed-returns-in-Leaf-clause-added t c =
    let nodes = c.args.table.now in
    on_ok_weaker c.add_need.result (λ items. ends_placed nodes c.args.given.now c.args.plan c.in-Leaf.segment c.args.start c.args.mask.now c.args.spot c.in-Some.ends c.ends_at-ends.result c.in-Some.ensures c.ends_at-ends.ensures c.args.needs.now.items c.add_need.new.needs.items items c.requires.known c.in-Leaf.ensures.shape) c.add_need.ensures

pub add_placed-returns-in-Leaf-clause-asks : goal.add_placed-returns-in-Leaf-clause-asks
add_placed-returns-in-Leaf-clause-asks t c = on_ok_weaker c.add_need.result (λ items is. (is, leaf_asks_none c.args.table.now c.args.given.now c.args.plan c.in-Leaf.segment c.args.start c.args.mask.now c.requires.known c.in-Leaf.ensures.shape)) c.add_need.ensures

pub add_placed-loop-next-preserved : goal.add_placed-loop-next-preserved
add_placed-loop-next-preserved t c =
    let nodes = c.args.table.now in
    let all = parts_of nodes c.args.plan c.args.start (length c.args.mask.now) in
    let left = parts_left nodes c.args.plan c.args.start (length c.args.mask.now) c.loop-next.place in
    let behind = parts_left nodes c.args.plan c.args.start (length c.args.mask.now) c.in-Some-next_part.next.behind in
    let first : left ≡ c.in-Some-next_part.next.part ∷ behind = rw c.len.ensures at c.in-Some-next_part.ensures.left in
    let Fits : Part → Type 0 = IsPartOf nodes c.args.plan c.args.start c.len.result in
    elim c.match-next.branch [
      | add_placed-in-Rows+in_ok-add_placed_rows-in-Rows w ↦
          rw (w.needs-is, w.asks-is) (record {
            placed = rows_so_far nodes c.shape.ensures.good c.args.given.now c.args.plan c.requires.known c.shape.result c.shape.ensures.shape c.args.start c.args.mask.now c.args.spot left behind c.in-Some-next_part.next.part w.in-Rows.rows first w.in-Rows.is (subst Fits w.in-Rows.is c.in-Some-next_part.ensures.part).forwards c.args.needs.now.items c.loop-next.needs.items w.add_placed_rows.new.needs.items c.loop-next.invariant.placed w.in_ok-add_placed_rows-in-Rows.ensures.added;
            asks = λ is.
                let here = w.in_ok-add_placed_rows-in-Rows.ensures.asks is in
                let far = c.loop-next.invariant.asks here.0 in
                (far.0, rows_ask_none nodes c.args.given.now c.args.mask.now all left behind c.in-Some-next_part.next.part w.in-Rows.rows first w.in-Rows.is here.1 far.1);
          })
      | add_placed-in-All+in_ok-add_placed_zones-in-All w ↦
          let Zones : Ends → Type 0 = λ ends. AddsPlaced nodes c.args.given.now w.in-All.child 0 (all_rows (node_at nodes w.in-All.child).rows) (Whichever ends) c.loop-next.needs.items w.add_placed_zones.new.needs.items in
          rw (w.needs-is, w.asks-is) (record {
            placed = zones_so_far nodes c.shape.ensures.good c.args.given.now c.args.plan c.requires.known c.shape.result c.shape.ensures.shape c.args.start c.args.mask.now c.in-Some.ends c.in-Some.ensures c.args.spot left behind c.in-Some-next_part.next.part w.in-All.child first w.in-All.is c.args.needs.now.items c.loop-next.needs.items w.add_placed_zones.new.needs.items c.loop-next.invariant.placed (subst Zones c.ends_at-ends.ensures w.in_ok-add_placed_zones-in-All.ensures.added);
            asks = λ is.
                let here = w.in_ok-add_placed_zones-in-All.ensures.asks is in
                let far = c.loop-next.invariant.asks here.0 in
                (far.0, zones_ask_none nodes c.args.given.now c.args.mask.now all left behind c.in-Some-next_part.next.part w.in-All.child first w.in-All.is here.1 far.1);
          })
      | add_placed-in-Whole+in_ok-add_under-in-Whole w ↦
          let Under : Ends → Type 0 = λ ends. AddsUnder nodes c.args.given.now w.in-Whole.whole w.in-Whole.child ends.last c.loop-next.needs.items w.add_under.new.needs.items in
          rw (w.needs-is, w.asks-is) (record {
            placed = whole_so_far nodes c.shape.ensures.good c.args.given.now c.args.plan c.requires.known c.shape.result c.shape.ensures.shape c.args.start c.args.mask.now c.in-Some.ends c.in-Some.ensures c.args.spot left behind c.in-Some-next_part.next.part w.in-Whole.whole w.in-Whole.child first w.in-Whole.is c.args.needs.now.items c.loop-next.needs.items w.add_under.new.needs.items c.loop-next.invariant.placed (subst Under c.ends_at-ends.ensures w.in_ok-add_under-in-Whole.ensures);
            asks = λ is. absurd cc;
          })
    ]

pub add_placed-returns-clause-added : goal.add_placed-returns-clause-added
add_placed-returns-clause-added t c =
    placed_done c.args.table.now c.shape.ensures.good c.args.given.now c.args.plan c.requires.known c.shape.result c.shape.ensures.shape c.in_default.not-Leaf c.args.start c.args.mask.now c.args.spot (parts_left c.args.table.now c.args.plan c.args.start (length c.args.mask.now) c.loop-next.place) (rw c.len.ensures at c.in_default-next_part.ensures) c.args.needs.now.items c.loop-next.needs.items c.loop-next.invariant.placed

pub add_placed-returns-clause-asks : goal.add_placed-returns-clause-asks
add_placed-returns-clause-asks t c = λ is.
    let far = c.loop-next.invariant.asks is in (
      far.0,
      all_ask_none c.args.table.now c.shape.ensures.good c.args.given.now c.args.plan c.requires.known c.shape.result c.shape.ensures.shape c.args.start c.args.mask.now c.in-Some.ends c.in-Some.ensures (parts_left c.args.table.now c.args.plan c.args.start (length c.args.mask.now) c.loop-next.place) (rw c.len.ensures at c.in_default-next_part.ensures) far.1,
    )

pub add_placed_rows-returns-in-Some-clause-added : goal.add_placed_rows-returns-in-Some-clause-added
add_placed_rows-returns-in-Some-clause-added t c = on_ok_weaker c.add_leaf_rows.result (λ adds. adds c.args.table.now c.args.given.now c.requires.known c.in-Some.ensures) c.add_leaf_rows.ensures

pub add_placed_rows-returns-in-Some-clause-asks : goal.add_placed_rows-returns-in-Some-clause-asks
add_placed_rows-returns-in-Some-clause-asks t c =
    on_ok_weaker c.add_leaf_rows.result (λ adds is. (is, leaf_under_asks_none c.args.table.now c.args.given.now c.args.rows.child c.in-Some.leaf c.args.rows.start (slice_range c.args.mask.now c.args.rows.from c.args.rows.to) c.requires.known c.in-Some.ensures)) c.add_leaf_rows.ensures

pub add_placed_rows-returns-then-rows-len-clause-added : goal.add_placed_rows-returns-then-rows-len-clause-added
add_placed_rows-returns-then-rows-len-clause-added t c =
    on_ok_weaker c.add_placed.result (all_placed c.args.table.now c.args.given.now c.args.rows.child c.args.rows.start c.args.mask.now c.args.spot c.args.rows.from c.args.rows.to (omega arith) (omega arith) c.args.needs.now.items c.add_placed.new.needs.items) c.add_placed.ensures.added

pub add_placed_rows-returns-then-rows-len-clause-asks : goal.add_placed_rows-returns-then-rows-len-clause-asks
add_placed_rows-returns-then-rows-len-clause-asks t c =
    let whole : AskForNone c.args.table.now c.args.given.now c.args.rows.child c.args.rows.start c.args.mask.now → AskForNone c.args.table.now c.args.given.now c.args.rows.child c.args.rows.start (slice_range c.args.mask.now c.args.rows.from c.args.rows.to) = all_rows_ask_none c.args.table.now c.args.given.now c.args.rows.child c.args.rows.start c.args.mask.now c.args.rows.from c.args.rows.to (omega arith) (omega arith) in
    on_ok_weaker c.add_placed.result (λ asked is. ((asked is).0, whole (asked is).1)) c.add_placed.ensures.asks

pub add_placed_rows-returns-clause-added : goal.add_placed_rows-returns-clause-added
add_placed_rows-returns-clause-added t c =
    on_ok_weaker c.add_placed-2.result (λ h. let F : List Bool → Type 0 = λ bits. AddsPlaced c.args.table.now c.args.given.now c.args.rows.child c.args.rows.start bits (moved c.args.spot c.args.rows.from) c.args.needs.now.items c.add_placed-2.new.needs.items in let G : Spot → Type 0 = λ spot. AddsPlaced c.args.table.now c.args.given.now c.args.rows.child c.args.rows.start c.in_ok-some.some spot c.args.needs.now.items c.add_placed-2.new.needs.items in subst F c.in_ok-some.ensures (subst G c.moved-behind.ensures h)) c.add_placed-2.ensures.added

pub add_placed_rows-returns-clause-asks : goal.add_placed_rows-returns-clause-asks
add_placed_rows-returns-clause-asks t c =
    let F : List Bool → Type 0 = AskForNone c.args.table.now c.args.given.now c.args.rows.child c.args.rows.start in
    on_ok_weaker c.add_placed-2.result (λ asked is. ((asked is).0, subst F c.in_ok-some.ensures (asked is).1)) c.add_placed-2.ensures.asks

pub add_placed_zones-returns-clause-added : goal.add_placed_zones-returns-clause-added
add_placed_zones-returns-clause-added t c =
    let bits : c.in_ok-zones.zones ≡ all_rows (node_at c.args.table.now c.args.plan).rows = c.in_ok-zones.ensures ∙ ap (λ (rows : ℕ). replicate rows true) c.row_count.ensures in
    let F : List Bool → Type 0 = λ b. AddsPlaced c.args.table.now c.args.given.now c.args.plan 0 b (Whichever c.args.ends) c.args.needs.now.items c.add_placed.new.needs.items in
    on_ok_weaker c.add_placed.result (λ h. subst F bits h) c.add_placed.ensures.added

pub add_placed_zones-returns-clause-asks : goal.add_placed_zones-returns-clause-asks
add_placed_zones-returns-clause-asks t c =
    let bits : c.in_ok-zones.zones ≡ all_rows (node_at c.args.table.now c.args.plan).rows = c.in_ok-zones.ensures ∙ ap (λ (rows : ℕ). replicate rows true) c.row_count.ensures in
    let F : List Bool → Type 0 = AskForNone c.args.table.now c.args.given.now c.args.plan 0 in
    on_ok_weaker c.add_placed.result (λ asked is. ((asked is).0, subst F bits (asked is).1)) c.add_placed.ensures.asks
