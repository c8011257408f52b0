use Rattle.std.proofs.Common.{◌≡◌, List, Bool, ap, ◌∙◌}
use Rattle.std.specs.Prelude.{slice_range}
use Rattle.std.proofs.lemmas.Result.{on_ok_weaker}
use Rattle.vx_steps.specs.declared.placed_reads.Spot.{Spot}
use Rattle.vx_steps.specs.Placed.{ends_at, moved}
use Rattle.vx_steps.proofs.PlacedLeaves.{leaf_under_placed, none_placed}
use Rattle.vx_steps.proofs.placed_reads.add_leaf_rows.Goals as goal

pub returns-in-Ok-Some : goal.returns-in-Ok-Some
returns-in-Ok-Some c =
    let bits : List Bool = slice_range c.args.mask.now c.args.rows.from c.args.rows.to in
    let are = rw c.in-Ok-Some.field-0-is at c.in-Ok-Some.ensures in
    let at : c.ends_at-ends.result ≡ ends_at (moved c.args.spot c.args.rows.from) c.in-Ok-Some.ends = c.ends_at-ends.ensures ∙ ap (λ (spot : Spot). ends_at spot c.in-Ok-Some.ends) c.moved-behind.ensures in
    on_ok_weaker c.add_need.result (λ items nodes given known under. leaf_under_placed nodes given c.args.rows.child c.args.leaf c.args.rows.start bits (moved c.args.spot c.args.rows.from) c.in-Ok-Some.ends c.ends_at-ends.result are at c.args.needs.now.items c.add_need.new.needs.items items known under) c.add_need.ensures

pub returns-in-Ok-None : goal.returns-in-Ok-None
returns-in-Ok-None c =
    let none = rw c.in-Ok-None.field-0-is at c.in-Ok-None.ensures in
    λ nodes given known has. none_placed nodes given c.args.rows.child c.args.rows.start (slice_range c.args.mask.now c.args.rows.from c.args.rows.to) (moved c.args.spot c.args.rows.from) none c.args.needs.now.items
