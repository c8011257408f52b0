use Rattle.std.proofs.Common.{arith, [], ◌∷◌, ◌≡◌, ◌∙◌, ℕ, Bool, true, List, length, replicate, refl, ap, subst}
use Rattle.std.specs.Prelude.{slice_range}
use Rattle.std.proofs.lemmas.Result.{on_ok_weaker}
use Rattle.vx_plan.specs.declared.parts.Part.TheVariants as parts
use Rattle.vx_plan.specs.Parts.{parts_left, parts_of}
use Rattle.vx_plan.specs.Reaches.{all_rows}
use Rattle.vx_plan.specs.Rules.{node_at}
use Rattle.vx_steps.specs.Needs.{Adds}
use Rattle.vx_steps.specs.Wholes.{Asks}
use Rattle.vx_steps.proofs.AskedPlans.{next_asked, none_asked, parts_done, parts_give}
use Rattle.vx_steps.proofs.Parts.{all_rows_taken}
use Rattle.vx_steps.proofs.PartsAsking.{PartsAsk}
use Rattle.vx_steps.proofs.Selecting.{adds_one}
use Rattle.vx_steps.proofs.asked.+asked.Goals.{add_asked-in-All+in_ok-add_zones_asked-in-All, add_asked-in-Rows+in_ok-add_rows_asked-in-Rows, add_asked-in-Whole+in_ok-push-in-Whole}
use Rattle.vx_steps.proofs.asked.+asked.Goals as goal

pub add_asked-loop-next-preserved : goal.add_asked-loop-next-preserved
add_asked-loop-next-preserved g c =
    let nodes = c.args.table.now in
    let left = parts_left nodes c.args.plan c.args.start (length c.args.mask.now) c.loop-next.place in
    let behind = parts_left nodes c.args.plan c.args.start (length c.args.mask.now) c.in-Some.next.behind in
    let Goal : List ℕ → Type 0 = λ new. Adds (PartsAsk nodes [] c.args.mask.now (parts_of nodes c.args.plan c.args.start (length c.args.mask.now))) c.args.asked.now.items new in
    let first : left ≡ c.in-Some.next.part ∷ behind = rw c.len.ensures at c.in-Some.ensures.left in
    elim c.match-next.branch [
      | add_asked-in-Rows+in_ok-add_rows_asked-in-Rows w ↦ rw w.asked-is (next_asked nodes c.args.mask.now left behind c.in-Some.next.part (parts.Rows w.in-Rows.rows) first w.in-Rows.is Goal c.loop-next.asked.items w.add_rows_asked.new.asked.items c.loop-next.invariant w.in_ok-add_rows_asked-in-Rows.ensures)
      | add_asked-in-All+in_ok-add_zones_asked-in-All w ↦ rw w.asked-is (next_asked nodes c.args.mask.now left behind c.in-Some.next.part (parts.All w.in-All.child) first w.in-All.is Goal c.loop-next.asked.items w.add_zones_asked.new.asked.items c.loop-next.invariant w.in_ok-add_zones_asked-in-All.ensures)
      | add_asked-in-Whole+in_ok-push-in-Whole w ↦ rw (w.asked-is, w.in_ok-push-in-Whole.ensures.items) (next_asked nodes c.args.mask.now left behind c.in-Some.next.part (parts.Whole w.in-Whole.whole w.in-Whole.field-1) first w.in-Whole.is Goal c.loop-next.asked.items _ c.loop-next.invariant (adds_one w.in-Whole.whole c.loop-next.asked.items))
    ]

pub add_asked-returns : goal.add_asked-returns
add_asked-returns g c =
    let nodes = c.args.table.now in
    let Goal : List ℕ → Type 0 = λ new. Adds (PartsAsk nodes [] c.args.mask.now (parts_of nodes c.args.plan c.args.start (length c.args.mask.now))) c.args.asked.now.items new in
    parts_give nodes c.shape.ensures.good c.args.plan c.requires.known c.shape.result c.shape.ensures.shape c.args.start c.args.mask.now c.if-selects_none.ensures c.args.asked.now.items c.loop-next.asked.items
    (parts_done nodes c.args.mask.now (parts_left nodes c.args.plan c.args.start (length c.args.mask.now) c.loop-next.place) (rw c.len.ensures at c.in_default-next_part.ensures) Goal c.loop-next.asked.items c.loop-next.invariant)

pub add_rows_asked-returns-then-rows-len : goal.add_rows_asked-returns-then-rows-len
add_rows_asked-returns-then-rows-len g c =
    let same : c.args.mask.now ≡ slice_range c.args.mask.now c.args.rows.from c.args.rows.to = all_rows_taken c.args.mask.now c.args.rows.from c.args.rows.to (omega arith) (omega arith) in
    let F : List Bool → Type 0 = λ bits. Adds (Asks c.args.table.now [] c.args.rows.child c.args.rows.start bits) c.args.asked.now.items c.add_asked.new.asked.items in
    on_ok_weaker c.add_asked.result (λ h. subst F same h) c.add_asked.ensures

pub add_rows_asked-returns-then-asks_none : goal.add_rows_asked-returns-then-asks_none
add_rows_asked-returns-then-asks_none g c = none_asked c.args.table.now c.args.rows.child c.args.rows.start (slice_range c.args.mask.now c.args.rows.from c.args.rows.to) (c.if-asks_none.ensures refl) c.args.asked.now.items

pub add_zones_asked-returns-then-asks_none : goal.add_zones_asked-returns-then-asks_none
add_zones_asked-returns-then-asks_none g c = none_asked c.args.table.now c.args.plan 0 (all_rows (node_at c.args.table.now c.args.plan).rows) (c.if-asks_none.ensures refl) c.args.asked.now.items

pub add_zones_asked-returns : goal.add_zones_asked-returns
add_zones_asked-returns g c =
    let bits : c.in_ok-all.all ≡ all_rows (node_at c.args.table.now c.args.plan).rows = c.in_ok-all.ensures ∙ ap (λ (rows : ℕ). replicate rows true) c.row_count.ensures in
    let F : List Bool → Type 0 = λ b. Adds (Asks c.args.table.now [] c.args.plan 0 b) c.args.asked.now.items c.add_asked.new.asked.items in
    on_ok_weaker c.add_asked.result (λ h. subst F bits h) c.add_asked.ensures
