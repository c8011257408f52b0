use Rattle.std.proofs.Common.{arith, ◌≡◌, ℕ, ◌∷◌, List, Bool, Option, None, true, replicate, ap, ◌∙◌, subst, length}
use Rattle.std.specs.Prelude.{option_map, slice_range}
use Rattle.std.proofs.lemmas.Result.{on_ok_weaker}
use Rattle.vx_plan.specs.declared.parts.Part.TheVariants as parts
use Rattle.vx_plan.specs.Parts.{parts_left, parts_of}
use Rattle.vx_plan.specs.Reaches.{all_rows}
use Rattle.vx_plan.specs.Rules.{node_at}
use Rattle.vx_steps.specs.declared.leaf_reads.LeafRead.{LeafRead}
use Rattle.vx_steps.specs.Given.{handed_by}
use Rattle.vx_steps.specs.KeptData.{Kept}
use Rattle.vx_steps.specs.Needs.{Adds}
use Rattle.vx_steps.specs.PartVisits.{PartsVisit}
use Rattle.vx_steps.specs.Visits.{IsLeafRead}
use Rattle.vx_steps.proofs.Parts.{all_rows_taken, next_adds, parts_done, parts_read}
use Rattle.vx_steps.proofs.Selecting.{Reads, leaf_reads, whole_reads}
use Rattle.vx_steps.proofs.Shaping.{leaf_plan}
use Rattle.vx_steps.proofs.leaf_reads.+leaf_reads.Goals.{add_reads-in-All+in_ok-add_all_reads-in-All, add_reads-in-Rows+in_ok-add_row_reads-in-Rows, add_reads-in-Whole+in_ok-add_whole_reads-in-Whole}
use Rattle.vx_steps.proofs.leaf_reads.+leaf_reads.Goals as goal

pub add_reads-returns-in-Leaf-clause-added : goal.add_reads-returns-in-Leaf-clause-added
add_reads-returns-in-Leaf-clause-added g c =
    let handed = handed_by c.args.table.now (option_map (λ kept. kept.now) c.args.given) in
    let added = leaf_reads c.args.table.now handed c.args.plan c.in-Leaf.segment c.args.start c.args.mask.now (leaf_plan c.args.table.now c.args.plan c.in-Leaf.segment c.requires.known c.in-Leaf.ensures.shape) c.if-selects_none.ensures c.args.reads.now.items in
    on_ok_weaker c.add_leaf.result (λ items. rw items added) c.add_leaf.ensures

pub add_reads-loop-next-preserved : goal.add_reads-loop-next-preserved
add_reads-loop-next-preserved g c =
    let nodes = c.args.table.now in
    let given : Option (List Kept) = option_map (λ kept. kept.now) c.args.given in
    let left = parts_left nodes c.args.plan c.args.start (length c.args.mask.now) c.loop-next.place in
    let behind = parts_left nodes c.args.plan c.args.start (length c.args.mask.now) c.in-Some.next.behind in
    let Goal : List LeafRead → Type 0 = λ new. Adds (λ read. PartsVisit (IsLeafRead read) nodes given c.args.mask.now (parts_of nodes c.args.plan c.args.start (length c.args.mask.now))) c.args.reads.now.items new in
    let first : left ≡ c.in-Some.next.part ∷ behind = rw c.len.ensures at c.in-Some.ensures.left in
    elim c.match-next.branch [
      | add_reads-in-Rows+in_ok-add_row_reads-in-Rows w ↦ rw w.reads-is (record {
        added = next_adds IsLeafRead nodes given c.args.mask.now left behind c.in-Some.next.part (parts.Rows w.in-Rows.rows) first w.in-Rows.is Goal c.loop-next.reads.items w.add_row_reads.new.reads.items c.loop-next.invariant.added w.in_ok-add_row_reads-in-Rows.ensures.added;
        leaves = λ h. w.in_ok-add_row_reads-in-Rows.ensures.leaves (c.loop-next.invariant.leaves h);
      })
      | add_reads-in-All+in_ok-add_all_reads-in-All w ↦ rw w.reads-is (record {
        added = next_adds IsLeafRead nodes given c.args.mask.now left behind c.in-Some.next.part (parts.All w.in-All.child) first w.in-All.is Goal c.loop-next.reads.items w.add_all_reads.new.reads.items c.loop-next.invariant.added w.in_ok-add_all_reads-in-All.ensures.added;
        leaves = λ h. w.in_ok-add_all_reads-in-All.ensures.leaves (c.loop-next.invariant.leaves h);
      })
      | add_reads-in-Whole+in_ok-add_whole_reads-in-Whole w ↦ rw w.reads-is (record {
        added = next_adds IsLeafRead nodes given c.args.mask.now left behind c.in-Some.next.part (parts.Whole w.in-Whole.whole w.in-Whole.child) first w.in-Whole.is Goal c.loop-next.reads.items w.add_whole_reads.new.reads.items c.loop-next.invariant.added w.in_ok-add_whole_reads-in-Whole.ensures.added;
        leaves = λ h. w.in_ok-add_whole_reads-in-Whole.ensures.leaves (c.loop-next.invariant.leaves h);
      })
    ]

pub add_reads-returns : goal.add_reads-returns
add_reads-returns g c =
    let nodes = c.args.table.now in
    let given : Option (List Kept) = option_map (λ kept. kept.now) c.args.given in
    let Goal : List LeafRead → Type 0 = λ new. Adds (λ read. PartsVisit (IsLeafRead read) nodes given c.args.mask.now (parts_of nodes c.args.plan c.args.start (length c.args.mask.now))) c.args.reads.now.items new in
    record {
      added = parts_read nodes c.shape.ensures.good given c.args.plan c.requires.known c.shape.result c.shape.ensures.shape c.in_default.not-Leaf c.args.start c.args.mask.now c.if-selects_none.ensures c.args.reads.now.items c.loop-next.reads.items
          (parts_done IsLeafRead nodes given c.args.mask.now (parts_left nodes c.args.plan c.args.start (length c.args.mask.now) c.loop-next.place) (rw c.len.ensures at c.in_default-next_part.ensures) Goal c.loop-next.reads.items c.loop-next.invariant.added);
      leaves = c.loop-next.invariant.leaves;
    }

pub add_row_reads-returns-then-rows-len-clause-added : goal.add_row_reads-returns-then-rows-len-clause-added
add_row_reads-returns-then-rows-len-clause-added g c =
    let nodes = c.args.table.now in
    let handed = handed_by nodes (option_map (λ kept. kept.now) c.args.given) in
    let same : c.args.mask.now ≡ slice_range c.args.mask.now c.args.rows.from c.args.rows.to = all_rows_taken c.args.mask.now c.args.rows.from c.args.rows.to (omega arith) (omega arith) in
    on_ok_weaker c.add_reads.result (λ h. let F : List Bool → Type 0 = λ bits. Adds (Reads nodes handed c.args.rows.child c.args.rows.start bits) c.args.reads.now.items c.add_reads.new.reads.items in subst F same h) c.add_reads.ensures.added

pub add_row_reads-returns-clause-added : goal.add_row_reads-returns-clause-added
add_row_reads-returns-clause-added g c =
    let nodes = c.args.table.now in
    let handed = handed_by nodes (option_map (λ kept. kept.now) c.args.given) in
    on_ok_weaker c.add_reads-2.result (λ h. let F : List Bool → Type 0 = λ bits. Adds (Reads nodes handed c.args.rows.child c.args.rows.start bits) c.args.reads.now.items c.add_reads-2.new.reads.items in subst F c.in_ok-some.ensures h) c.add_reads-2.ensures.added

pub add_all_reads-returns-clause-added : goal.add_all_reads-returns-clause-added
add_all_reads-returns-clause-added g c =
    let nodes = c.args.table.now in
    let handed = handed_by nodes (option_map (λ kept. kept.now) c.args.given) in
    let bits : c.in_ok-all.all ≡ all_rows (node_at nodes c.args.plan).rows = c.in_ok-all.ensures ∙ ap (λ (rows : ℕ). replicate rows true) c.row_count.ensures in
    let F : List Bool → Type 0 = λ b. Adds (Reads nodes handed c.args.plan 0 b) c.args.reads.now.items c.add_reads.new.reads.items in
    on_ok_weaker c.add_reads.result (λ h. subst F bits h) c.add_reads.ensures.added

pub add_whole_reads-returns-clause-added : goal.add_whole_reads-returns-clause-added
add_whole_reads-returns-clause-added g c =
    let nodes = c.args.table.now in
    let n = c.args.plan in
    let old = c.args.reads.now.items in
    let new = c.add_reads.new.reads.items in
    let bits : c.in_ok-all.all ≡ replicate (node_at nodes n).rows true = c.in_ok-all.ensures ∙ ap (λ (rows : ℕ). replicate rows true) c.row_count.ensures in
    on_ok_weaker c.add_reads.result (λ h.
    let F : List Bool → Type 0 = λ b. Adds (Reads nodes None n 0 b) old new in
    whole_reads nodes (option_map (λ kept. kept.now) c.args.given) c.args.whole n c.if-is_handed.ensures old new (subst F bits h)) c.add_reads.ensures.added
