-- What a row of a table's plan reads through a take, each row reads that reads anything through it.
use Rattle.std.proofs.Common.{◌≡◌, ℕ, ◌<◌, List, Some, None, length, sym, ap, ◌∙◌, subst}
use Rattle.vx_rows.specs.Reads.{through}
use Rattle.vx_plan.specs.Nodes.{Node}
use Rattle.vx_plan.specs.Plans.{Plan, no_plan, concat_plan, eval_plan, filter_plan, pack_plan, take_plan, share_plan, list_plan, row_idx_plan, scan_plan, zoned_plan, pruning_plan, plan_head, plan_at, plan_gap}
use Rattle.vx_plan.specs.Tables.{IsGoodTable}
use Rattle.vx_steps.specs.declared.leaf_reads.LeafRead.{LeafRead}
use Rattle.vx_steps.specs.Given.{Handed, no_given}
use Rattle.vx_steps.specs.Visits.{SomeWholeVisit, IsLeafRead}
use Rattle.vx_steps.proofs.PlacedVisits.{Implies, InTable, IsPlaced, is_placed, visit_mapped, visit_placed}
use Rattle.vx_steps.proofs.AskedKnown.{head_number}
use Rattle.vx_chunks.specs.Ways.{IsReadThrough, ReadsBy}

-- some row of the plan's whole values reads the leaf: it is a take, or a share
abbrev IsOver : LeafRead → Plan → Type 0
IsOver read (take_plan head codes values) = SomeWholeVisit (IsLeafRead read) values (plan_head values).rows
IsOver read (share_plan head child) = SomeWholeVisit (IsLeafRead read) child (plan_head child).rows
IsOver read p = ⊥

-- the plan has the number besides
abbrev IsOverAs : ℕ → LeafRead → Plan → Type 0
IsOverAs take read p = ((plan_head p).number ≡ take) × IsOver read p

over_seen : (take : ℕ) (read : LeafRead) (handed : Handed) (p : Plan) (row : ℕ) → IsReadThrough take read handed p row → IsOverAs take read p
over_seen take read None p row v = absurd v
over_seen take read (Some given) (no_plan head) row v = absurd v
over_seen take read (Some given) (concat_plan head children) row v = absurd v
over_seen take read (Some given) (eval_plan head e child) row v = absurd v
over_seen take read (Some given) (filter_plan head child) row v = absurd v
over_seen take read (Some given) (pack_plan head children validity) row v = absurd v
over_seen take read (Some given) (take_plan head codes values) row v = v
over_seen take read (Some given) (share_plan head child) row v = v
over_seen take read (Some given) (list_plan head elements offsets validity) row v = absurd v
over_seen take read (Some given) (row_idx_plan head) row v = absurd v
over_seen take read (Some given) (scan_plan head segment coding) row v = absurd v
over_seen take read (Some given) (zoned_plan head zones content table) row v = absurd v
over_seen take read (Some given) (pruning_plan head pruning table) row v = absurd v

seen_over : (take : ℕ) (one other : LeafRead) (handed : Handed) (p : Plan) (row : ℕ) → IsReadThrough take one handed p row → IsOverAs take other p → IsReadThrough take other handed p row
seen_over take one other None p row v is = v
seen_over take one other (Some given) (no_plan head) row v is = v
seen_over take one other (Some given) (concat_plan head children) row v is = v
seen_over take one other (Some given) (eval_plan head e child) row v is = v
seen_over take one other (Some given) (filter_plan head child) row v is = v
seen_over take one other (Some given) (pack_plan head children validity) row v is = v
seen_over take one other (Some given) (take_plan head codes values) row v is = is
seen_over take one other (Some given) (share_plan head child) row v is = is
seen_over take one other (Some given) (list_plan head elements offsets validity) row v is = v
seen_over take one other (Some given) (row_idx_plan head) row v is = v
seen_over take one other (Some given) (scan_plan head segment coding) row v is = v
seen_over take one other (Some given) (zoned_plan head zones content table) row v is = v
seen_over take one other (Some given) (pruning_plan head pruning table) row v is = v

no_gap : (take : ℕ) (read : LeafRead) (handed : Handed) (row : ℕ) → IsReadThrough take read handed (plan_gap 0) row → ⊥
no_gap take read None row v = v
no_gap take read (Some given) row v = v

-- the plan of that number is one that the leaf is read through
over_at : (nodes : List Node) → IsGoodTable nodes → (take : ℕ) (read : LeafRead) → IsPlaced (IsReadThrough take read) nodes → IsOver read (plan_at nodes take)
over_at nodes good take read one =
    let is : IsOverAs take read (plan_at nodes one.number) = over_seen take read one.handed (plan_at nodes one.number) one.row one.is in
    let same : one.number ≡ take = sym (head_number nodes good one.number one.there) ∙ is.0 in
    subst (λ (m : ℕ). IsOver read (plan_at nodes m)) same is.1

pub read_below : (nodes : List Node) → IsGoodTable nodes → (n : ℕ) → n < length nodes → (take : ℕ) (one other : LeafRead) (row at : ℕ) → ReadsBy (through take) one (plan_at nodes n) row → ReadsBy (through take) other (plan_at nodes n) at → ReadsBy (through take) other (plan_at nodes n) row
read_below nodes good n there take one other row at v w =
    visit_mapped (InTable nodes (IsReadThrough take one)) (IsReadThrough take other) swap (Some no_given) (plan_at nodes n) row
    (visit_placed (IsReadThrough take one) (no_gap take one) nodes good n there (Some no_given) row v)
  where
    over : IsOver other (plan_at nodes take)
    over = over_at nodes good take other (is_placed (IsReadThrough take other) (no_gap take other) nodes good n there (Some no_given) at w)

    swap : Implies (InTable nodes (IsReadThrough take one)) (IsReadThrough take other)
    swap handed p place (seen, (m, less, same)) =
        let is : IsOverAs take one p = over_seen take one handed p place seen in
        let number : m ≡ take = sym (head_number nodes good m less) ∙ (ap (λ (q : Plan). (plan_head q).number) (sym same) ∙ is.0) in
        let plan_is : plan_at nodes take ≡ p = ap (plan_at nodes) (sym number) ∙ sym same in
        seen_over take one other handed p place seen (is.0, subst (IsOver other) plan_is over)
